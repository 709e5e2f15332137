use Rattle.std.proofs.Common.{ℕ, ◌+◌, ◌∙◌, Bool, sym, ap, add-zero}
use Rattle.std.specs.Prelude.{if◌then◌else◌}
use Rattle.std.specs.List.{count_by}
use Rattle.sv_frame.specs.Asdu.{plain_asdu}
use Rattle.line_relay.specs.Bursts.{plain_burst}
use Rattle.relay_tool.specs.Tallies.{is_trip}
use Rattle.relay_tool.proofs.Counting.{counts-told, counts-none}
use Rattle.relay_tool.proofs.tally.count_set.Goals as goal

pub returns-then-is_some-clause-counts : goal.returns-then-is_some-clause-counts
returns-then-is_some-clause-counts g c settings past stands counts =
    counts-told settings past (plain_asdu c.args.a.now) c.in-Some.field-0 (plain_burst c.hear_into.new.burst) c.args.count.now _ (c.in-Some.ensures.told settings past stands) counts
    (ap (λ (n : ℕ). c.args.count.now.events + n) c.len.ensures.value)
    (sym (ap (λ (b : Bool). c.args.count.now.sends + (if b then 1 else 0)) (sym c.is_some.ensures ∙ c.if-is_some.true)))
    (ap (λ (n : ℕ). c.args.count.now.trips + n) (c.trips_in.ensures ∙ ap (count_by is_trip) c.as_slice.ensures.value))

pub returns-else-is_some-clause-counts : goal.returns-else-is_some-clause-counts
returns-else-is_some-clause-counts g c settings past stands counts =
    counts-told settings past (plain_asdu c.args.a.now) c.in-Some.field-0 (plain_burst c.hear_into.new.burst) c.args.count.now _ (c.in-Some.ensures.told settings past stands) counts
    (ap (λ (n : ℕ). c.args.count.now.events + n) c.len.ensures.value)
    (sym (ap (λ (b : Bool). c.args.count.now.sends + (if b then 1 else 0)) (sym c.is_some.ensures ∙ c.if-is_some.false) ∙ add-zero c.args.count.now.sends))
    (ap (λ (n : ℕ). c.args.count.now.trips + n) (c.trips_in.ensures ∙ ap (count_by is_trip) c.as_slice.ensures.value))

pub returns-in-None-clause-counts : goal.returns-in-None-clause-counts
returns-in-None-clause-counts g c settings past stands counts =
    counts-none settings past (plain_asdu c.args.a.now) c.args.count.now (rw c.in-None.is at c.hear_into.ensures.none settings past stands) counts
