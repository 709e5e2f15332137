use Rattle.std.proofs.Common.{◌≡◌, ◌∙◌, ◌+◌, ◌≤◌, ◌^◌, refl, sym, ap, subst, ◌∷◌}
use Rattle.std.specs.Option.{ForSome}
use Rattle.relay_settings.specs.declared.types.Common.{Common}
use Rattle.relay_settings.specs.Settings.{PlainLine, plain_line}
use Rattle.sv_frame.specs.Asdu.{plain_asdu}
use Rattle.line_relay.specs.declared.front.Front.{Front}
use Rattle.line_relay.specs.declared.line.Line.{Line}
use Rattle.line_relay.specs.Bursts.{plain_burst}
use Rattle.line_relay.specs.Outcomes.{taken_samples}
use Rattle.line_relay.specs.KeptLine.{last_of as last_of_line, StandsFor as LineStandsFor}
use Rattle.line_relay.specs.Fronts.{StandsFor as FrontStandsFor}
use Rattle.fault_locate.specs.Locating.{located}
use Rattle.line_bank.proofs.LastNumberLaws.{larger-first, larger-grows}
use Rattle.fault_locate.specs.KeptLocator.{HoldsFor, line_last, front_last}
use Rattle.fault_locate.proofs.LocatorLemmas.{own-stands, none-located, same-samples, next_sample, is-next, located-next, holds-next}
use Rattle.fault_locate.proofs.locator.LocatorLineElement.take.Goals as goal

pub returns-in_default-clause-told : goal.returns-in_default-clause-told
returns-in_default-clause-told g c common asked settings asdus stands =
    none-located common settings (plain_asdu c.args.a.now) asdus c.take-step.result (c.take-step.ensures.step common settings asdus stands.front) (sym c.number.ensures ∙ c.in_default.is)

pub returns-in_default-clause-after : goal.returns-in_default-clause-after
returns-in_default-clause-after g c common asked settings asdus stands = record {
  same_common = stands.same_common;
  same_settings = stands.same_settings;
  line = c.take_into.ensures.after common settings asdus stands.line;
  front = c.take-step.ensures.after common settings asdus stands.front;
  holds = same-samples common settings (plain_asdu c.args.a.now) asdus c.take-step.result (c.take-step.ensures.step common settings asdus stands.front) (sym c.number.ensures ∙ c.in_default.is)
      c.args.self.now.lookback c.args.self.now.waiting stands.holds;
}

pub take_into-requires : goal.take_into-requires
take_into-requires g c = larger-first (line_last c.args.self.now) (front_last c.args.self.now) (2 ^ 60) c.requires

pub returns-in_default-clause-grows : goal.returns-in_default-clause-grows
returns-in_default-clause-grows g c =
    larger-grows (line_last c.args.self.now) (front_last c.args.self.now) (last_of_line c.take_into.new.self) c.take-step.new.self.numberer.last c.take_into.ensures.grows c.take-step.ensures.grows

pub returns-clause-grows : goal.returns-clause-grows
returns-clause-grows g c =
    larger-grows (line_last c.args.self.now) (front_last c.args.self.now) (line_last c.note.new.self) (front_last c.note.new.self)
    (λ most h. subst (λ (line : Line). ForSome (last_of_line line) (λ last. last ≤ most + 4800)) (sym c.note.ensures.same_line) (c.take_into.ensures.grows most h))
    (λ most h. subst (λ (front : Front). ForSome front.numberer.last (λ last. last ≤ most + 4800)) (sym c.note.ensures.same_front) (c.take-step.ensures.grows most h))

pub returns-clause-told : goal.returns-clause-told
returns-clause-told g c common asked settings asdus stands =
    let by : Common = c.args.self.now.common in
    let with' : PlainLine = plain_line c.args.self.now.settings in
    let a = plain_asdu c.args.a.now in
    let own = own-stands common settings asdus c.args.self.now stands in
    let step = c.take-step.ensures.step by with' asdus own.front in
    let is = sym c.number.ensures ∙ c.in-Some.is in
    let next = is-next by with' a asdus c.take-step.result step c.in-Some.number is c.follows.result c.last-last.result c.take_into.new.burst.events.items
    (plain_burst c.take_into.new.burst) c.follows.ensures (c.last-last.ensures.last by with' asdus own.front) (c.take_into.ensures.burst by with' asdus own.line) refl in
    let here : c.note.result ≡ located by with' (a ∷ asdus) = located-next by with' a asdus c.take-step.result step c.in-Some.number is c.note.result
    (c.note.ensures.told (next_sample by with' a asdus c.take-step.result step c.in-Some.number is) (taken_samples by with' asdus) next own.holds) in
    subst (λ (s : PlainLine). c.note.result ≡ located common s (a ∷ asdus)) stands.same_settings
    (subst (λ (b : Common). c.note.result ≡ located b with' (a ∷ asdus)) stands.same_common here)

pub returns-clause-after : goal.returns-clause-after
returns-clause-after g c common asked settings asdus stands =
    let by : Common = c.args.self.now.common in
    let with' : PlainLine = plain_line c.args.self.now.settings in
    let a = plain_asdu c.args.a.now in
    let own = own-stands common settings asdus c.args.self.now stands in
    let step = c.take-step.ensures.step by with' asdus own.front in
    let is = sym c.number.ensures ∙ c.in-Some.is in
    let next = is-next by with' a asdus c.take-step.result step c.in-Some.number is c.follows.result c.last-last.result c.take_into.new.burst.events.items
    (plain_burst c.take_into.new.burst) c.follows.ensures (c.last-last.ensures.last by with' asdus own.front) (c.take_into.ensures.burst by with' asdus own.line) refl in
    let here = holds-next by with' a asdus c.take-step.result step c.in-Some.number is c.note.new.self.lookback c.note.new.self.waiting
    (c.note.ensures.after (next_sample by with' a asdus c.take-step.result step c.in-Some.number is) (taken_samples by with' asdus) next own.holds) in
    record {
      same_common = c.note.ensures.same_common ∙ stands.same_common;
      same_settings = ap plain_line c.note.ensures.same_settings ∙ stands.same_settings;
      line = subst (LineStandsFor common settings (a ∷ asdus)) (sym c.note.ensures.same_line) (c.take_into.ensures.after common settings asdus stands.line);
      front = subst (FrontStandsFor common settings (a ∷ asdus)) (sym c.note.ensures.same_front) (c.take-step.ensures.after common settings asdus stands.front);
      holds = subst (λ (s : PlainLine). HoldsFor common s (taken_samples common s (a ∷ asdus)) c.note.new.self.lookback c.note.new.self.waiting) stands.same_settings
          (subst (λ (b : Common). HoldsFor b with' (taken_samples b with' (a ∷ asdus)) c.note.new.self.lookback c.note.new.self.waiting) stands.same_common here);
    }
