use Rattle.std.proofs.Common.{◌∙◌, refl, ◌+◌, ◌≡◌, add-zero}
use Rattle.std.specs.Prelude.{if◌then◌else◌}
use Rattle.comtrade_write.proofs.WindowLemmas.{trips-are, trip-is, items-are}
use Rattle.comtrade_write.proofs.window.Window.take.Goals as goal
use Rattle.comtrade_write.proofs.window.Window.take.Goals.{then-begins, else-begins}

pub returns-clause-after : goal.returns-clause-after
returns-clause-after c n k older rises stands =
    let w = c.args.self.now in
    let next = c.args.next in
    let begins = c.begins-begins.result in
    let trips = c.if-begins.trips in
    let counted : c.if-begins.trips ≡ c.args.self.now.trips + (if c.begins-begins.result then 1 else 0) =
    elim c.if-begins.branch [
      | then-begins w' ↦ rw w'.if-begins.true w'.trips-is
      | else-begins w' ↦ rw (w'.if-begins.false, add-zero) w'.trips-is
    ] in
    record {
      same_n = stands.same_n;
      same_k = stands.same_k;
      room = c.keep.ensures.room ∙ c.forget.ensures.room ∙ stands.room;
      trips = trips-are n k next older rises w stands begins trips c.begins-begins.ensures counted;
      stands = refl;
      trip = trip-is n k next older rises w stands begins trips c.begins-begins.ensures counted c.trip_with-trip.result c.trip_with-trip.ensures;
      items = items-are n k next older rises w stands begins trips c.begins-begins.ensures counted c.trip_with-trip.result c.trip_with-trip.ensures
          c.from-cycle.result c.saturating_sub.result c.forget.new.ring.capacity c.forget.new.ring.items c.keep.new.ring.items c.is_within.result
          c.from-cycle.ensures c.saturating_sub.ensures c.forget.ensures.room c.forget.ensures.items c.is_within.ensures c.keep.ensures.items;
    }
