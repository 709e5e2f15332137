-- Where no fact has changed, the published points are those of the sample before.
use Rattle.std.proofs.Common.{◌≡◌, ◌∙◌, Bool, true, false, ap, ap₂, sym, refl, List, [], ◌∷◌}
use Rattle.std.specs.Option.{ForSome}
use Rattle.std.proofs.lemmas.Bool.{false≢true}
use Rattle.std.proofs.lemmas.Option.{none-some, same_Some}
use Rattle.sample_windows.specs.Windows.{at_each}
use Rattle.relay_settings.specs.declared.types.Common.{Common}
use Rattle.relay_settings.specs.Settings.{PlainLine}
use Rattle.trip_logic.specs.Takes.{changed}
use Rattle.goose_publish.specs.Schedules.{points_now}
use Rattle.line_relay.specs.declared.shown.Shown.{Shown}
use Rattle.line_relay.specs.Shown.{facts_shown}
use Rattle.line_relay.specs.LineSamples.{Numbered}
use Rattle.line_relay.specs.Facts.{facts_of}
use Rattle.line_relay.specs.Points.{points_of, points_take}

-- a trip that neither rises nor falls is as it was
pub still : (was is : Bool) → (changed was is).rose ≡ false → (changed was is).fell ≡ false → was ≡ is
still true true r f = refl
still true false r f = absurd (false≢true (sym f))
still false true r f = absurd (false≢true (sym r))
still false false r f = refl

-- the points of the last take are those of the same facts and the same trip
pub same_points : (common : Common) (settings : PlainLine) (before now : Shown) (was is : Bool) (past : List Numbered) →
    before ≡ now → was ≡ is → facts_shown before was ≡ facts_of common settings past →
    ForSome (points_now (at_each (points_take common settings) past)) (λ last. last ≡ points_of (facts_shown now is))
unfolding at_each
same_points common settings before now was is [] e f holds = λ x none. absurd (none-some x none)
same_points common settings before now was is (p ∷ older) e f holds = λ x some.
    sym (same_Some _ _ some) ∙ ap points_of (sym holds) ∙ ap₂ (λ shown trip. points_of (facts_shown shown trip)) e f
