-- A burst's events say whether the trip stands behind them: of all that is told, the change of the trip alone tells it.
use Rattle.std.proofs.Common.{◌≡◌, ◌∙◌, ℕ, zero, suc, ◌+◌, Bool, true, false, not, ◌&&◌, ◌||◌, refl, ap, ap₂, List, [], ◌∷◌, ◌++◌, Option}
use Rattle.std.specs.List.{list_any}
use Rattle.std.proofs.lemmas.Bool.{or_from}
use Rattle.std.proofs.lemmas.List.Folds.{list_any-append}
use Rattle.sample_stream.specs.declared.numberer.Taken.TheVariants as taken
use Rattle.event_record.specs.declared.time.At.{At}
use Rattle.event_record.specs.declared.event.What.{What}
use Rattle.event_record.specs.declared.event.What.TheVariants.{First, Jump, Ready, Lost, SwingOn, SwingOff, FuseOn, FuseOff, Entered, Left, Operate, Trip, Reset, ConfRev, Length, Wild, Repeat, Late}
use Rattle.line_relay.specs.declared.front.Outcome.{Outcome}
use Rattle.line_relay.specs.declared.front.Outcome.TheVariants as outcomes
use Rattle.line_relay.specs.Facts.{Facts}
use Rattle.line_relay.specs.declared.events.LoopFact.{LoopFact}
use Rattle.line_relay.specs.declared.events.LoopFact.TheVariants.{Inside, Operates}
use Rattle.line_relay.specs.Events.{arrival, edge, begins, concat_below, loop_edge, loop_edges, zone_edges, changes, told}
use Rattle.breaker_guard.specs.TripEvents.{is_trip, is_reset, tells, trip_after}

tells-told : (p : What → Bool) (at : Option At) (whats : List What) → list_any (tells p) (told at whats) ≡ list_any p whats
tells-told p at [] = refl
tells-told p at (w ∷ whats) = ap (λ b. p w || b) (tells-told p at whats)

-- a test that nothing but a trip or a reset passes
pub record IsOfTrips (p : What → Bool) : Type 0 where
  pub each : (what : What) → is_trip what ≡ false → is_reset what ≡ false → p what ≡ false

module _ (p : What → Bool) (of : IsOfTrips p) where
  one : (w : What) → is_trip w ≡ false → is_reset w ≡ false → list_any p (w ∷ []) ≡ false
  one w e f = or_from (p w) false (of.each w e f) refl

  arrival-none : (counter : ℕ) (o : Outcome) → list_any p (arrival counter o) ≡ false
  arrival-none counter (outcomes.ConfRev got) = one (ConfRev got) refl refl
  arrival-none counter (outcomes.Length got) = one (Length got) refl refl
  arrival-none counter (outcomes.Counter (taken.First number)) = one First refl refl
  arrival-none counter (outcomes.Counter (taken.Next number)) = refl
  arrival-none counter (outcomes.Counter (taken.Jump number missing)) = one (Jump missing) refl refl
  arrival-none counter (outcomes.Counter taken.Repeat) = one (Repeat counter) refl refl
  arrival-none counter (outcomes.Counter (taken.Late behind)) = one (Late counter behind) refl refl
  arrival-none counter (outcomes.Counter taken.Wild) = one (Wild counter) refl refl

  edge-none : (on off : What) (before now : Bool) → list_any p (on ∷ []) ≡ false → list_any p (off ∷ []) ≡ false → list_any p (edge on off before now) ≡ false
  edge-none on off false true e f = e
  edge-none on off true false e f = f
  edge-none on off false false e f = refl
  edge-none on off true true e f = refl

  begins-none : (on : What) (before now : Bool) → list_any p (on ∷ []) ≡ false → list_any p (begins on before now) ≡ false
  begins-none on false true e = e
  begins-none on false false e = refl
  begins-none on true now e = refl

  both-none : (xs ys : List What) → list_any p xs ≡ false → list_any p ys ≡ false → list_any p (xs ++ ys) ≡ false
  both-none xs ys e f = list_any-append p xs ys ∙ or_from (list_any p xs) (list_any p ys) e f

  concat-none : (n : ℕ) (f : ℕ → List What) → ((k : ℕ) → list_any p (f k) ≡ false) → list_any p (concat_below n f) ≡ false
  unfolding concat_below
  concat-none zero f each = refl
  concat-none (suc n) f each = both-none (concat_below n f) (f n) (concat-none n f each) (each n)

  loop_edge-none : (fact : LoopFact) (zone lp : ℕ) (before now : Bool) → list_any p (loop_edge fact zone lp before now) ≡ false
  loop_edge-none Inside zone lp before now = edge-none (Entered zone lp) (Left zone lp) before now (one (Entered zone lp) refl refl) (one (Left zone lp) refl refl)
  loop_edge-none Operates zone lp before now = begins-none (Operate zone lp) before now (one (Operate zone lp) refl refl)

  zone_edges-none : (fact : LoopFact) (before now : List ℕ) → list_any p (zone_edges fact before now) ≡ false
  unfolding zone_edges loop_edges
  zone_edges-none fact before now = concat-none 5 _ (λ place. concat-none 6 _ (λ lp. loop_edge-none fact (place + 1) lp _ _))

  -- of all changes that of the trip is left
  changes-tell : (before now : Facts) → list_any p (changes before now) ≡ list_any p (edge Trip Reset before.trip now.trip)
  changes-tell before now =
      list_any-append p _ (edge Trip Reset before.trip now.trip)
      ∙ ap (λ b. b || list_any p (edge Trip Reset before.trip now.trip))
      (both-none _ _ (both-none _ _ (both-none _ _ (both-none _ _
      (edge-none Ready Lost before.ready now.ready (one Ready refl refl) (one Lost refl refl))
      (edge-none SwingOn SwingOff before.swing now.swing (one SwingOn refl refl) (one SwingOff refl refl)))
      (edge-none FuseOn FuseOff before.fuse now.fuse (one FuseOn refl refl) (one FuseOff refl refl)))
      (zone_edges-none Inside before.inside now.inside))
      (zone_edges-none Operates before.operate now.operate))

  burst-tells : (at : Option At) (counter : ℕ) (o : Outcome) (before now : Facts) →
      list_any (tells p) (told at (arrival counter o ++ changes before now)) ≡ list_any p (edge Trip Reset before.trip now.trip)
  burst-tells at counter o before now =
      tells-told p at (arrival counter o ++ changes before now)
      ∙ list_any-append p (arrival counter o) (changes before now)
      ∙ ap₂ (λ b c. b || c) (arrival-none counter o) (changes-tell before now)

trips-of : IsOfTrips is_trip
trips-of = record { each = λ what e f. e }

resets-of : IsOfTrips is_reset
resets-of = record { each = λ what e f. f }

stands-after : (before now : Bool) → (list_any is_trip (edge Trip Reset before now) || (before && not (list_any is_reset (edge Trip Reset before now)))) ≡ now
stands-after true true = refl
stands-after true false = refl
stands-after false true = refl
stands-after false false = refl

-- the trip behind what is told where the facts were one and are the other
pub trip-told : (at : Option At) (counter : ℕ) (o : Outcome) (before now : Facts) →
    trip_after before.trip (told at (arrival counter o ++ changes before now)) ≡ now.trip
trip-told at counter o before now =
    ap₂ (λ trip reset. trip || (before.trip && not reset)) (burst-tells is_trip trips-of at counter o before now) (burst-tells is_reset resets-of at counter o before now)
    ∙ stands-after before.trip now.trip
