-- What the events of a line tell of its trip.
use Rattle.std.proofs.Common.{◌≡◌, ◌∙◌, ℕ, zero, suc, ◌+◌, Bool, true, false, refl, ap, ap₂, zero-add, List, [], ◌∷◌, ◌++◌, Option}
use Rattle.std.specs.Prelude.{◌&&◌, not, fold, count_by, if◌then◌else◌}
use Rattle.std.proofs.lemmas.List.Sums.{fold-append, sum_by-append}
use Rattle.std.proofs.lemmas.List.Folds.{fold-map}
use Rattle.sample_stream.specs.declared.numberer.Taken.TheVariants as taken
use Rattle.relay_settings.specs.declared.types.Common.{Common}
use Rattle.relay_settings.specs.Settings.{PlainLine}
use Rattle.sv_frame.specs.Asdu.{PlainAsdu}
use Rattle.event_record.specs.declared.time.At.{At}
use Rattle.event_record.specs.declared.event.What.{What}
use Rattle.event_record.specs.declared.event.What.TheVariants.{First, Jump, Ready, Lost, SwingOn, SwingOff, FuseOn, FuseOff, Entered, Left, Operate, Trip, Reset, ConfRev, Length, Wild, Repeat, Late}
use Rattle.event_record.specs.declared.event.Event.{Event}
use Rattle.event_record.specs.declared.event.Event.TheVariants.{Line}
use Rattle.line_relay.specs.declared.front.Outcome.{Outcome}
use Rattle.line_relay.specs.declared.front.Outcome.TheVariants as outcomes
use Rattle.line_relay.specs.Facts.{Facts, facts_of}
use Rattle.line_relay.specs.declared.events.LoopFact.{LoopFact}
use Rattle.line_relay.specs.declared.events.LoopFact.TheVariants.{Inside, Operates}
use Rattle.line_relay.specs.Events.{arrival, edge, begins, changes, told, concat_below, loop_edge, loop_edges, zone_edges}
use Rattle.line_relay.specs.Outcomes.{outcome_of, taken_samples}
use Rattle.line_relay.specs.Bursts.{moment, burst}
use Rattle.comtrade_write.specs.Recordings.{is_trip_what, is_trip}
use Rattle.comtrade_write.specs.Kept.{trip_of, trip_by, trip_after}

-- what tells nothing of the trip
record IsQuiet (whats : List What) : Type 0 where
  each : (stands : Bool) → fold trip_of stands whats ≡ stands
  none : count_by is_trip_what whats ≡ 0

quiet-nil : IsQuiet []
quiet-nil = record { each = λ stands. refl; none = refl }

-- one that is told of something else
record IsOther (what : What) : Type 0 where
  keeps : (stands : Bool) → trip_of stands what ≡ stands
  other : is_trip_what what ≡ false

quiet-one : (what : What) → IsOther what → IsQuiet (what ∷ [])
quiet-one what h = record { each = h.keeps; none = rw h.other }

quiet-append : (xs ys : List What) → IsQuiet xs → IsQuiet ys → IsQuiet (xs ++ ys)
quiet-append xs ys hx hy = record {
  each = λ stands. (fold-append trip_of stands xs ys ∙ ap (λ (b : Bool). fold trip_of b ys) (hx.each stands) ∙ hy.each stands);
  none = sum_by-append (λ w. if is_trip_what w then 1 else 0) xs ys ∙ ap₂ (λ (m n : ℕ). m + n) hx.none hy.none;
}

quiet-arrival : (counter : ℕ) (o : Outcome) → IsQuiet (arrival counter o)
quiet-arrival counter (outcomes.ConfRev got) = quiet-one (ConfRev got) (record { keeps = λ stands. refl; other = refl })
quiet-arrival counter (outcomes.Length got) = quiet-one (Length got) (record { keeps = λ stands. refl; other = refl })
quiet-arrival counter (outcomes.Counter (taken.First number)) = quiet-one First (record { keeps = λ stands. refl; other = refl })
quiet-arrival counter (outcomes.Counter (taken.Next number)) = quiet-nil
quiet-arrival counter (outcomes.Counter (taken.Jump number missing)) = quiet-one (Jump missing) (record { keeps = λ stands. refl; other = refl })
quiet-arrival counter (outcomes.Counter taken.Repeat) = quiet-one (Repeat counter) (record { keeps = λ stands. refl; other = refl })
quiet-arrival counter (outcomes.Counter (taken.Late behind)) = quiet-one (Late counter behind) (record { keeps = λ stands. refl; other = refl })
quiet-arrival counter (outcomes.Counter taken.Wild) = quiet-one (Wild counter) (record { keeps = λ stands. refl; other = refl })

quiet-edge : (on off : What) (before now : Bool) → IsOther on → IsOther off → IsQuiet (edge on off before now)
quiet-edge on off false true h k = quiet-one on h
quiet-edge on off true false h k = quiet-one off k
quiet-edge on off false false h k = quiet-nil
quiet-edge on off true true h k = quiet-nil

quiet-begins : (on : What) (before now : Bool) → IsOther on → IsQuiet (begins on before now)
quiet-begins on false true h = quiet-one on h
quiet-begins on false false h = quiet-nil
quiet-begins on true now h = quiet-nil

quiet-concat : (n : ℕ) (f : ℕ → List What) → ((k : ℕ) → IsQuiet (f k)) → IsQuiet (concat_below n f)
unfolding concat_below
quiet-concat zero f each = quiet-nil
quiet-concat (suc n) f each = quiet-append _ _ (quiet-concat n f each) (each n)

quiet-loop_edge : (fact : LoopFact) (zone lp : ℕ) (before now : Bool) → IsQuiet (loop_edge fact zone lp before now)
quiet-loop_edge Inside zone lp before now = quiet-edge (Entered zone lp) (Left zone lp) before now (record { keeps = λ stands. refl; other = refl }) (record { keeps = λ stands. refl; other = refl })
quiet-loop_edge Operates zone lp before now = quiet-begins (Operate zone lp) before now (record { keeps = λ stands. refl; other = refl })

quiet-zone_edges : (fact : LoopFact) (before now : List ℕ) → IsQuiet (zone_edges fact before now)
unfolding zone_edges loop_edges
quiet-zone_edges fact before now = quiet-concat 5 _ (λ place. quiet-concat 6 _ (λ lp. quiet-loop_edge fact (place + 1) lp _ _))

-- what stands before the trip's own change
abbrev other_changes : Facts → Facts → List What
other_changes before now =
    edge Ready Lost before.ready now.ready
    ++ edge SwingOn SwingOff before.swing now.swing
    ++ edge FuseOn FuseOff before.fuse now.fuse
    ++ zone_edges Inside before.inside now.inside
    ++ zone_edges Operates before.operate now.operate

quiet-others : (before now : Facts) → IsQuiet (other_changes before now)
quiet-others before now =
    quiet-append _ _ (quiet-append _ _ (quiet-append _ _ (quiet-append _ _
    (quiet-edge Ready Lost before.ready now.ready (record { keeps = λ stands. refl; other = refl }) (record { keeps = λ stands. refl; other = refl }))
    (quiet-edge SwingOn SwingOff before.swing now.swing (record { keeps = λ stands. refl; other = refl }) (record { keeps = λ stands. refl; other = refl })))
    (quiet-edge FuseOn FuseOff before.fuse now.fuse (record { keeps = λ stands. refl; other = refl }) (record { keeps = λ stands. refl; other = refl })))
    (quiet-zone_edges Inside before.inside now.inside))
    (quiet-zone_edges Operates before.operate now.operate)

trip-edge : (before now : Bool) → fold trip_of before (edge Trip Reset before now) ≡ now
trip-edge false true = refl
trip-edge true false = refl
trip-edge false false = refl
trip-edge true true = refl

trip-changes : (before now : Facts) (counter : ℕ) (o : Outcome) → fold trip_of before.trip (arrival counter o ++ changes before now) ≡ now.trip
trip-changes before now counter o =
    fold-append trip_of before.trip (arrival counter o) (changes before now)
    ∙ ap (λ (b : Bool). fold trip_of b (changes before now)) ((quiet-arrival counter o).each before.trip)
    ∙ fold-append trip_of before.trip (other_changes before now) (edge Trip Reset before.trip now.trip)
    ∙ ap (λ (b : Bool). fold trip_of b (edge Trip Reset before.trip now.trip)) ((quiet-others before now).each before.trip)
    ∙ trip-edge before.trip now.trip

-- the trip after the events of one more sample set
pub trip-told : (common : Common) (settings : PlainLine) (a : PlainAsdu) (asdus : List PlainAsdu) →
    trip_after (facts_of common settings (taken_samples common settings asdus)).trip (burst common settings (a ∷ asdus)).events
    ≡ (facts_of common settings (taken_samples common settings (a ∷ asdus))).trip
trip-told common settings a asdus =
    fold-map trip_by (Line (moment common settings (a ∷ asdus))) (facts_of common settings (taken_samples common settings asdus)).trip
    (arrival a.counter (outcome_of common settings a asdus)
    ++ changes (facts_of common settings (taken_samples common settings asdus)) (facts_of common settings (taken_samples common settings (a ∷ asdus))))
    ∙ trip-changes (facts_of common settings (taken_samples common settings asdus)) (facts_of common settings (taken_samples common settings (a ∷ asdus)))
    a.counter (outcome_of common settings a asdus)

-- a trip that begins, as a count
abbrev pub begun : Bool → Bool → ℕ
begun before now = if now && not before then 1 else 0

-- the `trip` events of one more sample set
trip-event : (before now : Bool) → count_by is_trip_what (edge Trip Reset before now) ≡ begun before now
trip-event false true = refl
trip-event true false = refl
trip-event false false = refl
trip-event true true = refl

event-changes : (before now : Facts) (counter : ℕ) (o : Outcome) →
    count_by is_trip_what (arrival counter o ++ changes before now) ≡ begun before.trip now.trip
event-changes before now counter o =
    sum_by-append (λ w. if is_trip_what w then 1 else 0) (arrival counter o) (changes before now)
    ∙ ap₂ (λ (m n : ℕ). m + n) (quiet-arrival counter o).none
    (sum_by-append (λ w. if is_trip_what w then 1 else 0) (other_changes before now) (edge Trip Reset before.trip now.trip)
    ∙ ap₂ (λ (m n : ℕ). m + n) (quiet-others before now).none (trip-event before.trip now.trip)
    ∙ zero-add (begun before.trip now.trip))
    ∙ zero-add (begun before.trip now.trip)

count-told : (at : Option At) (whats : List What) → count_by is_trip (told at whats) ≡ count_by is_trip_what whats
count-told at whats = fold-map (λ (n : ℕ) (e : Event). n + (if is_trip e then 1 else 0)) (Line at) 0 whats

pub events-told : (common : Common) (settings : PlainLine) (a : PlainAsdu) (asdus : List PlainAsdu) →
    count_by is_trip (burst common settings (a ∷ asdus)).events
    ≡ begun (facts_of common settings (taken_samples common settings asdus)).trip (facts_of common settings (taken_samples common settings (a ∷ asdus))).trip
events-told common settings a asdus =
    count-told (moment common settings (a ∷ asdus))
    (arrival a.counter (outcome_of common settings a asdus)
    ++ changes (facts_of common settings (taken_samples common settings asdus)) (facts_of common settings (taken_samples common settings (a ∷ asdus))))
    ∙ event-changes (facts_of common settings (taken_samples common settings asdus)) (facts_of common settings (taken_samples common settings (a ∷ asdus)))
    a.counter (outcome_of common settings a asdus)
