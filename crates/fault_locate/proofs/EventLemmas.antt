-- How a sample set came tells neither a trip nor an operation, so a burst has the trip and the loop of the changes.
use Rattle.std.proofs.Common.{◌≡◌, ◌∙◌, ℕ, false, ◌||◌, refl, ap, List, [], ◌∷◌, ◌++◌, Option}
use Rattle.std.specs.Prelude.{slice_get}
use Rattle.std.specs.List.{filter_map, cons_option}
use Rattle.std.proofs.lemmas.List.Folds.{list_any-append}
use Rattle.std.proofs.lemmas.List.Elements.{filter_map-append}
use Rattle.sample_stream.specs.declared.numberer.Taken.TheVariants as taken
use Rattle.relay_settings.specs.declared.types.Common.{Common}
use Rattle.relay_settings.specs.declared.types.ZoneSettings.{ZoneSettings}
use Rattle.relay_settings.specs.Settings.{PlainLine}
use Rattle.sv_frame.specs.Asdu.{PlainAsdu}
use Rattle.event_record.specs.declared.time.At.{At}
use Rattle.event_record.specs.declared.event.What.{What}
use Rattle.event_record.specs.declared.event.Event.{Event}
use Rattle.line_relay.specs.declared.front.Outcome.{Outcome}
use Rattle.line_relay.specs.declared.front.Outcome.TheVariants as outcomes
use Rattle.line_relay.specs.LineSamples.{Numbered}
use Rattle.line_relay.specs.Outcomes.{taken_samples, outcome_of}
use Rattle.line_relay.specs.Facts.{facts_of}
use Rattle.line_relay.specs.Events.{arrival, changes, told}
use Rattle.line_relay.specs.Bursts.{PlainBurst, moment, burst}
use Rattle.fault_locate.specs.TripLoops.{is_trip, tripping_loop, tells_trip, is_trip_at, loop_at}
use Rattle.fault_locate.specs.TripEvents.{loop_of_event, has_trip, first_loop_of}

has-trip-told : (at : Option At) (whats : List What) → has_trip (told at whats) ≡ tells_trip whats
has-trip-told at [] = refl
has-trip-told at (w ∷ whats) = ap (λ b. is_trip w || b) (has-trip-told at whats)

loops-told : (zones : List ZoneSettings) (at : Option At) (whats : List What) → filter_map (loop_of_event zones) (told at whats) ≡ filter_map (tripping_loop zones) whats
loops-told zones at [] = refl
loops-told zones at (w ∷ whats) = either (tripping_loop zones w) _ _ (loops-told zones at whats)
  where
    either : (o : Option ℕ) (xs ys : List ℕ) → xs ≡ ys → cons_option o xs ≡ cons_option o ys
    either o xs ys e = ap (cons_option o) e

arrival-no-trip : (counter : ℕ) (o : Outcome) → tells_trip (arrival counter o) ≡ false
arrival-no-trip counter (outcomes.ConfRev got) = refl
arrival-no-trip counter (outcomes.Length got) = refl
arrival-no-trip counter (outcomes.Counter (taken.First number)) = refl
arrival-no-trip counter (outcomes.Counter (taken.Next number)) = refl
arrival-no-trip counter (outcomes.Counter (taken.Jump number missing)) = refl
arrival-no-trip counter (outcomes.Counter taken.Repeat) = refl
arrival-no-trip counter (outcomes.Counter (taken.Late behind)) = refl
arrival-no-trip counter (outcomes.Counter taken.Wild) = refl

arrival-no-loop : (zones : List ZoneSettings) (counter : ℕ) (o : Outcome) → filter_map (tripping_loop zones) (arrival counter o) ≡ []
arrival-no-loop zones counter (outcomes.ConfRev got) = refl
arrival-no-loop zones counter (outcomes.Length got) = refl
arrival-no-loop zones counter (outcomes.Counter (taken.First number)) = refl
arrival-no-loop zones counter (outcomes.Counter (taken.Next number)) = refl
arrival-no-loop zones counter (outcomes.Counter (taken.Jump number missing)) = refl
arrival-no-loop zones counter (outcomes.Counter taken.Repeat) = refl
arrival-no-loop zones counter (outcomes.Counter (taken.Late behind)) = refl
arrival-no-loop zones counter (outcomes.Counter taken.Wild) = refl

burst-trip : (at : Option At) (counter : ℕ) (o : Outcome) (whats : List What) → has_trip (told at (arrival counter o ++ whats)) ≡ tells_trip whats
burst-trip at counter o whats =
    has-trip-told at (arrival counter o ++ whats) ∙ list_any-append is_trip (arrival counter o) whats ∙ ap (λ b. b || tells_trip whats) (arrival-no-trip counter o)

burst-loops : (zones : List ZoneSettings) (at : Option At) (counter : ℕ) (o : Outcome) (whats : List What) →
    filter_map (loop_of_event zones) (told at (arrival counter o ++ whats)) ≡ filter_map (tripping_loop zones) whats
burst-loops zones at counter o whats =
    loops-told zones at (arrival counter o ++ whats) ∙ filter_map-append (tripping_loop zones) (arrival counter o) whats
    ∙ ap (λ xs. xs ++ filter_map (tripping_loop zones) whats) (arrival-no-loop zones counter o)

module _ (common : Common) (settings : PlainLine) (a : PlainAsdu) (asdus : List PlainAsdu) (s : Numbered) (items : List Event) (brought : PlainBurst)
    (is : brought ≡ burst common settings (a ∷ asdus)) (has : items ≡ brought.events)
    (newer : taken_samples common settings (a ∷ asdus) ≡ s ∷ taken_samples common settings asdus) where
  events-are : items ≡ told (moment common settings (a ∷ asdus)) (arrival a.counter (outcome_of common settings a asdus)
      ++ changes (facts_of common settings (taken_samples common settings asdus)) (facts_of common settings (s ∷ taken_samples common settings asdus)))
  events-are =
      has ∙ ap (λ (b : PlainBurst). b.events) is
      ∙ ap (λ samples. told (moment common settings (a ∷ asdus)) (arrival a.counter (outcome_of common settings a asdus)
      ++ changes (facts_of common settings (taken_samples common settings asdus)) (facts_of common settings samples))) newer

  pub trip-brought : has_trip items ≡ is_trip_at common settings (s ∷ taken_samples common settings asdus)
  trip-brought = ap has_trip events-are ∙ burst-trip (moment common settings (a ∷ asdus)) a.counter (outcome_of common settings a asdus) _

  pub loop-brought : first_loop_of settings.zones items ≡ loop_at common settings (s ∷ taken_samples common settings asdus)
  loop-brought =
      ap (first_loop_of settings.zones) events-are
      ∙ ap (λ loops. slice_get loops 0) (burst-loops settings.zones (moment common settings (a ∷ asdus)) a.counter (outcome_of common settings a asdus) _)
