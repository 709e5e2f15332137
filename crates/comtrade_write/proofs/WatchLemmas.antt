-- A watch after one more sample set.
use Rattle.std.proofs.Common.{◌≡◌, ◌∙◌, ℕ, ◌+◌, add-zero, Bool, true, false, refl, sym, ap, ap₂, subst, List, [], ◌∷◌, Option, Some, None}
use Rattle.sample_windows.specs.Below.{any_below}
use Rattle.sample_windows.specs.Numbered.{Rises}
use Rattle.trip_logic.specs.Seal.{stands}
use Rattle.relay_settings.specs.declared.types.Common.{Common}
use Rattle.relay_settings.specs.Settings.{PlainLine}
use Rattle.sv_frame.specs.Asdu.{PlainAsdu}
use Rattle.sample_stream.specs.declared.sample.Sample.{Sample}
use Rattle.event_record.specs.declared.event.Event.{Event}
use Rattle.line_relay.specs.declared.front.Step.{Step}
use Rattle.line_relay.specs.LineSamples.{Numbered, number_of_sample}
use Rattle.line_relay.specs.Outcomes.{number_taken, sample_in, taken_samples, outcome_of}
use Rattle.line_relay.specs.Steps.{step_by, step_of}
use Rattle.line_relay.specs.Operate.{is_tripped_at}
use Rattle.line_relay.specs.Bursts.{burst}
use Rattle.line_relay.proofs.FrontLemmas.{rises}
use Rattle.line_relay.proofs.LineLemmas.{newest, untaken, taken, came_is}
use Rattle.comtrade_write.specs.declared.covered.Recorded.{Recorded}
use Rattle.comtrade_write.specs.declared.window.Window.{Window}
use Rattle.comtrade_write.specs.Covered.{recorded, stands_now, trip_count, number_of_recorded}
use Rattle.comtrade_write.specs.Recordings.{trips_told}
use Rattle.comtrade_write.specs.Kept.{trip_after}
use Rattle.comtrade_write.specs.KeptWindow.{StandsFor}
use Rattle.comtrade_write.proofs.TripLemmas.{trip-told, begun, events-told}

-- no trip stands before the first sample
pub untripped : (common : Common) (settings : PlainLine) → is_tripped_at common settings [] ≡ false
unfolding stands any_below
untripped common settings = refl

stands-recorded : (common : Common) (settings : PlainLine) (past : List Numbered) → stands_now (recorded common settings past) ≡ is_tripped_at common settings past
stands-recorded common settings [] = sym (untripped common settings)
stands-recorded common settings (s ∷ older) = refl

pub rises-recorded : (common : Common) (settings : PlainLine) (past : List Numbered) → Rises number_of_sample past → Rises number_of_recorded (recorded common settings past)
rises-recorded common settings [] r = tt
rises-recorded common settings (s ∷ []) r = tt
rises-recorded common settings (s ∷ t ∷ older) r = (r.0, rises-recorded common settings (t ∷ older) r.1)

module _ (common : Common) (settings : PlainLine) (a : PlainAsdu) (asdus : List PlainAsdu) where
  abbrev past : List Numbered
  past = taken_samples common settings asdus

  -- the trip after the sample set, by what the line tells
  pub trip-after : (before : Bool) (events : List Event) (trip : Bool) → before ≡ stands_now (recorded common settings past) →
      events ≡ (burst common settings (a ∷ asdus)).events → trip ≡ trip_after before events →
      trip ≡ is_tripped_at common settings (taken_samples common settings (a ∷ asdus))
  trip-after before events trip was are is =
      is ∙ ap₂ trip_after (was ∙ stands-recorded common settings past) are ∙ trip-told common settings a asdus

  step-sample : (number : ℕ) → number_taken (outcome_of common settings a asdus) ≡ Some number → (step_of common settings a asdus).sample ≡ Some (sample_in common settings a)
  step-sample number some =
      ap (λ n. (step_by common settings (outcome_of common settings a asdus) n a (taken_samples common settings (a ∷ asdus))).sample) some

  pub same-recorded : number_taken (outcome_of common settings a asdus) ≡ None →
      recorded common settings (taken_samples common settings (a ∷ asdus)) ≡ recorded common settings past
  same-recorded none = ap (recorded common settings) (untaken common settings a asdus none)

  module _ (step : Step) (number : ℕ) (told : step ≡ step_of common settings a asdus) (is : number_taken step.outcome ≡ Some number) where
    pub is-taken : number_taken (outcome_of common settings a asdus) ≡ Some number
    is-taken = ap number_taken (came_is common settings a asdus step told) ∙ is

    pub sample-is : step.sample ≡ Some (sample_in common settings a)
    sample-is = ap (λ (s : Step). s.sample) told ∙ step-sample number is-taken

    abbrev made : ℕ → Sample → Bool → Recorded
    made number' sample' trip' = record { number = number'; sample = sample'; trip = trip' }

    next-is : (sample : Sample) (trip : Bool) → step.sample ≡ Some sample → trip ≡ is_tripped_at common settings (taken_samples common settings (a ∷ asdus)) →
        recorded common settings (taken_samples common settings (a ∷ asdus)) ≡ made number sample trip ∷ recorded common settings past
    next-is sample trip some tripped =
        let newer = taken common settings a asdus number is-taken in
        let same : sample_in common settings a ≡ sample = cc (sym sample-is ∙ some) in
        ap (recorded common settings) newer
        ∙ ap₂ (λ (s : Sample) (t : Bool). made number s t ∷ recorded common settings past) same
        (ap (is_tripped_at common settings) (sym newer) ∙ sym tripped)

    -- the window with the sample
    pub window-after : (k : ℕ) (sample : Sample) (trip : Bool) (window : Window) → step.sample ≡ Some sample →
        trip ≡ is_tripped_at common settings (taken_samples common settings (a ∷ asdus)) →
        (Rises number_of_recorded (made number sample trip ∷ recorded common settings past) → StandsFor common.n k (made number sample trip ∷ recorded common settings past) window) →
        StandsFor common.n k (recorded common settings (taken_samples common settings (a ∷ asdus))) window
    window-after k sample trip window some tripped takes =
        let e = next-is sample trip some tripped in
        let rising = rises-recorded common settings (taken_samples common settings (a ∷ asdus)) (rises common settings (a ∷ asdus)) in
        subst (λ (rs : List Recorded). StandsFor common.n k rs window) (sym e) (takes (subst (Rises number_of_recorded) e rising))

-- as many trips begin as the line tells
begun-same : (b : Bool) → begun b b ≡ 0
begun-same true = refl
begun-same false = refl

pub trips-are-told : (common : Common) (settings : PlainLine) (asdus : List PlainAsdu) →
    trips_told common settings asdus ≡ trip_count (recorded common settings (taken_samples common settings asdus))
trips-are-told common settings [] = refl
trips-are-told common settings (a ∷ older) =
    ap₂ (λ (m n : ℕ). m + n) (trips-are-told common settings older) (events-told common settings a older)
    ∙ by_taken (number_taken (outcome_of common settings a older)) refl
  where
    by_taken : (number : Option ℕ) → number_taken (outcome_of common settings a older) ≡ number →
        trip_count (recorded common settings (taken_samples common settings older))
        + begun (is_tripped_at common settings (taken_samples common settings older)) (is_tripped_at common settings (taken_samples common settings (a ∷ older)))
        ≡ trip_count (recorded common settings (taken_samples common settings (a ∷ older)))
    by_taken None is =
        let same = untaken common settings a older is in
        ap (λ (past : List Numbered). trip_count (recorded common settings (taken_samples common settings older))
        + begun (is_tripped_at common settings (taken_samples common settings older)) (is_tripped_at common settings past)) same
        ∙ ap (λ (n : ℕ). trip_count (recorded common settings (taken_samples common settings older)) + n) (begun-same (is_tripped_at common settings (taken_samples common settings older)))
        ∙ add-zero (trip_count (recorded common settings (taken_samples common settings older)))
        ∙ ap (λ (past : List Numbered). trip_count (recorded common settings past)) (sym same)
    by_taken (Some number) is =
        let newer = taken common settings a older number is in
        ap (λ (past : List Numbered). trip_count (recorded common settings (taken_samples common settings older))
        + begun (is_tripped_at common settings (taken_samples common settings older)) (is_tripped_at common settings past)) newer
        ∙ ap (λ (b : Bool). trip_count (recorded common settings (taken_samples common settings older))
        + begun b (is_tripped_at common settings (newest common settings a older number ∷ taken_samples common settings older)))
        (sym (stands-recorded common settings (taken_samples common settings older)))
        ∙ ap (λ (past : List Numbered). trip_count (recorded common settings past)) (sym newer)
