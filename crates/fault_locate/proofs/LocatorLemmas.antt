-- A line's locator after one more sample set, and a new one.
use Rattle.std.proofs.Common.{◌≡◌, ◌∙◌, ℕ, ◌^◌, ◌<◌, sym, ap, refl, subst, arith, List, [], ◌∷◌, Option, Some, None, ℤ, pos, neg_ℤ, unsigned_abs}
use Rattle.std.specs.Prelude.{Bool}
use Rattle.sample_windows.specs.Windows.{newest_where, at_each}
use Rattle.sample_windows.specs.Numbered.{Rises, run_of}
use Rattle.relay_num.proofs.Signed.{signed, one_part}
use Rattle.relay_settings.specs.declared.types.Common.{Common}
use Rattle.relay_settings.specs.declared.types.LineSettings.{LineSettings}
use Rattle.relay_settings.specs.Settings.{PlainLine, plain_line}
use Rattle.relay_settings.specs.Ranges.{IsImpedance, IsWhole}
use Rattle.sv_frame.specs.Asdu.{PlainAsdu}
use Rattle.event_record.specs.declared.event.Event.{Event}
use Rattle.line_relay.specs.declared.front.Step.{Step}
use Rattle.line_relay.specs.LineSamples.{Numbered, number_of_sample}
use Rattle.line_relay.specs.Phasors.{phasors_of}
use Rattle.line_relay.specs.Outcomes.{number_taken, taken_samples, taken_number, outcome_of}
use Rattle.line_relay.specs.Steps.{step_of}
use Rattle.line_relay.specs.Bursts.{PlainBurst, burst}
use Rattle.line_relay.proofs.FrontLemmas.{rises}
use Rattle.line_relay.proofs.LineLemmas.{newest, taken, untaken, came_is, step_phasors}
use Rattle.fault_locate.specs.declared.located.Located.{Located}
use Rattle.fault_locate.specs.declared.lookback.Lookback.{Lookback}
use Rattle.fault_locate.specs.declared.waiting.Waiting.{Waiting}
use Rattle.fault_locate.specs.declared.locator.Locator.{Locator}
use Rattle.fault_locate.specs.Locating.{located_at, located_by, located}
use Rattle.fault_locate.specs.KeptLookback.{StandsFor as LookbackStandsFor}
use Rattle.fault_locate.specs.KeptWaiting.{IsModest}
use Rattle.fault_locate.specs.NextSample.{follows_last, IsNext}
use Rattle.fault_locate.specs.KeptLocator.{HoldsFor, StandsFor}
use Rattle.fault_locate.proofs.EventLemmas.{trip-brought, loop-brought}

-- a locator stands for sample sets by its own settings
pub own-stands : (common : Common) (settings : PlainLine) (asdus : List PlainAsdu) (locator : Locator) → StandsFor common settings asdus locator →
    StandsFor locator.common (plain_line locator.settings) asdus locator
own-stands common settings asdus locator stands =
    subst (λ (c : Common). StandsFor c (plain_line locator.settings) asdus locator) (sym stands.same_common)
    (subst (λ (s : PlainLine). StandsFor common s asdus locator) (sym stands.same_settings) stands)

module _ (common : Common) (settings : PlainLine) (a : PlainAsdu) (asdus : List PlainAsdu) (step : Step) (told : step ≡ step_of common settings a asdus) where
  -- a sample set that isn't taken
  pub none-located : number_taken step.outcome ≡ None → None ≡ located common settings (a ∷ asdus)
  none-located none =
      sym (ap (λ o. located_by common settings o (taken_samples common settings (a ∷ asdus))) (ap number_taken (came_is common settings a asdus step told) ∙ none))

  pub same-samples : number_taken step.outcome ≡ None → (lookback : Lookback) (waiting : Option Waiting) →
      HoldsFor common settings (taken_samples common settings asdus) lookback waiting → HoldsFor common settings (taken_samples common settings (a ∷ asdus)) lookback waiting
  same-samples none lookback waiting holds =
      subst (λ samples. HoldsFor common settings samples lookback waiting)
      (sym (untaken common settings a asdus (ap number_taken (came_is common settings a asdus step told) ∙ none))) holds

  -- one that is
  module _ (number : ℕ) (is : number_taken step.outcome ≡ Some number) where
    abbrev pub next_sample : Numbered
    next_sample = newest common settings a asdus number

    some-taken : number_taken (outcome_of common settings a asdus) ≡ Some number
    some-taken = ap number_taken (came_is common settings a asdus step told) ∙ is

    newer : taken_samples common settings (a ∷ asdus) ≡ next_sample ∷ taken_samples common settings asdus
    newer = taken common settings a asdus number some-taken

    pub is-next : (follows : Bool) (last : Option ℕ) (items : List Event) (brought : PlainBurst) → follows ≡ follows_last last number → last ≡ taken_number common settings asdus →
        brought ≡ burst common settings (a ∷ asdus) → items ≡ brought.events →
        IsNext common settings next_sample (taken_samples common settings asdus) number follows step.phasors items
    is-next follows last items brought f l b has = record {
      same_number = refl;
      rises = subst (Rises number_of_sample) newer (rises common settings (a ∷ asdus));
      same_follows = f ∙ ap (λ o. follows_last o number) l;
      formed = ap (λ (t : Step). t.phasors) told ∙ step_phasors common settings a asdus number some-taken ∙ ap (phasors_of common.n settings.mimic) newer;
      trip = trip-brought common settings a asdus next_sample items brought b has newer;
      loop = loop-brought common settings a asdus next_sample items brought b has newer;
    }

    pub located-next : (result : Option Located) → result ≡ located_at common settings (next_sample ∷ taken_samples common settings asdus) → result ≡ located common settings (a ∷ asdus)
    located-next result e =
        e ∙ ap (located_at common settings) (sym newer) ∙ ap (λ o. located_by common settings o (taken_samples common settings (a ∷ asdus))) (sym some-taken)

    pub holds-next : (lookback : Lookback) (waiting : Option Waiting) → HoldsFor common settings (next_sample ∷ taken_samples common settings asdus) lookback waiting →
        HoldsFor common settings (taken_samples common settings (a ∷ asdus)) lookback waiting
    holds-next lookback waiting holds = subst (λ samples. HoldsFor common settings samples lookback waiting) (sym newer) holds

-- of no samples
pub none-held : (common : Common) (settings : PlainLine) (lookback : Lookback) → LookbackStandsFor common.n [] lookback → HoldsFor common settings [] lookback None
unfolding newest_where run_of at_each
none-held common settings lookback new = record { lookback = new; waiting = refl }

factor-below : (z : ℤ) → IsWhole (neg_ℤ (pos 4000)) (pos 4000) z → unsigned_abs z < 4001
factor-below z h = omega (arith, signed, one_part z, h.0, h.1)

impedance-below : (low : ℕ) (z : ℤ) → IsWhole (pos low) (pos 1000000) z → unsigned_abs z < 2 ^ 20
impedance-below low z h = omega (arith, signed, one_part z, h.0, h.1)

-- settings in range have parts so small
pub modest : (settings : LineSettings) → IsImpedance settings.line_r settings.line_x settings.k0_re settings.k0_im → IsModest (plain_line settings)
modest settings ranges = record {
  k0 = record { re = factor-below settings.k0_re ranges.k0_re; im = factor-below settings.k0_im ranges.k0_im };
  impedance = record { re = impedance-below 0 settings.line_r ranges.line_r; im = impedance-below 1 settings.line_x ranges.line_x };
}
