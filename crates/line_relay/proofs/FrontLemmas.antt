-- The samples of a front: their numbers rise, and each has eight values.
use Rattle.std.proofs.Common.{◌≡◌, ℕ, zero, suc, ◌+◌, ◌<◌, ◌≤◌, ◌==◌, Bool, true, false, cond, refl, sym, ◌∙◌, arith, List, [], ◌∷◌, Option, Some, None, length, drop, replicate, pos, ap, unwrap_or, inl, inr}
use Rattle.std.specs.Prelude.{is_some}
use Rattle.relay_settings.specs.Ranges.{IsCommon}
use Rattle.std.proofs.lemmas.Bool.{lt-leb, false≢true}
use Rattle.std.proofs.lemmas.Bool.Decides.{nat_tests}
use Rattle.sample_windows.specs.Numbered.{run_of, Rises}
use Rattle.sample_windows.proofs.NumberedLemmas.{held_for-run}
use Rattle.relay_settings.specs.declared.types.Common.{Common}
use Rattle.relay_settings.specs.declared.types.Mimic.{Mimic}
use Rattle.relay_settings.specs.Settings.{PlainLine}
use Rattle.sv_frame.specs.Asdu.{PlainAsdu}
use Rattle.sv_frame.specs.Channels.{channels_of}
use Rattle.sv_frame.specs.declared.channel.Channel.{Channel}
use Rattle.sample_stream.specs.Taken.{number_of}
use Rattle.sample_stream.specs.Numbering.{outcome, Follows}
use Rattle.sample_stream.specs.declared.numberer.Taken.{Taken}
use Rattle.sample_stream.specs.declared.numberer.Taken.TheVariants.{First, Next, Jump, Repeat, Late, Wild}
use Rattle.sample_stream.proofs.Follows.{outcome_follows}
use Rattle.relay_num.specs.declared.Cx.{Cx}
use Rattle.sample_stream.specs.declared.sample.Sample.{Sample}
use Rattle.sample_stream.specs.Samples.{is_good, used_values}
use Rattle.line_relay.specs.declared.front.Outcome.{Outcome}
use Rattle.line_relay.specs.declared.front.Outcome.TheVariants.{ConfRev, Length, Counter}
use Rattle.line_relay.specs.declared.front.Step.{Step}
use Rattle.line_relay.specs.LineSamples.{Numbered, number_of_sample, newest_of, good_now, values_now, needed, is_ready}
use Rattle.relay_num.specs.Bounds.{is_cycle}
use Rattle.line_relay.proofs.CycleLemmas.{AllEight}
use Rattle.line_relay.specs.Outcomes.{number_taken, sample_in, with_sample, outcome_of, taken_samples, taken_number}
use Rattle.line_relay.specs.Steps.{step_by}

pub never_ready : (n : ℕ) (mimic : Option Mimic) → 1 ≤ n → is_ready n mimic [] ≡ false
unfolding run_of
never_ready n mimic some = held_for-run number_of_sample good_now refl (n + needed mimic) [] tt ∙ lt-leb (n + needed mimic) 0 (omega arith)

-- the channels are there exactly where the data have 64 bytes
pub channels_some : (bytes : List ℕ) (channels : List Channel) → channels_of bytes ≡ Some channels →
    ((length bytes == 64) ≡ true) × (unwrap_or (channels_of bytes) [] ≡ channels)
channels_some bytes channels e = (by_length (length bytes == 64) _ e, ap (λ found. unwrap_or found []) e)
  where
    by_length : (long : Bool) (all : List Channel) → cond long (Some all) None ≡ Some channels → long ≡ true
    by_length true all e = refl
    by_length false all e = cc

module _ (common : Common) (settings : PlainLine) where
  rises_next : (o : Taken) (a : PlainAsdu) (ss : List Numbered) → Follows (newest_of ss) o → Rises number_of_sample ss →
      Rises number_of_sample (with_sample common settings (number_of o) a ss)
  rises_next (First n) a [] f r = tt
  rises_next (First n) a (t ∷ older) f r = absurd f
  rises_next (Next n) a [] f r = absurd f
  rises_next (Next n) a (t ∷ older) f r = (omega (arith, f), r)
  rises_next (Jump n m) a [] f r = absurd f
  rises_next (Jump n m) a (t ∷ older) f r = (omega (arith, f.0, f.1), r)
  rises_next Repeat a ss f r = r
  rises_next (Late b) a ss f r = r
  rises_next Wild a ss f r = r

  -- the numbers of the samples rise
  pub rises : (asdus : List PlainAsdu) → Rises number_of_sample (taken_samples common settings asdus)
  rises [] = tt
  rises (a ∷ older) = step (rises older) (a.conf_rev == settings.conf_rev) (length a.samples == 64)
    where
      step : Rises number_of_sample (taken_samples common settings older) → (rev long : Bool) →
          Rises number_of_sample (with_sample common settings (number_taken
          (cond rev (cond long (Counter (outcome common.rate (taken_number common settings older) a.counter)) (Length (length a.samples))) (ConfRev a.conf_rev)))
          a (taken_samples common settings older))
      step before true true = rises_next (outcome common.rate (taken_number common settings older) a.counter) a (taken_samples common settings older)
          (outcome_follows common.rate (taken_number common settings older) a.counter) before
      step before true false = before
      step before false long = before

  eight_next : (number : Option ℕ) (a : PlainAsdu) (ss : List Numbered) → length (sample_in common settings a).values ≡ 8 → AllEight ss →
      AllEight (with_sample common settings number a ss)
  eight_next None a ss e h = h
  eight_next (Some n) a ss e h = λ k lt. each k lt
    where
      each : (k : ℕ) → k < suc (length ss) → length (values_now (drop k (record { number = n; sample = sample_in common settings a } ∷ ss))) ≡ 8
      each zero lt = e
      each (suc k) lt = h k (omega arith)

  sample_eight : (a : PlainAsdu) → length (sample_in common settings a).values ≡ 8
  sample_eight a = either (is_good settings.quality_mask settings.synch_min a.synch (unwrap_or (channels_of a.samples) []))
    where
      either : (good : Bool) →
          length (cond {A = Sample} good (record { values = used_values (unwrap_or (channels_of a.samples) []); good = true }) (record { values = replicate 8 (pos 0); good = false })).values ≡ 8
      either true = refl
      either false = refl

  -- each of the samples has eight values
  pub eights : (asdus : List PlainAsdu) → AllEight (taken_samples common settings asdus)
  eights [] = λ k lt. absurd (omega arith)
  eights (a ∷ older) = eight_next (number_taken (outcome_of common settings a older)) a (taken_samples common settings older) (sample_eight a) (eights older)

  samples_by : (o : Outcome) (number : Option ℕ) (a : PlainAsdu) (ss : List Numbered) →
      is_some (step_by common settings o number a (with_sample common settings number a ss)).sample ≡ false → with_sample common settings number a ss ≡ ss
  samples_by o None a ss e = refl
  samples_by o (Some n) a ss e = absurd (false≢true (sym e))

-- a cycle has some samples
pub some_cycle : (common : Common) → IsCommon common → (1 ≤ common.n) × (common.n ≤ 96)
some_cycle common is = elim is.cycle [
  | inl first ↦ omega (arith, first.2)
  | inr (inl second) ↦ omega (arith, second.2)
  | inr (inr third) ↦ omega (arith, third.2)
]

-- and more than one
pub two_cycle : (common : Common) → IsCommon common → 2 ≤ common.n
two_cycle common is = elim is.cycle [
  | inl first ↦ omega (arith, first.2)
  | inr (inl second) ↦ omega (arith, second.2)
  | inr (inr third) ↦ omega (arith, third.2)
]

-- what a line keeps of what all lines share
pub common_rated : (common : Common) → IsCommon common → 1 < common.rate
common_rated common is = elim is.cycle [
  | inl first ↦ omega (arith, first.0)
  | inr (inl second) ↦ omega (arith, second.0)
  | inr (inr third) ↦ omega (arith, third.0)
]

pub common_cycle : (common : Common) → IsCommon common → is_cycle common.n ≡ true
common_cycle common is = elim is.cycle [
  | inl first ↦ ap is_cycle first.2
  | inr (inl second) ↦ ap is_cycle second.2
  | inr (inr third) ↦ ap is_cycle third.2
]

pub cycle_two : (n : ℕ) → is_cycle n ≡ true → 2 ≤ n
cycle_two n e = grind (arith, nat_tests)

pub cycle_some : (n : ℕ) → is_cycle n ≡ true → 0 < n
cycle_some zero e = absurd (false≢true e)
cycle_some (suc n) e = omega arith

pub cycle_few : (n : ℕ) → is_cycle n ≡ true → n ≤ 96
cycle_few n e = grind (arith, nat_tests)

abbrev pub step_taken : Outcome → Sample → Option (List Cx) → Step
step_taken o s p = record { outcome = o; sample = Some s; phasors = p }
