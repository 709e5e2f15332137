-- What the front says of each sample set of a line: how it came, its sample, and the phasors at it.
use Rattle.std.specs.Prelude.{ℕ, List, ◌∷◌, Option, Some, None}
use Rattle.relay_settings.specs.declared.types.Common.{Common}
use Rattle.relay_settings.specs.Settings.{PlainLine}
use Rattle.sv_frame.specs.Asdu.{PlainAsdu}
use Rattle.line_relay.specs.declared.front.Outcome.{Outcome}
use Rattle.line_relay.specs.declared.front.Step.{Step}
use Rattle.line_relay.specs.LineSamples.{Numbered}
use Rattle.line_relay.specs.Phasors.{phasors_of}
use Rattle.line_relay.specs.Outcomes.{number_taken, sample_in, outcome_of, taken_samples}

-- of a sample set that isn't taken
abbrev pub step_untaken : Outcome → Step
step_untaken o = record { outcome = o; sample = None; phasors = None }

module _ (common : Common) (settings : PlainLine) where
  -- by its outcome, the number that it gives, and the samples with this one
  abbrev pub step_by : Outcome → Option ℕ → PlainAsdu → List Numbered → Step
  step_by o None a samples = step_untaken o
  step_by o (Some number) a samples = record {
    outcome = o;
    sample = Some (sample_in common settings a);
    phasors = phasors_of common.n settings.mimic samples;
  }

  -- after older sample sets
  abbrev pub step_of : PlainAsdu → List PlainAsdu → Step
  step_of a older =
      step_by (outcome_of common settings a older) (number_taken (outcome_of common settings a older)) a (taken_samples common settings (a ∷ older))
