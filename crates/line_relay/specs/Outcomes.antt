-- What becomes of each sample set of a line, over the list of all of them, the newest first.
use Rattle.std.specs.Prelude.{ℕ, ◌==◌, if◌then◌else◌, List, [], ◌∷◌, length, Option, Some, None, unwrap_or}
use Rattle.relay_settings.specs.declared.types.Common.{Common}
use Rattle.relay_settings.specs.Settings.{PlainLine}
use Rattle.sv_frame.specs.Asdu.{PlainAsdu}
use Rattle.sv_frame.specs.Channels.{channels_of}
use Rattle.sample_stream.specs.declared.sample.Sample.{Sample}
use Rattle.sample_stream.specs.Numbering.{outcome}
use Rattle.sample_stream.specs.Samples.{sample_from}
use Rattle.sample_stream.specs.Taken.{number_of}
use Rattle.line_relay.specs.declared.front.Outcome.{Outcome}
use Rattle.line_relay.specs.declared.front.Outcome.TheVariants.{ConfRev, Length, Counter}
use Rattle.line_relay.specs.LineSamples.{Numbered, newest_of}

-- the number that an outcome gives its sample, where it is taken
abbrev pub number_taken : Outcome → Option ℕ
number_taken (ConfRev got) = None
number_taken (Length got) = None
number_taken (Counter taken) = number_of taken

module _ (common : Common) (settings : PlainLine) where
  -- what becomes of a sample set after the last number: revision, length, and then its counter
  abbrev pub outcome_after : Option ℕ → PlainAsdu → Outcome
  outcome_after last a =
      if a.conf_rev == settings.conf_rev then
      (if length a.samples == 64 then Counter (outcome common.rate last a.counter) else Length (length a.samples))
      else ConfRev a.conf_rev

  -- its sample, where it is taken, and so has eight channels
  abbrev pub sample_in : PlainAsdu → Sample
  sample_in a = sample_from settings.quality_mask settings.synch_min a.synch (unwrap_or (channels_of a.samples) [])

  abbrev pub with_sample : Option ℕ → PlainAsdu → List Numbered → List Numbered
  with_sample None a samples = samples
  with_sample (Some number) a samples = record { number = number; sample = sample_in a } ∷ samples

  -- the samples that were taken, the newest first
  abbrev pub taken_samples : List PlainAsdu → List Numbered
  taken_samples [] = []
  taken_samples (a ∷ older) =
      with_sample (number_taken (outcome_after (newest_of (taken_samples older)) a)) a (taken_samples older)

  -- the newest number that was taken
  abbrev pub taken_number : List PlainAsdu → Option ℕ
  taken_number asdus = newest_of (taken_samples asdus)

  -- what becomes of a sample set after older ones
  abbrev pub outcome_of : PlainAsdu → List PlainAsdu → Outcome
  outcome_of a older = outcome_after (taken_number older) a
