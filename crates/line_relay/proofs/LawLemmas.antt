-- A sample set that isn't taken leaves the samples as they were.
use Rattle.std.proofs.Common.{◌≡◌, ap, List, [], ◌∷◌, ◌++◌, None}
use Rattle.std.specs.Option.{option_map}
use Rattle.relay_settings.specs.declared.types.Common.{Common}
use Rattle.relay_settings.specs.Settings.{PlainLine}
use Rattle.sv_frame.specs.Asdu.{PlainAsdu}
use Rattle.event_record.specs.Time.{time_of}
use Rattle.line_relay.specs.LineSamples.{Numbered, newest_of}
use Rattle.line_relay.specs.Facts.{facts_of}
use Rattle.line_relay.specs.Outcomes.{number_taken, with_sample, outcome_after, taken_samples, outcome_of}
use Rattle.line_relay.specs.Events.{arrival, changes, told}
use Rattle.line_relay.specs.Bursts.{PlainBurst, sent_by, UntakenKeeps}

module _ (common : Common) (settings : PlainLine) where
  -- the samples after one more sample set
  abbrev samples_with : PlainAsdu → List Numbered → List Numbered
  samples_with a samples = with_sample common settings (number_taken (outcome_after common settings (newest_of samples) a)) a samples

  -- what the next sample set brings depends on the samples alone
  abbrev burst_by : PlainAsdu → List Numbered → PlainBurst
  burst_by a samples = record {
    events =
        told (option_map (time_of common) (newest_of (samples_with a samples)))
        (arrival a.counter (outcome_after common settings (newest_of samples) a)
        ++ changes (facts_of common settings samples) (facts_of common settings (samples_with a samples)));
    send = sent_by common settings (number_taken (outcome_after common settings (newest_of samples) a)) (samples_with a samples);
  }

  kept : (later : List PlainAsdu) (a : PlainAsdu) (older : List PlainAsdu) → number_taken (outcome_of common settings a older) ≡ None →
      taken_samples common settings (later ++ a ∷ older) ≡ taken_samples common settings (later ++ older)
  kept [] a older none = ap (λ n. with_sample common settings n a (taken_samples common settings older)) none
  kept (b ∷ later) a older none = ap (samples_with b) (kept later a older none)

pub untaken_keeps : UntakenKeeps
untaken_keeps common settings later next a older none = ap (burst_by common settings next) (kept common settings later a older none)
