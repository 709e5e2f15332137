-- What is told of a line's sample set: what changes by it in each phase.
use Rattle.std.specs.Prelude.{ℕ, Bool, true, false, List, [], ◌∷◌, ◌++◌, map, Option, Some, None}
use Rattle.relay_settings.specs.declared.types.Common.{Common}
use Rattle.relay_settings.specs.Settings.{PlainLine}
use Rattle.sv_frame.specs.Asdu.{PlainAsdu}
use Rattle.event_record.specs.declared.time.At.{At}
use Rattle.event_record.specs.Time.{time_of}
use Rattle.line_relay.specs.LineSamples.{Numbered}
use Rattle.line_relay.specs.Outcomes.{number_taken, outcome_of, taken_samples}
use Rattle.inverse_time.specs.declared.curve.Dial.{Dial}
use Rattle.inverse_time.specs.declared.event.BackupWhat.{BackupWhat}
use Rattle.inverse_time.specs.declared.event.BackupWhat.TheVariants.{Start, Drop, Operate}
use Rattle.inverse_time.specs.declared.event.BackupEvent.{BackupEvent}
use Rattle.inverse_time.specs.declared.event.PhaseFacts.{PhaseFacts}
use Rattle.inverse_time.specs.Overcurrents.{is_picked_at, is_done_at}

-- the pickup as a change
abbrev pub pickup_edge : Bool → Bool → List BackupWhat
pickup_edge false true = Start ∷ []
pickup_edge true false = Drop ∷ []
pickup_edge false false = []
pickup_edge true true = []

-- an operation that begins
abbrev pub operation : Bool → Bool → List BackupWhat
operation false true = Operate ∷ []
operation false false = []
operation true now = []

abbrev pub phase_changes : PhaseFacts → PhaseFacts → List BackupWhat
phase_changes before now = pickup_edge before.picked now.picked ++ operation before.done now.done

-- each as an event of the phase at this moment
abbrev pub told_at : At → ℕ → List BackupWhat → List BackupEvent
told_at at phase whats = map (λ what. record { at = at; phase = phase; what = what }) whats

module _ (common : Common) (settings : PlainLine) (dial : Dial) where
  -- what holds of a phase at the newest sample
  abbrev pub phase_facts : ℕ → List Numbered → PhaseFacts
  phase_facts phase past = record { picked = is_picked_at common settings dial phase past; done = is_done_at common settings dial phase past }

  -- of a phase, where the samples were these and are those
  abbrev pub phase_events : At → List Numbered → List Numbered → ℕ → List BackupEvent
  phase_events at before now phase = told_at at phase (phase_changes (phase_facts phase before) (phase_facts phase now))

  -- a sample set that isn't taken tells nothing
  abbrev pub events_by : Option ℕ → List Numbered → List Numbered → List BackupEvent
  events_by None before now = []
  events_by (Some number) before now =
      phase_events (time_of common number) before now 0 ++ phase_events (time_of common number) before now 1 ++ phase_events (time_of common number) before now 2

  -- what the newest of a line's own sample sets tells: the phases in order
  abbrev pub backup_events : List PlainAsdu → List BackupEvent
  backup_events [] = []
  backup_events (a ∷ older) =
      events_by (number_taken (outcome_of common settings a older)) (taken_samples common settings older) (taken_samples common settings (a ∷ older))
