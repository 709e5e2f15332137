-- A locator before it is told the next of its samples.
use Rattle.std.specs.Prelude.{ℕ, ◌≡◌, ◌+◌, ◌==◌, Bool, false, List, ◌∷◌, Option, Some, None}
use Rattle.sample_windows.specs.Numbered.{Rises}
use Rattle.relay_num.specs.declared.Cx.{Cx}
use Rattle.relay_settings.specs.declared.types.Common.{Common}
use Rattle.relay_settings.specs.Settings.{PlainLine}
use Rattle.event_record.specs.declared.event.Event.{Event}
use Rattle.line_relay.specs.LineSamples.{Numbered, number_of_sample, newest_of}
use Rattle.line_relay.specs.Phasors.{phasors_of}
use Rattle.fault_locate.specs.TripLoops.{is_trip_at, loop_at}
use Rattle.fault_locate.specs.TripEvents.{has_trip, first_loop_of}

-- whether a number is the one behind the last
abbrev pub follows_last : Option ℕ → ℕ → Bool
follows_last None number = false
follows_last (Some last) number = last + 1 == number

-- the sample with this number, phasors and events follows the samples of the past
pub record IsNext (common : Common) (settings : PlainLine) (s : Numbered) (past : List Numbered) (number : ℕ) (follows : Bool) (phasors : Option (List Cx)) (events : List Event) : Type 0 where
  pub same_number : number ≡ s.number
  pub rises : Rises number_of_sample (s ∷ past)
  pub same_follows : follows ≡ follows_last (newest_of past) number
  pub formed : phasors ≡ phasors_of common.n settings.mimic (s ∷ past)
  pub trip : has_trip events ≡ is_trip_at common settings (s ∷ past)
  pub loop : first_loop_of settings.zones events ≡ loop_at common settings (s ∷ past)
