-- A line before it is told the next of its samples.
use Rattle.std.specs.Prelude.{ℕ, ◌≡◌, if◌then◌else◌, List, ◌∷◌, Option, Some, None}
use Rattle.sample_windows.specs.Numbered.{Rises}
use Rattle.relay_settings.specs.declared.types.Common.{Common}
use Rattle.relay_settings.specs.Settings.{PlainLine}
use Rattle.line_relay.specs.declared.measured.Measured.{Measured}
use Rattle.line_relay.specs.LineSamples.{Numbered, number_of_sample}
use Rattle.line_relay.specs.Guards.{is_ready_at, measured_at}
use Rattle.line_relay.specs.KeptLine.{Kept, HoldsFor}

-- what is measured at the newest sample, where it is ready
abbrev pub formed_at : Common → PlainLine → List Numbered → Option Measured
formed_at common settings past = if is_ready_at common settings past then Some (measured_at common settings past) else None

-- the sample with this number, of which this is measured where it is ready, follows the samples of the past
pub record IsNext (common : Common) (settings : PlainLine) (s : Numbered) (past : List Numbered) (kept : Kept) (number : ℕ) (measured : Option Measured) : Type 0 where
  pub holds : HoldsFor common settings past kept
  pub same_number : number ≡ s.number
  pub rises : Rises number_of_sample (s ∷ past)
  pub formed : measured ≡ formed_at common settings (s ∷ past)
