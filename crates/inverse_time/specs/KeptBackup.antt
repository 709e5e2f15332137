-- What the backup of one line holds after its own sample sets, the newest first.
use Rattle.std.specs.Prelude.{ℕ, ◌≡◌, List, Option}
use Rattle.relay_settings.specs.declared.types.Common.{Common}
use Rattle.relay_settings.specs.Settings.{PlainLine}
use Rattle.sv_frame.specs.Asdu.{PlainAsdu}
use Rattle.line_relay.specs.LineSamples.{Numbered}
use Rattle.line_relay.specs.Outcomes.{taken_samples}
use Rattle.line_relay.specs.Fronts.{last_of as last_of_front, StandsFor as FrontStandsFor}
use Rattle.inverse_time.specs.declared.curve.Dial.{Dial}
use Rattle.inverse_time.specs.declared.element.Element.{Element}
use Rattle.inverse_time.specs.declared.backup.Backup.{Backup}
use Rattle.inverse_time.specs.Overcurrents.{excesses_at}
use Rattle.inverse_time.specs.KeptElement.{StandsFor as ElementStandsFor}

-- the last number that was taken
abbrev pub last_of : Backup → Option ℕ
last_of backup = last_of_front backup.front

-- the three elements after these samples
pub record HoldsFor (common : Common) (settings : PlainLine) (dial : Dial) (past : List Numbered) (a b c : Element) : Type 0 where
  pub phase_a : ElementStandsFor dial common.rate (excesses_at common settings dial 0 past) a
  pub phase_b : ElementStandsFor dial common.rate (excesses_at common settings dial 1 past) b
  pub phase_c : ElementStandsFor dial common.rate (excesses_at common settings dial 2 past) c

pub record StandsFor (common : Common) (settings : PlainLine) (dial : Dial) (asdus : List PlainAsdu) (backup : Backup) : Type 0 where
  pub same_common : backup.common ≡ common
  pub same_sv_id : backup.sv_id.items ≡ settings.sv_id
  pub same_dial : backup.dial ≡ dial
  pub front : FrontStandsFor common settings asdus backup.front
  pub elements : HoldsFor common settings dial (taken_samples common settings asdus) backup.a backup.b backup.c
