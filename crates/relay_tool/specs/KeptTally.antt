-- What a drill's count holds after the sample sets that its station heard.
use Rattle.std.specs.Prelude.{ℕ, ◌≡◌, ◌≤◌, ◌*◌, List}
use Rattle.sv_frame.specs.Asdu.{PlainAsdu}
use Rattle.relay_settings.specs.Settings.{PlainSettings}
use Rattle.relay_tool.specs.Tallies.{told_sum, events_of, sends_of, trips_of}
use Rattle.relay_tool.specs.declared.tally.Count.{Count}

-- these sample sets were counted, the newest first
pub record Counts (settings : PlainSettings) (past : List PlainAsdu) (count : Count) : Type 0 where
  pub events : count.events ≡ told_sum events_of settings past
  pub sends : count.sends ≡ told_sum sends_of settings past
  pub trips : count.trips ≡ told_sum trips_of settings past

-- of so many sample sets
pub record IsFew (heard : ℕ) (count : Count) : Type 0 where
  pub events : count.events ≤ 96 * heard
  pub sends : count.sends ≤ heard
  pub trips : count.trips ≤ 96 * heard
