-- What a drill counts of its frames, over the sample sets of all of them: the events that its lines tell, the frames that they
-- send, and the trips among the events.
use Rattle.std.specs.Prelude.{ℕ, ◌+◌, Bool, true, false, List, [], ◌∷◌, ◌++◌, length, is_some, if◌then◌else◌, Option, Some, None, codes}
use Rattle.std.specs.List.{count_by}
use Rattle.std.specs.Fmt.{decimal}
use Rattle.sv_frame.specs.Asdu.{PlainAsdu}
use Rattle.relay_settings.specs.Settings.{PlainSettings}
use Rattle.event_record.specs.declared.event.Event.{Event}
use Rattle.event_record.specs.declared.event.Event.TheVariants.{Line}
use Rattle.event_record.specs.declared.event.What.TheVariants.{Trip}
use Rattle.station.specs.Told.{Told, told}
use Rattle.drill.specs.PlannedFrames.{frames_of}
use Rattle.drill.specs.DrillSettings.{drill_settings}
use Rattle.relay_tool.specs.Output.{heard}

abbrev pub is_trip : Event → Bool
is_trip (Line at Trip) = true
is_trip event = false

abbrev pub events_of : Told → ℕ
events_of told = length told.told.events

abbrev pub sends_of : Told → ℕ
sends_of told = if is_some told.told.send then 1 else 0

abbrev pub trips_of : Told → ℕ
trips_of told = count_by is_trip told.told.events

abbrev pub count_of : (Told → ℕ) → Option Told → ℕ
count_of count None = 0
count_of count (Some told) = count told

-- the sum over what a station tells of each of these sample sets, which stand the newest first
unfoldable pub told_sum : (Told → ℕ) → PlainSettings → List PlainAsdu → ℕ
told_sum count settings [] = 0
told_sum count settings (a ∷ older) = told_sum count settings older + count_of count (told settings (a ∷ older))

pub record Tally : Type 0 where
  pub frames : ℕ
  pub events : ℕ
  pub sends : ℕ
  pub trips : ℕ

-- what these frames bring
abbrev pub tally_of : PlainSettings → List (List ℕ) → Tally
tally_of settings bodies = record {
  frames = length bodies;
  events = told_sum events_of settings (heard [] bodies);
  sends = told_sum sends_of settings (heard [] bodies);
  trips = told_sum trips_of settings (heard [] bodies);
}

abbrev pub summary : Tally → List ℕ
summary tally =
    codes "frames " ++ decimal tally.frames ++ codes " events " ++ decimal tally.events ++ codes " sends " ++ decimal tally.sends
    ++ codes " trips " ++ decimal tally.trips ++ codes "\n"

-- the summary of the drill of this seed, of so many seconds
abbrev pub drill_summary : ℕ → ℕ → List ℕ
drill_summary seed seconds = summary (tally_of drill_settings (frames_of seed seconds))
