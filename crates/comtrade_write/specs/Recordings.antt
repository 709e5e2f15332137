-- The record of a line's k-th trip, over the sample sets that were heard, the newest first.
use Rattle.std.specs.Prelude.{ℕ, ◌+◌, Bool, true, false, List, [], ◌∷◌, length, count_by, Option, Some, None}
use Rattle.relay_settings.specs.declared.types.Common.{Common}
use Rattle.relay_settings.specs.Settings.{PlainLine}
use Rattle.sv_frame.specs.Asdu.{PlainAsdu}
use Rattle.event_record.specs.declared.event.What.{What}
use Rattle.event_record.specs.declared.event.What.TheVariants.{Trip}
use Rattle.event_record.specs.declared.event.Event.{Event}
use Rattle.event_record.specs.declared.event.Event.TheVariants.{Malformed, Line}
use Rattle.line_relay.specs.Outcomes.{taken_samples}
use Rattle.line_relay.specs.Bursts.{burst}
use Rattle.line_bank.specs.Owners.{own}
use Rattle.comtrade_write.specs.declared.covered.Recorded.{Recorded}
use Rattle.comtrade_write.specs.declared.covered.Span.{Span}
use Rattle.comtrade_write.specs.Covered.{recorded, trip_count, trip_number, covered_at}
use Rattle.comtrade_write.specs.ConfigTexts.{config_lines}
use Rattle.comtrade_write.specs.DataTexts.{data_lines}

-- the number of the first
abbrev pub first_number : List Recorded → ℕ
first_number [] = 0
first_number (r ∷ rest) = r.number

abbrev pub span_of : ℕ → List Recorded → Span
span_of trip rs = record { first = first_number rs; trip = trip; count = length rs }

-- where the trip has begun, at this number
abbrev pub covered_by : ℕ → Option ℕ → List Recorded → List Recorded
covered_by n None rs = []
covered_by n (Some trip) rs = covered_at n trip rs

abbrev pub config_by : List ℕ → Common → Option ℕ → List Recorded → List (List ℕ)
config_by name common None rs = []
config_by name common (Some trip) rs = config_lines name common (span_of trip (covered_at common.n trip rs))

-- a `trip` event
abbrev pub is_trip_what : What → Bool
is_trip_what Trip = true
is_trip_what _ = false

abbrev pub is_trip : Event → Bool
is_trip (Malformed frame reason) = false
is_trip (Line at what) = is_trip_what what

module _ (common : Common) (settings : PlainLine) where
  -- the samples that the line has taken of its own sample sets
  abbrev pub recorded_of : List PlainAsdu → List Recorded
  recorded_of asdus = recorded common settings (taken_samples common settings (own settings asdus))

  abbrev pub trips_of : List PlainAsdu → ℕ
  trips_of asdus = trip_count (recorded_of asdus)

  -- how many `trip` events the line tells of its own sample sets
  abbrev pub trips_told : List PlainAsdu → ℕ
  trips_told [] = 0
  trips_told (a ∷ older) = trips_told older + count_by is_trip (burst common settings (a ∷ older)).events

  -- what the record of the k-th trip covers: nothing before that trip
  abbrev pub covered_of : ℕ → List PlainAsdu → List Recorded
  covered_of k asdus = covered_by common.n (trip_number k (recorded_of asdus)) (recorded_of asdus)

  -- its configuration and its data, line by line: none before that trip
  abbrev pub config_of : ℕ → List PlainAsdu → List (List ℕ)
  config_of k asdus = config_by settings.name common (trip_number k (recorded_of asdus)) (recorded_of asdus)

  abbrev pub data_of : ℕ → List PlainAsdu → List (List ℕ)
  data_of k asdus = data_lines common.rate (first_number (covered_of k asdus)) (covered_of k asdus)
