-- The moment of a sample as a record writes it: the civil time of its second (proleptic Gregorian calendar, UTC) with whole
-- microseconds, rounded down.
use Rattle.std.specs.Prelude.{ℕ, ◌/◌, ◌%◌}
use Rattle.relay_settings.specs.declared.types.Common.{Common}
use Rattle.event_record.specs.declared.time.At.{At}
use Rattle.event_record.specs.Time.{time_of, year_of, month_of, day_of}
use Rattle.comtrade_read.specs.Moments.{Moment}

abbrev pub moment_at : At → Moment
moment_at at = record {
  year = year_of (at.seconds / 86400);
  month = month_of (at.seconds / 86400);
  day = day_of (at.seconds / 86400);
  hour = at.seconds % 86400 / 3600;
  minute = at.seconds % 86400 / 60 % 60;
  second = at.seconds % 86400 % 60;
  micros = at.nanos / 1000;
}

-- of the sample with this number
unfoldable pub moment_of : Common → ℕ → Moment
moment_of common number = moment_at (time_of common number)
