-- The configuration of a record, line by line. How a configuration is spelled is said by the grammar of comtrade_read; what it
-- says here, and that names have no comma, is this project's own.
use Rattle.std.specs.Prelude.{ℕ, ◌==◌, if◌then◌else◌, List, map}
use Rattle.relay_settings.specs.declared.types.Common.{Common}
use Rattle.comtrade_read.specs.Numbers.{with_ends}
use Rattle.comtrade_read.specs.Configurations.{Configuration, configuration_lines}
use Rattle.comtrade_write.specs.declared.covered.Span.{Span}
use Rattle.comtrade_write.specs.Moments.{moment_of}

-- an underscore for a comma
abbrev pub plain_byte : ℕ → ℕ
plain_byte b = if b == 44 then 95 else b

-- the line's name, and the moments of the first sample and of the trip
abbrev pub configuration_of : List ℕ → Common → Span → Configuration
configuration_of name common span = record {
  name = map plain_byte name;
  nominal = common.nominal;
  rate = common.rate;
  count = span.count;
  first = moment_of common span.first;
  trip = moment_of common span.trip;
}

-- with their ends
unfoldable pub config_lines : List ℕ → Common → Span → List (List ℕ)
config_lines name common span = with_ends (configuration_lines (configuration_of name common span))
