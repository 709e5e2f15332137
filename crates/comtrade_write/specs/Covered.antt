-- Which samples the record of a line's k-th trip covers, over the samples that the line has taken, the newest first. That a
-- record begins two cycles before its trip and ends four behind it is this project's own.
use Rattle.std.specs.Prelude.{ℕ, ◌+◌, ◌-◌, ◌*◌, Bool, false, ◌&&◌, not, ◌==◌, nat_le, if◌then◌else◌, List, [], ◌∷◌, filter, reverse, Option, Some, None}
use Rattle.relay_settings.specs.declared.types.Common.{Common}
use Rattle.relay_settings.specs.Settings.{PlainLine}
use Rattle.line_relay.specs.LineSamples.{Numbered}
use Rattle.line_relay.specs.Operate.{is_tripped_at}
use Rattle.comtrade_write.specs.declared.covered.Recorded.{Recorded}

-- each taken sample with whether the trip stands at it
abbrev pub recorded : Common → PlainLine → List Numbered → List Recorded
recorded common settings [] = []
recorded common settings (s ∷ older) =
    record { number = s.number; sample = s.sample; trip = is_tripped_at common settings (s ∷ older) } ∷ recorded common settings older

-- whether the trip stands at the newest
abbrev pub stands_now : List Recorded → Bool
stands_now [] = false
stands_now (r ∷ older) = r.trip

-- whether a trip begins at the newest
abbrev pub begins_now : List Recorded → Bool
begins_now [] = false
begins_now (r ∷ older) = r.trip && not (stands_now older)

-- how many trips have begun
abbrev pub trip_count : List Recorded → ℕ
trip_count [] = 0
trip_count (r ∷ older) = trip_count older + (if begins_now (r ∷ older) then 1 else 0)

-- the number of the sample at which the k-th trip began
abbrev pub trip_number : ℕ → List Recorded → Option ℕ
trip_number k [] = None
trip_number k (r ∷ older) = if begins_now (r ∷ older) && (trip_count (r ∷ older) == k) then Some r.number else trip_number k older

abbrev pub number_of_recorded : Recorded → ℕ
number_of_recorded r = r.number

-- the samples with a number from low to high, in order
abbrev pub from_to : ℕ → ℕ → List Recorded → List Recorded
from_to low high rs = reverse (filter (λ r. nat_le low r.number && nat_le r.number high) rs)

-- what the record of a trip at this number covers, at n samples a cycle
abbrev pub covered_at : ℕ → ℕ → List Recorded → List Recorded
covered_at n trip rs = from_to (trip - 2 * n) (trip + 4 * n) rs
