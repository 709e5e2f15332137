-- What the window holds after the samples that the line has taken, the newest first.
use Rattle.std.specs.Prelude.{ℕ, ◌≡◌, ◌+◌, ◌-◌, ◌*◌, List, [], ◌∷◌, length, Option, Some, None}
use Rattle.sample_windows.specs.Numbered.{newest_number}
use Rattle.comtrade_write.specs.declared.covered.Recorded.{Recorded}
use Rattle.comtrade_write.specs.declared.covered.Span.{Span}
use Rattle.comtrade_write.specs.declared.window.Window.{Window}
use Rattle.comtrade_write.specs.Covered.{stands_now, trip_count, trip_number, number_of_recorded, from_to, covered_at}

-- before the trip the last two cycles, and then what its record covers
abbrev pub kept_by : ℕ → Option ℕ → List Recorded → List Recorded
kept_by n None rs = from_to (newest_number number_of_recorded rs - 2 * n) (newest_number number_of_recorded rs) rs
kept_by n (Some trip) rs = covered_at n trip rs

abbrev pub count_by : Option ℕ → List Recorded → ℕ
count_by None items = 0
count_by (Some trip) items = length items

abbrev pub span_by : Option ℕ → List Recorded → Option Span
span_by None items = None
span_by (Some trip) [] = None
span_by (Some trip) (r ∷ rest) = Some (record { first = r.number; trip = trip; count = length (r ∷ rest) })

pub record StandsFor (n k : ℕ) (rs : List Recorded) (window : Window) : Type 0 where
  pub same_n : window.n ≡ n
  pub same_k : window.k ≡ k
  pub room : window.ring.capacity ≡ 6 * n + 1
  pub trips : window.trips ≡ trip_count rs
  pub stands : window.stands ≡ stands_now rs
  pub trip : window.trip ≡ trip_number k rs
  pub items : window.ring.items ≡ kept_by n (trip_number k rs) rs
