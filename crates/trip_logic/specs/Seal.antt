-- The seal-in of a trip (Phadke and Thorp, Computer Relaying for Power Systems, on distance relaying): an operation
-- raises the trip, which then stands until the breaker has opened the line. Over numbered samples, the newest first,
-- whose numbers may have gaps; `operates` and `dead` are facts of the samples up to one, said of that one.
use Rattle.std.specs.Prelude.{ℕ, ◌+◌, nat_le, Bool, not, ◌&&◌, List, length, drop}
use Rattle.sample_windows.specs.Below.{any_below}
use Rattle.sample_windows.specs.Numbered.{newest_number, held_for}

module _ {X : Type 0} (number : X → ℕ) (operates dead : List X → Bool) where
  -- whether the newest sample ends the trip that an operation at the number `began` raised: the least time is over, no
  -- zone operates, and the line was dead at each of the last `open_run` numbers
  abbrev pub ends : ℕ → ℕ → ℕ → List X → Bool
  ends least open_run began samples =
      nat_le (began + least) (newest_number number samples)
      && (not (operates samples) && held_for number open_run dead samples)

  -- whether some sample later than the one at the place has ended the trip that was raised there
  abbrev pub has_ended : ℕ → ℕ → ℕ → List X → Bool
  has_ended least open_run place samples =
      any_below place (λ later. ends least open_run (newest_number number (drop place samples)) (drop later samples))

  -- whether the trip stands: there is a sample at which a zone operates, and no later one has ended its trip
  unfoldable pub stands : ℕ → ℕ → List X → Bool
  stands least open_run samples =
      any_below (length samples)
      (λ place. operates (drop place samples) && not (has_ended least open_run place samples))
