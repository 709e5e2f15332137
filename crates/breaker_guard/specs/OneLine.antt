-- There is never more than one line at a sample.
use Rattle.std.specs.Prelude.{◌≤◌, List, ◌∷◌, length}
use Rattle.sample_windows.specs.Numbered.{Rises}
use Rattle.breaker_guard.specs.declared.waits.Waits.{Waits}
use Rattle.breaker_guard.specs.GuardTakes.{GuardTake, number_of}
use Rattle.breaker_guard.specs.TripSpans.{trips_of}
use Rattle.breaker_guard.specs.Guarding.{AreWaits, told_at}

-- all trips together tell one at most at the newest sample, where numbers rise and each wait is at least a sample
abbrev pub HaveOneLine : Type 0
HaveOneLine = (waits : Waits) → AreWaits waits → (t : GuardTake) (older : List GuardTake) → Rises number_of (t ∷ older) →
    length (told_at waits t.number (trips_of (t ∷ older))) ≤ 1
