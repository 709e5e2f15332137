-- The takes that a memory stands for, the newest first: it holds the voltages of the last cycle and one more, how many
-- takes in a row have been low, and what polarises.
use Rattle.std.specs.Prelude.{ℕ, ◌≡◌, ◌+◌, min, List, Option, map, take, reverse, All}
use Rattle.std.specs.Option.{ForSome}
use Rattle.circular_buffer.specs.Buffer.{buffer}
use Rattle.relay_num.specs.declared.Cx.{Cx}
use Rattle.relay_num.specs.Numbers.{IsBelow}
use Rattle.memory_volt.specs.Polarising.{VoltTake, voltage_of, low_run, polarising}
use Rattle.memory_volt.specs.declared.MemoryVolt.{MemoryVolt}

-- the voltages of the newest takes, a cycle of n and one more, the oldest first
abbrev pub cycle_of : ℕ → List VoltTake → List (Option Cx)
cycle_of n takes = reverse (take (n + 1) (map voltage_of takes))

-- a memory with n samples a cycle and this hold, after these takes since the last clear
pub record StandsFor (n hold : ℕ) (takes : List VoltTake) (memory : MemoryVolt) : Type 0 where
  pub voltages : memory.voltages ≡ buffer (cycle_of n takes) (n + 1)
  pub same_hold : memory.hold ≡ hold
  pub run : memory.run ≡ min (low_run takes) hold
  pub frozen : memory.frozen ≡ polarising n hold takes

-- each voltage that the memory holds is below `bound` in size
pub record HoldsBelow (bound : ℕ) (memory : MemoryVolt) : Type 0 where
  pub voltages : All (λ v. ForSome v (λ p. IsBelow p bound)) memory.voltages.items
  pub frozen : ForSome memory.frozen (λ p. IsBelow p bound)
