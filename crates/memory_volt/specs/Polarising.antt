-- Memory polarisation (Phadke and Thorp, Computer Relaying for Power Systems, on distance relaying): where the voltage
-- is too low to polarise, that of a whole cycle before it became low does. Over takes, the newest first; one take is
-- one sample.
use Rattle.std.specs.Prelude.{ℕ, ◌+◌, ◌==◌, nat_le, Bool, if◌then◌else◌, List, [], ◌∷◌, drop, Option, Some, None}
use Rattle.std.specs.List.{prefix_len}
use Rattle.relay_num.specs.declared.Cx.{Cx}

-- a voltage in positive sequence, and whether it is low
pub record VoltTake : Type 0 where
  pub plus : Cx
  pub low : Bool

abbrev pub take_of : Cx → Bool → VoltTake
take_of plus low = record { plus = plus; low = low }

-- the voltage of a take that isn't low
abbrev pub voltage_of : VoltTake → Option Cx
voltage_of take = if take.low then None else Some take.plus

-- of the newest take, where there is one
abbrev pub voltage_now : List VoltTake → Option Cx
voltage_now [] = None
voltage_now (t ∷ older) = voltage_of t

-- how many takes in a row, up to the newest, are low
abbrev pub low_run : List VoltTake → ℕ
low_run takes = prefix_len (λ t. t.low) takes

-- the newest voltage where it isn't low; otherwise, for the first `hold` takes of a run of low ones, the voltage of
-- the take that is a cycle of n takes before the last one before the run
abbrev pub polarising : ℕ → ℕ → List VoltTake → Option Cx
polarising n hold takes =
    if low_run takes == 0 then voltage_now takes
    else if nat_le (low_run takes) hold then voltage_now (drop (low_run takes + n) takes)
    else None
