-- Memory polarisation over numbered samples, the newest first, whose numbers may have gaps: `ready`, `low` and `plus`
-- are facts of the samples up to one, said of that one. Only an unbroken run of ready samples is looked back over.
use Rattle.std.specs.Prelude.{ℕ, ◌≡◌, ◌+◌, ◌-◌, ◌==◌, nat_le, Bool, false, not, ◌&&◌, if◌then◌else◌, List, [], Option, Some, None}
use Rattle.sample_windows.specs.Numbered.{newest_number, up_to, Rises, held_for, run_of, of_run}
use Rattle.relay_num.specs.declared.Cx.{Cx}
use Rattle.memory_volt.specs.Polarising.{VoltTake, take_of, polarising}

module _ {X : Type 0} (number : X → ℕ) (ready low : List X → Bool) (plus : List X → Cx) where
  -- how many ready samples in a row, up to the newest, are low
  abbrev pub low_numbers : List X → ℕ
  low_numbers samples = run_of number (λ s. ready s && low s) samples

  -- the voltage k numbers back, where all numbers from there to the newest are ready and it isn't low
  abbrev pub voltage_back : ℕ → List X → Option Cx
  voltage_back k samples =
      if held_for number (k + 1) ready samples && not (low (up_to number (newest_number number samples - k) samples))
      then Some (plus (up_to number (newest_number number samples - k) samples)) else None

  -- the newest voltage where it isn't low; otherwise, for the first `hold` samples of a run of low ones, the voltage a
  -- cycle of n numbers before the last one before the run
  abbrev pub polarising_at : ℕ → ℕ → List X → Option Cx
  polarising_at n hold samples =
      if low_numbers samples == 0 then voltage_back 0 samples
      else if nat_le (low_numbers samples) hold then voltage_back (low_numbers samples + n) samples
      else None

  -- what a memory takes at the newest sample
  abbrev pub volt_take : List X → VoltTake
  volt_take samples = take_of (plus samples) (low samples)

-- The law: a memory that takes each ready sample and is cleared at any other answers the rule over numbers. Of no
-- samples, none is ready.
abbrev pub PolarisesByNumber : Type 0 → Type 0
PolarisesByNumber X =
    (number : X → ℕ) (ready low : List X → Bool) (plus : List X → Cx) (n hold : ℕ) (samples : List X) →
    ready [] ≡ false → Rises number samples →
    polarising n hold (of_run number ready (volt_take number ready low plus) samples)
    ≡ polarising_at number ready low plus n hold samples
