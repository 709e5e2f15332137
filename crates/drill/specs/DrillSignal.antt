-- The samples of a drill: IA, IB, IC, IN, UA, UB, UC and UN, each a value and a quality word (IEC 61850-9-2), at 96
-- samples a cycle. A healthy line has no current and voltages of 500 times the table; a fault of phase A has a current
-- of 250 times the sine, and half the voltage.
use Rattle.std.specs.Prelude.{ℕ, ◌+◌, ◌%◌, Bool, if◌then◌else◌, List, ◌++◌, ℤ, pos, ◌*ℤ◌}
use Rattle.std.specs.Int.{w32, cast_unsigned}
use Rattle.byteorder.specs.Endian.{big_bytes}
use Rattle.relay_num.specs.Waves.{sine, cosine}
use Rattle.drill.specs.declared.slot.Kind.{Kind}
use Rattle.drill.specs.Slots.{is_fault_at, quality_at}

-- the voltage of a healthy phase at the place j of its cycle
unfoldable pub healthy : ℕ → ℤ
healthy j = pos 500 *ℤ cosine 96 j

-- the current and the voltage of phase A
unfoldable pub current : Bool → ℕ → ℤ
current is_fault j = if is_fault then pos 250 *ℤ sine 96 j else pos 0

unfoldable pub voltage : Bool → ℕ → ℤ
voltage is_fault j = if is_fault then pos 250 *ℤ cosine 96 j else healthy j

-- a signed value of four bytes, and a word of four, the most significant byte first
unfoldable pub channel_bytes : ℤ → ℕ → List ℕ
channel_bytes value quality = big_bytes 4 (cast_unsigned w32 value) ++ big_bytes 4 quality

-- The sample with this counter. IN is the sum of the currents, and its quality word says that it is derived. Phase B is a
-- third of a cycle behind phase A, which is two thirds before it, and phase C a third before it.
unfoldable pub sample_bytes : Kind → ℕ → List ℕ
sample_bytes kind counter =
    channel_bytes (current (is_fault_at kind counter) (counter % 96)) (quality_at kind counter)
    ++ channel_bytes (pos 0) 0
    ++ channel_bytes (pos 0) 0
    ++ channel_bytes (current (is_fault_at kind counter) (counter % 96)) 0x2000
    ++ channel_bytes (voltage (is_fault_at kind counter) (counter % 96)) 0
    ++ channel_bytes (healthy ((counter % 96 + 64) % 96)) 0
    ++ channel_bytes (healthy ((counter % 96 + 32) % 96)) 0
    ++ channel_bytes (pos 0) 0
