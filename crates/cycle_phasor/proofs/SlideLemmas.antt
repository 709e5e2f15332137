-- The table's weight as the code has it.
use Rattle.std.proofs.Common.{◌≡◌, ◌≤◌, ◌-ℤ◌, ℤ, pos, neg_ℤ, to_z, of_z, arith, unsigned_abs}
use Rattle.std.specs.Int.{w64}
use Rattle.relay_num.proofs.Signed.{signed}

-- the code's `-x`
pub minus_is : (x : ℤ) → unsigned_abs x ≤ 16384 → to_z w64 (of_z w64 (pos 0 -ℤ to_z w64 (of_z w64 x))) ≡ neg_ℤ x
minus_is x h = omega (arith, signed)
