use Rattle.std.proofs.Common.{◌≡◌, ◌<◌, ◌^◌, append_assoc, arith, ℤ, unsigned_abs, to_z, of_z}
use Rattle.std.specs.Int.{w64}
use Rattle.relay_num.proofs.Signed.{signed}
use Rattle.drill.specs.DrillSignal.{sample_bytes}
use Rattle.drill.proofs.signal.put_sample.Goals as goal

-- what is passed on is what was computed
passed : (z : ℤ) → unsigned_abs z < 2 ^ 31 → to_z w64 (of_z w64 z) ≡ z
passed z small = omega (arith, signed)

pub returns-clause-bytes : goal.returns-clause-bytes
unfolding sample_bytes
returns-clause-bytes c =
    rw (
      c.put_channel-8.ensures.bytes,
      c.put_channel-7.ensures.bytes,
      c.put_channel-6.ensures.bytes,
      c.put_channel-5.ensures.bytes,
      c.put_channel-4.ensures.bytes,
      c.put_channel-3.ensures.bytes,
      c.put_channel-2.ensures.bytes,
      c.put_channel.ensures.bytes,
      passed c.current-current.result c.current-current.ensures.size,
      passed c.voltage.result c.voltage.ensures.size,
      passed c.healthy.result c.healthy.ensures.size,
      passed c.healthy-2.result c.healthy-2.ensures.size,
      c.current-current.ensures.value,
      c.voltage.ensures.value,
      c.healthy.ensures.value,
      c.healthy-2.ensures.value,
      c.is_fault_at-is_fault.ensures,
      c.quality_at.ensures,
      c.from-place.ensures,
    )
    (simp append_assoc)
