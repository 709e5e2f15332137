-- Filtered values are small.
use Rattle.std.proofs.Common.{◌*ℤ◌, ◌-ℤ◌, ◌≡◌, ◌<◌, ◌≤◌, ◌^◌, arith, List, ℤ, pos, neg_ℤ, length, get_or, unsigned_abs, refl, [], ◌∷◌, None}
use Rattle.std.specs.Int.{int_min, int_max}
use Rattle.std.proofs.lemmas.Int.{int_min_is, int_max_is}
use Rattle.std.proofs.lemmas.Simd.{get_or-zip2, length-zip2}
use Rattle.relay_num.proofs.Signed.{signed, one_part}
use Rattle.relay_num.specs.Numbers.{floor_div}
use Rattle.relay_settings.specs.Ranges.{IsWhole}
use Rattle.relay_num.specs.Bounds.{AllBelow}
use Rattle.line_relay.specs.LineSamples.{Numbered}
use Rattle.line_relay.specs.KeptSamples.{kept_now}
use Rattle.mimic_filter.specs.Mimic.{filtered, filtered_lanes}

limited_below : (z : ℤ) → unsigned_abs (int_max (int_min z (pos 268435455)) (neg_ℤ (pos 268435455))) < 2 ^ 28
limited_below z =
    let x : ℤ = int_min z (pos 268435455) in
    omega (arith, signed, int_min_is z (pos 268435455), int_max_is x (neg_ℤ (pos 268435455)), one_part z, one_part x, one_part (int_max x (neg_ℤ (pos 268435455))))

pub filtered_small : (a b : ℤ) (now before : List ℤ) → length now ≡ 8 → length before ≡ 8 → AllBelow (filtered_lanes a b now before) (2 ^ 28)
filtered_small a b now before h j k d lt =
    let long = length-zip2 (filtered a b) now before (omega arith) in
    rw (get_or-zip2 (filtered a b) now before k (pos 0) (pos 0) d (omega (arith, long)) (omega (arith, long))) (limited_below (floor_div (get_or now k (pos 0) *ℤ a -ℤ get_or before k (pos 0) *ℤ b) 1024))

pub factor_fits : (z : ℤ) → IsWhole (pos 0) (pos 65536) z → unsigned_abs z ≤ 65536
factor_fits z h = omega (arith, signed, one_part z, h.0, h.1)

-- without a filter nothing is kept
pub kept_without : (samples : List Numbered) → kept_now None samples ≡ None
kept_without [] = refl
kept_without (s ∷ older) = refl
