-- Currents that are far below a threshold are below it, and so are their differences.
use Rattle.std.proofs.Common.{◌≡◌, ℕ, ◌+◌, ◌*◌, ◌/◌, ◌<◌, ◌≤◌, true, false, ℤ, pos, negsuc, ◌*ℤ◌, unsigned_abs, mul-le-mul, refl, arith, List, inl, inr, ◌⊎◌}
use Rattle.std.specs.Int.RustNames.{int_le}
use Rattle.std.proofs.lemmas.Bool.{cases_lt, cond-true, cond-false, ltb-true, lt-ltb, le-ltb, lt-leb}
use Rattle.relay_num.specs.declared.Cx.{Cx}
use Rattle.relay_num.specs.Numbers.{IsBelow, norm, difference, is_at_least}
use Rattle.relay_num.proofs.Signed.{size-product, size-difference}
use Rattle.relay_num.proofs.Wide.{size-norm, IsBelow-weaker}
use Rattle.loop_impedance.specs.Loops.{item}
use Rattle.loop_impedance.specs.Masks.{mask, loop_mask}
use Rattle.supervise.specs.Current.{allowed}
use Rattle.relay_settings.specs.Settings.{PlainLine}
use Rattle.line_relay.specs.declared.measured.Measured.{Measured}
use Rattle.line_relay.specs.Inside.{has_current}
use Rattle.line_relay.specs.FarBelow.{greater, size_of, greatest_part, is_far_below}

-- neither of two numbers is above the greater
greater_below : (a b bound : ℕ) → greater a b < bound → (a < bound) × (b < bound)
greater_below a b bound h = split (cases_lt a b)
  where
    split : (a < b) ⊎ (b ≤ a) → (a < bound) × (b < bound)
    split (inl l) = let e : greater a b ≡ b = cond-true _ _ _ (lt-ltb a b l) in (omega (arith, h, e), omega (arith, h, e))
    split (inr l) = let e : greater a b ≡ a = cond-false _ _ _ (le-ltb a b l) in (omega (arith, h, e), omega (arith, h, e))

within : (bound : ℕ) (p : Cx) → size_of p < bound → IsBelow p bound
within bound p h = let parts = greater_below (unsigned_abs p.re) (unsigned_abs p.im) bound h in record { re = parts.0; im = parts.1 }

difference_within : (bound : ℕ) (a b : Cx) → IsBelow a bound → IsBelow b bound → IsBelow (difference a b) (bound + bound)
difference_within bound a b h k = record { re = size-difference a.re b.re bound bound h.re k.re; im = size-difference a.im b.im bound bound h.im k.im }

not_above : (m : ℕ) (z : ℤ) → unsigned_abs z < m → int_le (pos m) z ≡ false
not_above m (pos k) h = lt-leb m k h
not_above m (negsuc k) h = refl

squared : (n least bound : ℕ) → 129 * bound ≤ n * least → 2049 * ((bound + bound) * (bound + bound) + (bound + bound) * (bound + bound)) ≤ n * n * (least * least)
squared n least bound fits =
    let squares : 129 * bound * (129 * bound) ≤ n * least * (n * least) = mul-le-mul fits fits in
    omega arith

below_least : (p : Cx) (n least bound : ℕ) → IsBelow p (bound + bound) → 129 * bound ≤ n * least → is_at_least p n least ≡ false
below_least p n least bound h fits =
    let size : unsigned_abs (norm p) < (bound + bound) * (bound + bound) + (bound + bound) * (bound + bound) = size-norm p (bound + bound) h in
    let scaled : unsigned_abs (pos 2048 *ℤ norm p) < 2049 * ((bound + bound) * (bound + bound) + (bound + bound) * (bound + bound)) =
    size-product (pos 2048) (norm p) 2049 _ (omega arith) size in
    let above : 2049 * ((bound + bound) * (bound + bound) + (bound + bound) * (bound + bound)) ≤ n * n * (least * least) = squared n least bound fits in
    not_above (n * n * (least * least)) (pos 2048 *ℤ norm p) (omega arith)

-- what three currents far below a threshold have of it
pub record AreBelow (n least : ℕ) (first second third : Cx) : Type 0 where
  pub a : is_at_least first n least ≡ false
  pub b : is_at_least second n least ≡ false
  pub c : is_at_least third n least ≡ false
  pub ab : is_at_least (difference first second) n least ≡ false
  pub bc : is_at_least (difference second third) n least ≡ false
  pub ca : is_at_least (difference third first) n least ≡ false

pub are_below : (n least : ℕ) (i : List Cx) → is_far_below (greatest_part i) n least ≡ true → AreBelow n least (item 0 i) (item 1 i) (item 2 i)
are_below n least i e =
    let bound : ℕ = n * least / 129 in
    let fits : 129 * (n * least / 129) ≤ n * least = omega arith in
    let outer = greater_below (size_of (item 0 i)) (greater (size_of (item 1 i)) (size_of (item 2 i))) bound (ltb-true _ _ e) in
    let inner = greater_below (size_of (item 1 i)) (size_of (item 2 i)) bound outer.1 in
    let a = within bound (item 0 i) outer.0 in
    let b = within bound (item 1 i) inner.0 in
    let c = within bound (item 2 i) inner.1 in
    record {
      a = below_least (item 0 i) n least bound (IsBelow-weaker (item 0 i) bound (bound + bound) a (omega arith)) fits;
      b = below_least (item 1 i) n least bound (IsBelow-weaker (item 1 i) bound (bound + bound) b (omega arith)) fits;
      c = below_least (item 2 i) n least bound (IsBelow-weaker (item 2 i) bound (bound + bound) c (omega arith)) fits;
      ab = below_least (difference (item 0 i) (item 1 i)) n least bound (difference_within bound (item 0 i) (item 1 i) a b) fits;
      bc = below_least (difference (item 1 i) (item 2 i)) n least bound (difference_within bound (item 1 i) (item 2 i) b c) fits;
      ca = below_least (difference (item 2 i) (item 0 i)) n least bound (difference_within bound (item 2 i) (item 0 i) c a) fits;
    }

-- no loop has the least current
pub none_allowed : (a b c i0 : Cx) (n i_min i0_min : ℕ) → AreBelow n i_min a b c → mask (allowed a b c i0 n i_min i0_min) ≡ 0
none_allowed a b c i0 n i_min i0_min below = rw (below.a, below.b, below.c, below.ab, below.bc, below.ca) refl

-- so no loop has it where the currents are far below
pub far_without : (n : ℕ) (settings : PlainLine) (m : Measured) → is_far_below (greatest_part m.currents) n settings.i_min ≡ true →
    loop_mask (has_current n settings m) ≡ 0
unfolding has_current
far_without n settings m far =
    none_allowed (item 0 m.currents) (item 1 m.currents) (item 2 m.currents) m.current.zero n settings.i_min settings.i0_min
    (are_below n settings.i_min m.currents far)
