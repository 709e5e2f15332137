-- Sizes of loop voltages and currents, and the sums of products as the code forms them in 64 bits.
use Rattle.std.proofs.Common.{refl, ◌≡◌, ◌+◌, ◌*◌, ◌^◌, ◌<◌, ◌≤◌, ℕ, ℤ, pos, ◌+ℤ◌, ◌-ℤ◌, ◌*ℤ◌, arith, lit≤, unsigned_abs, to_z, of_z, to_z-of_z, FitsSigned}
use Rattle.std.specs.Int.{w64}
use Rattle.std.proofs.lemmas.Int.{fits_signed_from_abs}
use Rattle.relay_num.specs.declared.Cx.{Cx}
use Rattle.relay_num.specs.Numbers.{IsBelow, sum, difference, scaled, product, turned, turned_back}
use Rattle.relay_num.proofs.Signed.{signed, one_part, size-product, size-sum, size-difference}
use Rattle.relay_num.proofs.Wide.{IsBelow-product, IsBelow-weaker}
use Rattle.relay_num.specs.Bounds.{AllBelow}
use Rattle.lanes.proofs.LaneLemmas.{AllBelow-eight}
use Rattle.loop_impedance.specs.Loops.{ground_current, voltages_of, currents_of, AreLoopsBelow}
use Rattle.loop_impedance.specs.LoopLanes.{between_lanes, compensated_lanes, joined_lanes}

-- what the code holds of z
abbrev pub held : ℤ → ℤ
held z = to_z w64 (of_z w64 z)

pub fits_64 : (z : ℤ) (m : ℕ) → unsigned_abs z < m → m ≤ 2 ^ 63 → FitsSigned w64 z
fits_64 z m h k = fits_signed_from_abs w64 z (omega arith)

-- a part of the compensation: k x - l y or k x + l y
pub record Part (k x l y : ℤ) : Type 0 where
  pub first : FitsSigned w64 (held k *ℤ held x)
  pub second : FitsSigned w64 (held l *ℤ held y)
  pub less : FitsSigned w64 (held (held k *ℤ held x) -ℤ held (held l *ℤ held y))
  pub more : FitsSigned w64 (held (held k *ℤ held x) +ℤ held (held l *ℤ held y))
  pub is_less : held (held (held k *ℤ held x) -ℤ held (held l *ℤ held y)) ≡ k *ℤ x -ℤ l *ℤ y
  pub is_more : held (held (held k *ℤ held x) +ℤ held (held l *ℤ held y)) ≡ k *ℤ x +ℤ l *ℤ y

pub part : (k x l y : ℤ) → unsigned_abs k < 2 ^ 12 → unsigned_abs x < 2 ^ 40 → unsigned_abs l < 2 ^ 12 → unsigned_abs y < 2 ^ 40 → Part k x l y
part k x l y hk hx hl hy =
    let kx = size-product k x (2 ^ 12) (2 ^ 40) hk hx in
    let ly = size-product l y (2 ^ 12) (2 ^ 40) hl hy in
    let fk : FitsSigned w64 k = fits_64 k (2 ^ 12) hk (lit≤ tt) in
    let fx : FitsSigned w64 x = fits_64 x (2 ^ 40) hx (lit≤ tt) in
    let fl : FitsSigned w64 l = fits_64 l (2 ^ 12) hl (lit≤ tt) in
    let fy : FitsSigned w64 y = fits_64 y (2 ^ 40) hy (lit≤ tt) in
    let fkx : FitsSigned w64 (k *ℤ x) = fits_64 _ _ kx (lit≤ tt) in
    let fly : FitsSigned w64 (l *ℤ y) = fits_64 _ _ ly (lit≤ tt) in
    let fless : FitsSigned w64 (k *ℤ x -ℤ l *ℤ y) = fits_64 _ _ (size-difference (k *ℤ x) (l *ℤ y) _ _ kx ly) (lit≤ tt) in
    let fmore : FitsSigned w64 (k *ℤ x +ℤ l *ℤ y) = fits_64 _ _ (size-sum (k *ℤ x) (l *ℤ y) _ _ kx ly) (lit≤ tt) in
    record {
      first = simp to_z-of_z fkx;
      second = simp to_z-of_z fly;
      less = simp to_z-of_z fless;
      more = simp to_z-of_z fmore;
      is_less = simp to_z-of_z;
      is_more = simp to_z-of_z;
    }

part_apart : (a b : ℤ) (m n : ℕ) → unsigned_abs a < m → unsigned_abs b < m → m + m ≤ n + 1 → unsigned_abs (a -ℤ b) < n
part_apart a b m n h k few = omega (arith, signed, one_part a, one_part b, one_part (a -ℤ b))

pub difference_below : (a b : Cx) (m n : ℕ) → IsBelow a m → IsBelow b m → m + m ≤ n + 1 → IsBelow (difference a b) n
difference_below a b m n h k few = record { re = part_apart a.re b.re m n h.re k.re few; im = part_apart a.im b.im m n h.im k.im few }

pub sum_below : (a b : Cx) (m n : ℕ) → IsBelow a m → IsBelow b n → IsBelow (sum a b) (m + n)
sum_below a b m n h k = record { re = size-sum a.re b.re m n h.re k.re; im = size-sum a.im b.im m n h.im k.im }

pub scaled_below : (z : Cx) (m : ℕ) → IsBelow z m → IsBelow (scaled 1000 z) (1001 * m)
scaled_below z m h = record { re = size-product (pos 1000) z.re 1001 m (omega arith) h.re; im = size-product (pos 1000) z.im 1001 m (omega arith) h.im }

pub turned_below : (z : Cx) → IsBelow z (2 ^ 32) → IsBelow (turned z) (2 ^ 33)
turned_below z h = record { re = omega (arith, signed, h.re, h.im, one_part z.re, one_part z.im, one_part (turned z).re); im = omega (arith, signed, h.re, h.im, one_part z.re, one_part z.im, one_part (turned z).im) }

pub turned_back_below : (z : Cx) → IsBelow z (2 ^ 32) → IsBelow (turned_back z) (2 ^ 33)
turned_back_below z h = record { re = omega (arith, signed, h.re, h.im, one_part z.re, one_part z.im, one_part (turned_back z).re); im = omega (arith, signed, h.re, h.im, one_part z.re, one_part z.im, one_part (turned_back z).im) }

pub ground_below : (k0 residual phase : Cx) → IsBelow k0 4001 → IsBelow residual (3 * (2 ^ 30 + 1)) → IsBelow phase (2 ^ 30 + 1) → IsBelow (ground_current k0 residual phase) (2 ^ 45)
ground_below k0 residual phase h k l = IsBelow-weaker _ _ (2 ^ 45) (sum_below (scaled 1000 phase) (product k0 residual) _ _ (scaled_below phase (2 ^ 30 + 1) l) (IsBelow-product k0 residual 4001 (3 * (2 ^ 30 + 1)) h k)) (lit≤ tt)

pub total_below : (a b c : Cx) → IsBelow a (2 ^ 30 + 1) → IsBelow b (2 ^ 30 + 1) → IsBelow c (2 ^ 30 + 1) → IsBelow (sum (sum a b) c) (3 * (2 ^ 30 + 1))
total_below a b c h k l = sum_below (sum a b) c (2 * (2 ^ 30 + 1)) (2 ^ 30 + 1) (sum_below a b (2 ^ 30 + 1) (2 ^ 30 + 1) h k) l

pub voltages_below : (a b c : Cx) (m n : ℕ) → IsBelow a m → IsBelow b m → IsBelow c m → m + m ≤ n + 1 → AreLoopsBelow (voltages_of a b c) n
voltages_below a b c m n h k l few = record {
  ag = IsBelow-weaker a m n h (omega arith);
  bg = IsBelow-weaker b m n k (omega arith);
  cg = IsBelow-weaker c m n l (omega arith);
  ab = difference_below a b m n h k few;
  bc = difference_below b c m n k l few;
  ca = difference_below c a m n l h few;
}

apart_below : (a b : Cx) → IsBelow a (2 ^ 30 + 1) → IsBelow b (2 ^ 30 + 1) → IsBelow (scaled 1000 (difference a b)) (2 ^ 45)
apart_below a b h k = IsBelow-weaker _ _ (2 ^ 45) (scaled_below (difference a b) (2 ^ 32) (difference_below a b (2 ^ 30 + 1) (2 ^ 32) h k (lit≤ tt))) (lit≤ tt)

pub currents_below : (k0 a b c : Cx) → IsBelow k0 4001 → IsBelow a (2 ^ 30 + 1) → IsBelow b (2 ^ 30 + 1) → IsBelow c (2 ^ 30 + 1) → AreLoopsBelow (currents_of k0 a b c) (2 ^ 45)
currents_below k0 a b c f h k l =
    let residual = total_below a b c h k l in
    record {
      ag = ground_below k0 (sum (sum a b) c) a f residual h;
      bg = ground_below k0 (sum (sum a b) c) b f residual k;
      cg = ground_below k0 (sum (sum a b) c) c f residual l;
      ab = apart_below a b h k;
      bc = apart_below b c k l;
      ca = apart_below c a l h;
    }

-- ---- the six loops in lanes

minus_zero : (z : ℤ) → z -ℤ pos 0 ≡ z
minus_zero z = omega (arith, signed)

plus_zero : (z : ℤ) → z +ℤ pos 0 ≡ z
plus_zero z = omega (arith, signed)

thousand : (z : ℤ) → z *ℤ pos 1000 ≡ pos 1000 *ℤ z
thousand z = omega (arith, signed)

-- what the code holds is the number
pub held_is : (z : ℤ) (m : ℕ) → unsigned_abs z < m → m ≤ 2 ^ 63 → held z ≡ z
held_is z m h k = to_z-of_z (fits_64 z m h k)

pub between_held : (a b c : ℤ) → unsigned_abs a < 2 ^ 33 → unsigned_abs b < 2 ^ 33 → unsigned_abs c < 2 ^ 33 →
    between_lanes (held a) (held b) (held c) ≡ between_lanes a b c
between_held a b c ha hb hc = rw (held_is a (2 ^ 33) ha (lit≤ tt), held_is b (2 ^ 33) hb (lit≤ tt), held_is c (2 ^ 33) hc (lit≤ tt)) refl

pub joined_voltages : (a b c : Cx) → joined_lanes (between_lanes a.re b.re c.re) (between_lanes a.im b.im c.im) ≡ voltages_of a b c
joined_voltages a b c = simp minus_zero

pub joined_currents : (k0 a b c : Cx) →
    joined_lanes (compensated_lanes (between_lanes a.re b.re c.re) (product k0 (sum (sum a b) c)).re)
    (compensated_lanes (between_lanes a.im b.im c.im) (product k0 (sum (sum a b) c)).im)
    ≡ currents_of k0 a b c
joined_currents k0 a b c = simp (minus_zero, thousand)

size_zero : (m : ℕ) → 0 < m → unsigned_abs (pos 0) < m
size_zero m h = omega arith

pub between_below : (a b c : ℤ) → unsigned_abs a < 2 ^ 33 → unsigned_abs b < 2 ^ 33 → unsigned_abs c < 2 ^ 33 → AllBelow (between_lanes a b c) (2 ^ 40)
between_below a b c ha hb hc = AllBelow-eight (2 ^ 40) _ _ _ _ _ _ _ _
    (apart a (pos 0) ha (omega arith)) (apart b (pos 0) hb (omega arith)) (apart c (pos 0) hc (omega arith))
    (apart a b ha hb) (apart b c hb hc) (apart c a hc ha)
    (apart (pos 0) (pos 0) (omega arith) (omega arith)) (apart (pos 0) (pos 0) (omega arith) (omega arith))
  where
    apart : (x y : ℤ) → unsigned_abs x < 2 ^ 33 → unsigned_abs y < 2 ^ 33 → unsigned_abs (x -ℤ y) < 2 ^ 40
    apart x y hx hy = let h = size-difference x y (2 ^ 33) (2 ^ 33) hx hy in omega (arith, h)
