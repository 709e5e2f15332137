-- What the lanes of a vector of `i64` hold, in whole numbers, and how great they get.
use Rattle.std.proofs.Common.{◌≡◌, ℕ, ◌+◌, ◌*◌, ◌-◌, ◌%◌, ◌<◌, ◌≤◌, ◌^◌, zero, suc, negsuc, Bool, true, false, cond, List, [], ◌∷◌, length, get_or, map, replicate, ℤ, pos, ◌+ℤ◌, ◌-ℤ◌, ◌*ℤ◌, FitsSigned, to_z, of_z, to_z-of_z, refl, ap, ◌∙◌, arith, unsigned_abs, lit<}
use Rattle.std.specs.Int.{w64}
use Rattle.std.specs.Simd.Lanes.{zip2, Each1, Each2, sel_l, top}
use Rattle.std.proofs.lemmas.Simd.{Each1-from_get_or, Each2-of, get_or-replicate, length-replicate, length-zip2, get_or-zip2}
use Rattle.std.proofs.lemmas.Int.{ints, clamps, wrapping_add_is, wrapping_sub_is, wrapping_mul_is, int_wrap_fits, fits_signed_from_abs, unsigned_abs-mul}
use Rattle.std.proofs.lemmas.List.Elements.{All-map}
use Rattle.relay_num.proofs.Signed.{signed, one_part, size-product, size-sum, size-difference}
use lib.Signed.{shr_z, lt_z}
use Rattle.std.specs.Int.{int_min, int_max}
use Rattle.relay_num.specs.Numbers.{floor_div}
use Rattle.relay_num.specs.Bounds.{AllBelow}
use Rattle.lanes.specs.Lanes.{sums, differences, multiples, quotients}
use Rattle.std.proofs.Math.Nat.{div-le_self}

-- an operation on bits that is g on the numbers of each pair of lanes
pub lanes_are : (f : ℕ → ℕ → ℕ) (g : ℤ → ℤ → ℤ) (R : ℤ → ℤ → Type 0) → ((x y : ℤ) → R x y → to_z w64 (f (of_z w64 x) (of_z w64 y)) ≡ g x y) → (xs ys : List ℤ) → Each2 R xs ys → map (to_z w64) (zip2 f (map (of_z w64) xs) (map (of_z w64) ys)) ≡ zip2 g xs ys
lanes_are f g R h [] ys r = refl
lanes_are f g R h (x ∷ xs) [] r = refl
lanes_are f g R h (x ∷ xs) (y ∷ ys) r = ap (λ z. z ∷ map (to_z w64) (zip2 f (map (of_z w64) xs) (map (of_z w64) ys))) (h x y r.0) ∙ ap (λ zs. g x y ∷ zs) (lanes_are f g R h xs ys r.1)

pub Each1-AllBelow : (xs : List ℤ) (m : ℕ) → AllBelow xs m → Each1 (λ x. unsigned_abs x < m) xs
Each1-AllBelow xs m h = Each1-from_get_or (λ x. unsigned_abs x < m) xs (pos 0) (λ i lt. h i (pos 0) lt)

pub record Both (m n : ℕ) (x y : ℤ) : Type 0 where
  pub left : unsigned_abs x < m
  pub right : unsigned_abs y < n

pub both : (xs ys : List ℤ) (m n : ℕ) → AllBelow xs m → AllBelow ys n → Each2 (Both m n) xs ys
both xs ys m n h k = Each2-of (λ x. unsigned_abs x < m) (λ y. unsigned_abs y < n) (Both m n) (λ x y p q. record { left = p; right = q }) xs ys (Each1-AllBelow xs m h) (Each1-AllBelow ys n k)

pub wrapped_sum : (x y : ℤ) → Both (2 ^ 62) (2 ^ 62) x y → to_z w64 ((of_z w64 x + of_z w64 y) % 2 ^ 64) ≡ x +ℤ y
wrapped_sum x y b = wrapping_add_is w64 x y (fits_signed_from_abs w64 x (omega (arith, b.left))) (fits_signed_from_abs w64 y (omega (arith, b.right))) ∙ int_wrap_fits w64 (x +ℤ y) (fits_signed_from_abs w64 (x +ℤ y) (size-sum x y (2 ^ 62) (2 ^ 62) b.left b.right))

pub wrapped_difference : (x y : ℤ) → Both (2 ^ 62) (2 ^ 62) x y → to_z w64 ((of_z w64 x + (2 ^ 64 - of_z w64 y)) % 2 ^ 64) ≡ x -ℤ y
wrapped_difference x y b = wrapping_sub_is w64 x y (fits_signed_from_abs w64 x (omega (arith, b.left))) (fits_signed_from_abs w64 y (omega (arith, b.right))) ∙ int_wrap_fits w64 (x -ℤ y) (fits_signed_from_abs w64 (x -ℤ y) (size-difference x y (2 ^ 62) (2 ^ 62) b.left b.right))

pub wrapped_product : (m n : ℕ) → m ≤ 2 ^ 63 → n ≤ 2 ^ 63 → m * n ≤ 2 ^ 63 → (x y : ℤ) → Both m n x y → to_z w64 ((of_z w64 x * of_z w64 y) % 2 ^ 64) ≡ x *ℤ y
wrapped_product m n mx nx both x y b =
    wrapping_mul_is w64 x y (fits_signed_from_abs w64 x (omega (arith, b.left))) (fits_signed_from_abs w64 y (omega (arith, b.right)))
    ∙ int_wrap_fits w64 (x *ℤ y) (fits_signed_from_abs w64 (x *ℤ y) (omega (arith, size-product x y m n b.left b.right)))

-- the lanes of a vector are the numbers that it was made of
pub read_back : (xs : List ℤ) → Each1 (FitsSigned w64) xs → map (to_z w64) (map (of_z w64) xs) ≡ xs
read_back [] h = refl
read_back (x ∷ xs) h = ap (λ z. z ∷ map (to_z w64) (map (of_z w64) xs)) (to_z-of_z h.0) ∙ ap (λ zs. x ∷ zs) (read_back xs h.1)

-- up by 32 bits, and down again
up_by_half : (x : ℤ) → unsigned_abs x < 2 ^ 31 → to_z w64 ((of_z w64 x * 2 ^ 32) % 2 ^ 64) ≡ x *ℤ pos (2 ^ 32)
up_by_half x h =
    wrapping_mul_is w64 x (pos (2 ^ 32)) (fits_signed_from_abs w64 x (omega (arith, h))) (fits_signed_from_abs w64 (pos (2 ^ 32)) (lit< tt))
    ∙ int_wrap_fits w64 (x *ℤ pos (2 ^ 32)) (fits_signed_from_abs w64 (x *ℤ pos (2 ^ 32)) (omega (arith, h, unsigned_abs-mul x (pos (2 ^ 32)))))

down_by_half : (x : ℤ) → shr_z (x *ℤ pos (2 ^ 32)) (2 ^ 32) ≡ x
down_by_half (pos n) = ap pos (omega arith)
down_by_half (negsuc n) =
    let up : negsuc n *ℤ pos (2 ^ 32) ≡ negsuc (n * 2 ^ 32 + (2 ^ 32 - 1)) = omega (arith, signed) in
    rw up (ap negsuc (omega arith))

kept_lane : (x : ℤ) → unsigned_abs x < 2 ^ 31 → to_z w64 (of_z w64 (shr_z (to_z w64 ((of_z w64 x * 2 ^ 32) % 2 ^ 64)) (2 ^ 32))) ≡ x
kept_lane x h = rw (up_by_half x h, down_by_half x) (to_z-of_z (fits_signed_from_abs w64 x (omega (arith, h))))

pub kept_lanes : (xs : List ℤ) (n : ℕ) → length xs ≡ n → Each1 (λ x. unsigned_abs x < 2 ^ 31) xs
    → map (to_z w64) (zip2 (λ m k. of_z w64 (shr_z (to_z w64 m) (2 ^ k))) (zip2 (λ m k. (m * 2 ^ k) % 2 ^ 64) (map (of_z w64) xs) (replicate n 32)) (replicate n 32)) ≡ xs
kept_lanes [] n e h = refl
kept_lanes (x ∷ xs) zero e h = absurd (omega (arith, e))
kept_lanes (x ∷ xs) (suc n) e h =
    ap (λ z. z ∷ map (to_z w64) (zip2 (λ m k. of_z w64 (shr_z (to_z w64 m) (2 ^ k))) (zip2 (λ m k. (m * 2 ^ k) % 2 ^ 64) (map (of_z w64) xs) (replicate n 32)) (replicate n 32))) (kept_lane x h.0)
    ∙ ap (λ zs. x ∷ zs) (kept_lanes xs n (omega (arith, e)) h.1)

pub AllBelow-replicate : (n : ℕ) (k : ℤ) (m : ℕ) → unsigned_abs k < m → AllBelow (replicate n k) m
AllBelow-replicate n k m h i d lt = rw (get_or-replicate n i k d (omega (arith, length-replicate n k))) h

pub AllBelow-eight : (m : ℕ) (a b c d e f g h : ℤ) → unsigned_abs a < m → unsigned_abs b < m → unsigned_abs c < m → unsigned_abs d < m →
    unsigned_abs e < m → unsigned_abs f < m → unsigned_abs g < m → unsigned_abs h < m → AllBelow (a ∷ b ∷ c ∷ d ∷ e ∷ f ∷ g ∷ h ∷ []) m
AllBelow-eight m a b c d e f g h ha hb hc hd he hf hg hh =
    push a (b ∷ c ∷ d ∷ e ∷ f ∷ g ∷ h ∷ []) ha (push b (c ∷ d ∷ e ∷ f ∷ g ∷ h ∷ []) hb (push c (d ∷ e ∷ f ∷ g ∷ h ∷ []) hc
    (push d (e ∷ f ∷ g ∷ h ∷ []) hd (push e (f ∷ g ∷ h ∷ []) he (push f (g ∷ h ∷ []) hf (push g (h ∷ []) hg (push h [] hh none)))))))
  where
    none : AllBelow [] m
    none i x lt = absurd (omega arith)

    push : (x : ℤ) (xs : List ℤ) → unsigned_abs x < m → AllBelow xs m → AllBelow (x ∷ xs) m
    push x xs h below zero d lt = h
    push x xs h below (suc i) d lt = below i d (omega arith)

pub AllBelow-weaker : (xs : List ℤ) (m n : ℕ) → AllBelow xs m → m ≤ n → AllBelow xs n
AllBelow-weaker xs m n h k i d lt = omega (arith, h i d lt)

pub AllBelow-differences : (xs ys : List ℤ) (m n : ℕ) → length xs ≡ length ys → AllBelow xs m → AllBelow ys n → AllBelow (differences xs ys) (m + n)
AllBelow-differences xs ys m n e h k i d lt =
    let long = length-zip2 (λ x y. x -ℤ y) xs ys e in
    rw (get_or-zip2 (λ x y. x -ℤ y) xs ys i d d d (omega arith) (omega arith)) (size-difference (get_or xs i d) (get_or ys i d) m n (h i d (omega arith)) (k i d (omega arith)))

pub AllBelow-multiples : (xs : List ℤ) (k : ℤ) (m n : ℕ) → AllBelow xs m → unsigned_abs k < n → AllBelow (multiples xs k) (m * n)
AllBelow-multiples xs k m n h b = All-map (λ x. unsigned_abs x < m * n) (λ x. x *ℤ k) xs (λ i d lt. size-product (get_or xs i d) k m n (h i d lt) b)

size_left : (x y : ℤ) (m n : ℕ) → unsigned_abs (x +ℤ y) < m → unsigned_abs y < n → unsigned_abs x < m + n
size_left x y m n h k = omega (arith, signed, one_part x, one_part y, one_part (x +ℤ y))

-- a summand is as small as the sum and the other summand let it be
pub AllBelow-left : (xs ys : List ℤ) (m n : ℕ) → length xs ≡ length ys → AllBelow (sums xs ys) m → AllBelow ys n → AllBelow xs (m + n)
AllBelow-left xs ys m n e h k i d lt =
    let long = length-zip2 (λ x y. x +ℤ y) xs ys e in
    let total = rw (get_or-zip2 (λ x y. x +ℤ y) xs ys i d d d lt (omega arith)) at (h i d (omega arith)) in
    size_left (get_or xs i d) (get_or ys i d) m n total (k i d (omega arith))

pub record Shifted (bits : ℕ) (x y : ℤ) : Type 0 where
  pub fits : FitsSigned w64 x
  pub by_bits : y ≡ pos bits

pub floor_div_fits : (x : ℤ) (m : ℕ) → FitsSigned w64 x → FitsSigned w64 (floor_div x m)
floor_div_fits (pos n) m f = record { sfits = omega (arith, f.sfits, div-le_self n m) }
floor_div_fits (negsuc n) m f = record { sfits = omega (arith, f.sfits, div-le_self n m) }

shr_is : (x : ℤ) (m : ℕ) → shr_z x m ≡ floor_div x m
shr_is (pos n) m = refl
shr_is (negsuc n) m = refl

pub shifted : (bits : ℕ) (x y : ℤ) → Shifted bits x y → to_z w64 (of_z w64 (shr_z (to_z w64 (of_z w64 x)) (2 ^ of_z w64 y))) ≡ floor_div x (2 ^ bits)
shifted bits x y s = rw (s.by_bits, to_z-of_z s.fits, shr_is x (2 ^ bits)) (to_z-of_z (floor_div_fits x (2 ^ bits) s.fits))

pub all_shifted : (bits : ℕ) (xs : List ℤ) (n : ℕ) → Each1 (FitsSigned w64) xs → Each2 (Shifted bits) xs (replicate n (pos bits))
all_shifted bits [] n h = tt
all_shifted bits (x ∷ xs) zero h = tt
all_shifted bits (x ∷ xs) (suc n) h = (record { fits = h.0; by_bits = refl }, all_shifted bits xs n h.1)

pub Each1-fits : (xs : List ℤ) → AllBelow xs (2 ^ 62) → Each1 (FitsSigned w64) xs
Each1-fits xs h = Each1-from_get_or (FitsSigned w64) xs (pos 0) (λ i lt. fits_signed_from_abs w64 (get_or xs i (pos 0)) (omega (arith, h i (pos 0) lt)))

-- what a comparison of two lanes leaves in the mask's lane
abbrev pub mask_lane : ℕ → ℕ → ℕ
mask_lane m n = cond (lt_z (to_z w64 m) (to_z w64 n)) (2 ^ 64 - 1) 0

lesser_by : (x k : ℤ) → FitsSigned w64 x → FitsSigned w64 k → (b : Bool) → lt_z x k ≡ b → to_z w64 (cond (top 63 (cond b (2 ^ 64 - 1) 0)) (of_z w64 x) (of_z w64 k)) ≡ int_min x k
lesser_by x k f g true e = to_z-of_z f ∙ omega (arith, ints, clamps, e)
lesser_by x k f g false e = to_z-of_z g ∙ omega (arith, ints, clamps, e)

greater_by : (x k : ℤ) → FitsSigned w64 x → FitsSigned w64 k → (b : Bool) → lt_z x k ≡ b → to_z w64 (cond (top 63 (cond b (2 ^ 64 - 1) 0)) (of_z w64 k) (of_z w64 x)) ≡ int_max x k
greater_by x k f g true e = to_z-of_z g ∙ omega (arith, ints, clamps, e)
greater_by x k f g false e = to_z-of_z f ∙ omega (arith, ints, clamps, e)

lesser : (x k : ℤ) → FitsSigned w64 x → FitsSigned w64 k → to_z w64 (cond (top 63 (mask_lane (of_z w64 x) (of_z w64 k))) (of_z w64 x) (of_z w64 k)) ≡ int_min x k
lesser x k f g =
    let same : lt_z (to_z w64 (of_z w64 x)) (to_z w64 (of_z w64 k)) ≡ lt_z x k = ap (λ z. lt_z z (to_z w64 (of_z w64 k))) (to_z-of_z f) ∙ ap (lt_z x) (to_z-of_z g) in
    ap (λ b. to_z w64 (cond (top 63 (cond b (2 ^ 64 - 1) 0)) (of_z w64 x) (of_z w64 k))) same ∙ lesser_by x k f g (lt_z x k) refl

greater : (x k : ℤ) → FitsSigned w64 x → FitsSigned w64 k → to_z w64 (cond (top 63 (mask_lane (of_z w64 x) (of_z w64 k))) (of_z w64 k) (of_z w64 x)) ≡ int_max x k
greater x k f g =
    let same : lt_z (to_z w64 (of_z w64 x)) (to_z w64 (of_z w64 k)) ≡ lt_z x k = ap (λ z. lt_z z (to_z w64 (of_z w64 k))) (to_z-of_z f) ∙ ap (lt_z x) (to_z-of_z g) in
    ap (λ b. to_z w64 (cond (top 63 (cond b (2 ^ 64 - 1) 0)) (of_z w64 k) (of_z w64 x))) same ∙ greater_by x k f g (lt_z x k) refl

-- `simd_min` and `simd_max` with a splat
pub min_lanes : (xs : List ℤ) (n : ℕ) (k : ℤ) → length xs ≡ n → Each1 (FitsSigned w64) xs → FitsSigned w64 k
    → map (to_z w64) (sel_l (map (top 63) (zip2 mask_lane (map (of_z w64) xs) (map (of_z w64) (replicate n k)))) (map (of_z w64) xs) (map (of_z w64) (replicate n k))) ≡ map (λ x. int_min x k) xs
min_lanes [] n k e h g = refl
min_lanes (x ∷ xs) zero k e h g = absurd (omega (arith, e))
min_lanes (x ∷ xs) (suc n) k e h g =
    ap (λ z. z ∷ map (to_z w64) (sel_l (map (top 63) (zip2 mask_lane (map (of_z w64) xs) (map (of_z w64) (replicate n k)))) (map (of_z w64) xs) (map (of_z w64) (replicate n k)))) (lesser x k h.0 g)
    ∙ ap (λ zs. int_min x k ∷ zs) (min_lanes xs n k (omega (arith, e)) h.1 g)

pub max_lanes : (xs : List ℤ) (n : ℕ) (k : ℤ) → length xs ≡ n → Each1 (FitsSigned w64) xs → FitsSigned w64 k
    → map (to_z w64) (sel_l (map (top 63) (zip2 mask_lane (map (of_z w64) xs) (map (of_z w64) (replicate n k)))) (map (of_z w64) (replicate n k)) (map (of_z w64) xs)) ≡ map (λ x. int_max x k) xs
max_lanes [] n k e h g = refl
max_lanes (x ∷ xs) zero k e h g = absurd (omega (arith, e))
max_lanes (x ∷ xs) (suc n) k e h g =
    ap (λ z. z ∷ map (to_z w64) (sel_l (map (top 63) (zip2 mask_lane (map (of_z w64) xs) (map (of_z w64) (replicate n k)))) (map (of_z w64) (replicate n k)) (map (of_z w64) xs))) (greater x k h.0 g)
    ∙ ap (λ zs. int_max x k ∷ zs) (max_lanes xs n k (omega (arith, e)) h.1 g)

size_floor : (x : ℤ) (k m : ℕ) → unsigned_abs x < m → unsigned_abs (floor_div x k) < m
size_floor (pos n) k m h = omega (arith, div-le_self n k)
size_floor (negsuc n) k m h = omega (arith, div-le_self n k)

pub AllBelow-floor : (xs : List ℤ) (k m : ℕ) → AllBelow xs m → AllBelow (quotients xs k) m
AllBelow-floor xs k m h = All-map (λ x. unsigned_abs x < m) (λ x. floor_div x k) xs (λ i d lt. size_floor (get_or xs i d) k m (h i d lt))

size_min : (x k : ℤ) (m : ℕ) → unsigned_abs x < m → unsigned_abs k < m → unsigned_abs (int_min x k) < m
size_min x k m h g = go (lt_z k x)
  where
    go : (b : Bool) → unsigned_abs (cond b k x) < m
    go true = g
    go false = h

pub AllBelow-min : (xs : List ℤ) (k : ℤ) (m : ℕ) → AllBelow xs m → unsigned_abs k < m → AllBelow (map (λ x. int_min x k) xs) m
AllBelow-min xs k m h g = All-map (λ x. unsigned_abs x < m) (λ x. int_min x k) xs (λ i d lt. size_min (get_or xs i d) k m (h i d lt) g)
