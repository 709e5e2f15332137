-- Masks of loops, bit by bit and as a whole.
use Rattle.std.proofs.Common.{◌≡◌, ℕ, zero, suc, ◌+◌, ◌*◌, ◌%◌, ◌<◌, ◌^◌, Bool, true, false, cond, refl, ap, ◌∙◌, arith, List, [], ◌∷◌, length, get_or, eqb}
use Rattle.std.specs.Int.{bit_at}
use Rattle.std.specs.Simd.Lanes.{mask_l}
use Rattle.std.proofs.lemmas.Simd.{bit_mask_l, mask_l-lt}
use Rattle.loop_impedance.specs.Masks.{mask, loop_mask, has_bit}
use Rattle.loop_impedance.specs.MaskLaws.{MasksAgree}

-- a mask is one of std's
pub mask_is : (bits : List Bool) → mask bits ≡ mask_l bits
mask_is [] = refl
mask_is (b ∷ bits) = ap (λ n. cond b 1 0 + 2 * n) (mask_is bits)

one_bit : (b : Bool) → eqb (cond b 1 0) 1 ≡ b
one_bit true = refl
one_bit false = refl

-- the bit of a mask is the item of the list
pub has_bit-mask : (bits : List Bool) (lp : ℕ) → has_bit lp (mask bits) ≡ get_or bits lp false
has_bit-mask bits lp = ap (λ n. eqb (bit_at n lp) 1) (mask_is bits) ∙ ap (λ n. eqb n 1) (bit_mask_l bits lp) ∙ one_bit (get_or bits lp false)

pub mask-lt : (bits : List Bool) → mask bits < 2 ^ length bits
mask-lt bits = rw (mask_is bits) (mask_l-lt bits)

pub has_bit-loop_mask : (test : ℕ → Bool) (lp : ℕ) → lp < 6 → has_bit lp (loop_mask test) ≡ test lp
has_bit-loop_mask test lp h = has_bit-mask (test 0 ∷ test 1 ∷ test 2 ∷ test 3 ∷ test 4 ∷ test 5 ∷ []) lp ∙ at test lp h
  where
    at : (test : ℕ → Bool) (lp : ℕ) → lp < 6 → get_or (test 0 ∷ test 1 ∷ test 2 ∷ test 3 ∷ test 4 ∷ test 5 ∷ []) lp false ≡ test lp
    at test zero h = refl
    at test (suc zero) h = refl
    at test (suc (suc zero)) h = refl
    at test (suc (suc (suc zero))) h = refl
    at test (suc (suc (suc (suc zero)))) h = refl
    at test (suc (suc (suc (suc (suc zero))))) h = refl
    at test (suc (suc (suc (suc (suc (suc n)))))) h = absurd (omega arith)

pub loop_mask-same : (s t : ℕ → Bool) → ((lp : ℕ) → lp < 6 → s lp ≡ t lp) → loop_mask s ≡ loop_mask t
loop_mask-same s t same =
    rw (same 0 (omega arith), same 1 (omega arith), same 2 (omega arith), same 3 (omega arith), same 4 (omega arith), same 5 (omega arith)) refl

one_of_two : (b : Bool) → cond b 1 0 < 2
one_of_two true = omega arith
one_of_two false = omega arith

low_six : (a b c d e f rest : ℕ) → a < 2 → b < 2 → c < 2 → d < 2 → e < 2 → f < 2 →
    (a + 2 * (b + 2 * (c + 2 * (d + 2 * (e + 2 * (f + 2 * rest)))))) % 64 ≡ a + 2 * (b + 2 * (c + 2 * (d + 2 * (e + 2 * (f + 2 * 0)))))
low_six a b c d e f rest ha hb hc hd he hf = omega arith

-- the six lowest bits of the mask of eight
pub mask_of_eight : (bits : List Bool) → length bits ≡ 8 → mask_l bits % 64 ≡ loop_mask (λ lp. get_or bits lp false)
mask_of_eight (a ∷ b ∷ c ∷ d ∷ e ∷ f ∷ g ∷ h ∷ []) long =
    low_six (cond a 1 0) (cond b 1 0) (cond c 1 0) (cond d 1 0) (cond e 1 0) (cond f 1 0) (mask_l (g ∷ h ∷ []))
    (one_of_two a) (one_of_two b) (one_of_two c) (one_of_two d) (one_of_two e) (one_of_two f)
mask_of_eight [] long = absurd (omega arith)
mask_of_eight (a ∷ []) long = absurd (omega arith)
mask_of_eight (a ∷ b ∷ []) long = absurd (omega arith)
mask_of_eight (a ∷ b ∷ c ∷ []) long = absurd (omega arith)
mask_of_eight (a ∷ b ∷ c ∷ d ∷ []) long = absurd (omega arith)
mask_of_eight (a ∷ b ∷ c ∷ d ∷ e ∷ []) long = absurd (omega arith)
mask_of_eight (a ∷ b ∷ c ∷ d ∷ e ∷ f ∷ []) long = absurd (omega arith)
mask_of_eight (a ∷ b ∷ c ∷ d ∷ e ∷ f ∷ g ∷ []) long = absurd (omega arith)
mask_of_eight (a ∷ b ∷ c ∷ d ∷ e ∷ f ∷ g ∷ h ∷ i ∷ more) long = absurd (omega arith)

pub masks_agree : MasksAgree
masks_agree = record { listed = has_bit-mask; tested = has_bit-loop_mask; few = mask-lt }
