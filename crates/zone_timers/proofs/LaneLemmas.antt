-- A zone's runs in eight lanes.
use Rattle.std.proofs.Common.{◌≡◌, ◌≢◌, ℕ, zero, suc, ◌+◌, ◌*◌, ◌-◌, ◌%◌, ◌<◌, ◌^◌, Bool, false, cond, not, refl, ap, ap₂, ◌∙◌, arith, List, [], ◌∷◌, length, get_or, map, replicate, min, eqb, ltb}
use Rattle.std.specs.Prelude.{bit_and}
use Rattle.std.specs.Int.{bit_at}
use Rattle.std.specs.Int.{w32}
use Rattle.std.specs.Simd.Lanes.{zip2, sel_l, top}
use Rattle.std.proofs.lemmas.Bool.{ne_eqb}
use Rattle.std.proofs.lemmas.Bool.Decides.{nat_tests}
use Rattle.std.proofs.lemmas.Simd.{tops_compared, get_or-sel_l, get_or-zip2, length-zip2, get_or-replicate, length-sel_l}
use Rattle.std.proofs.lemmas.Nat.Bits.{and_pow, bit_at-lt}
use Rattle.std.proofs.lemmas.Nat.{pow_pos}
use Rattle.loop_impedance.specs.Masks.{has_bit}

-- what a comparison of lanes leaves in the mask
abbrev pub mask_lane : (ℕ → ℕ → Bool) → ℕ → ℕ → ℕ
mask_lane t a b = cond (t a b) (2 ^ 32 - 1) 0

before_lane : (end : ℕ) → 0 < end → end < 2 ^ 32 → (end + (2 ^ 32 - 1)) % 2 ^ 32 ≡ end - 1
before_lane end some h = omega arith

least_lane : (run before : ℕ) → cond (ltb run before) run before ≡ min run before
least_lane run before = grind (arith, nat_tests)

raised_lane : (run end : ℕ) → 0 < end → end < 2 ^ 32 → (min run (end - 1) + 1) % 2 ^ 32 ≡ min (run + 1) end
raised_lane run end some h = omega arith

-- one less than each end
abbrev pub before_ends : List ℕ → List ℕ
before_ends ends = zip2 (λ a b. (a + (2 ^ 32 - b)) % 2 ^ 32) ends (replicate 8 1)

-- the less of each run and of what lies before its end
abbrev pub least_lanes : List ℕ → List ℕ → List ℕ
least_lanes runs ends = sel_l (map (top 31) (zip2 (mask_lane ltb) runs (before_ends ends))) runs (before_ends ends)

-- one more than that
abbrev pub raised_lanes : List ℕ → List ℕ → List ℕ
raised_lanes runs ends = zip2 (λ a b. (a + b) % 2 ^ 32) (least_lanes runs ends) (replicate 8 1)

before_long : (ends : List ℕ) → length ends ≡ 8 → length (before_ends ends) ≡ 8
before_long ends long = length-zip2 (λ a b. (a + (2 ^ 32 - b)) % 2 ^ 32) ends (replicate 8 1) long ∙ long

before_is : (ends : List ℕ) (lp : ℕ) → length ends ≡ 8 → lp < 8 → 0 < get_or ends lp 0 → get_or ends lp 0 < 2 ^ 32 →
    get_or (before_ends ends) lp 0 ≡ get_or ends lp 0 - 1
before_is ends lp long h some small =
    get_or-zip2 (λ a b. (a + (2 ^ 32 - b)) % 2 ^ 32) ends (replicate 8 1) lp 0 0 0 (omega arith) h
    ∙ ap (λ b. (get_or ends lp 0 + (2 ^ 32 - b)) % 2 ^ 32) (get_or-replicate 8 lp 1 0 h)
    ∙ before_lane (get_or ends lp 0) some small

least_long : (runs ends : List ℕ) → length runs ≡ 8 → length ends ≡ 8 → length (least_lanes runs ends) ≡ 8
least_long runs ends long ends_long =
    let before : length (before_ends ends) ≡ 8 = before_long ends ends_long in
    let below_long : length (zip2 ltb runs (before_ends ends)) ≡ 8 = length-zip2 ltb runs (before_ends ends) (omega arith) ∙ long in
    ap (λ ms. length (sel_l ms runs (before_ends ends))) (tops_compared w32 ltb runs (before_ends ends))
    ∙ length-sel_l (zip2 ltb runs (before_ends ends)) runs (before_ends ends) (omega arith) (omega arith) ∙ below_long

least_is : (runs ends : List ℕ) (lp : ℕ) → length runs ≡ 8 → length ends ≡ 8 → lp < 8 → 0 < get_or ends lp 0 → get_or ends lp 0 < 2 ^ 32 →
    get_or (least_lanes runs ends) lp 0 ≡ min (get_or runs lp 0) (get_or ends lp 0 - 1)
least_is runs ends lp long ends_long h some small =
    let before : length (before_ends ends) ≡ 8 = before_long ends ends_long in
    let below_long : length (zip2 ltb runs (before_ends ends)) ≡ 8 = length-zip2 ltb runs (before_ends ends) (omega arith) ∙ long in
    ap (λ ms. get_or (sel_l ms runs (before_ends ends)) lp 0) (tops_compared w32 ltb runs (before_ends ends))
    ∙ get_or-sel_l (zip2 ltb runs (before_ends ends)) runs (before_ends ends) lp 0 (omega arith) (omega arith) (omega arith)
    ∙ ap (λ b. cond b (get_or runs lp 0) (get_or (before_ends ends) lp 0)) (get_or-zip2 ltb runs (before_ends ends) lp 0 0 false (omega arith) (omega arith))
    ∙ least_lane (get_or runs lp 0) (get_or (before_ends ends) lp 0)
    ∙ ap (λ n. min (get_or runs lp 0) n) (before_is ends lp ends_long h some small)

raised_long : (runs ends : List ℕ) → length runs ≡ 8 → length ends ≡ 8 → length (raised_lanes runs ends) ≡ 8
raised_long runs ends long ends_long =
    let least : length (least_lanes runs ends) ≡ 8 = least_long runs ends long ends_long in
    length-zip2 (λ a b. (a + b) % 2 ^ 32) (least_lanes runs ends) (replicate 8 1) least ∙ least

raised_is : (runs ends : List ℕ) (lp : ℕ) → length runs ≡ 8 → length ends ≡ 8 → lp < 8 → 0 < get_or ends lp 0 → get_or ends lp 0 < 2 ^ 32 →
    get_or (raised_lanes runs ends) lp 0 ≡ min (get_or runs lp 0 + 1) (get_or ends lp 0)
raised_is runs ends lp long ends_long h some small =
    let least : length (least_lanes runs ends) ≡ 8 = least_long runs ends long ends_long in
    get_or-zip2 (λ a b. (a + b) % 2 ^ 32) (least_lanes runs ends) (replicate 8 1) lp 0 0 0 (omega arith) h
    ∙ ap₂ (λ a b. (a + b) % 2 ^ 32) (least_is runs ends lp long ends_long h some small) (get_or-replicate 8 lp 1 0 h)
    ∙ raised_lane (get_or runs lp 0) (get_or ends lp 0) some small

-- whether a mask has a bit, as a comparison of lanes leaves it
abbrev pub lane_bit : ℕ → ℕ → Bool
lane_bit mask power = top 31 (cond (not (eqb (bit_and mask power) 0)) 4294967295 0)

bit_lane : (mask k : ℕ) → lane_bit mask (2 ^ k) ≡ has_bit k mask
bit_lane mask k = rw (and_pow mask k) (by_bit (bit_at mask k) (2 ^ k) (bit_at-lt mask k) (pow_pos k))
  where
    by_bit : (bit power : ℕ) → bit < 2 → 0 < power → top 31 (cond (not (eqb (bit * power) 0)) 4294967295 0) ≡ eqb bit 1
    by_bit zero power h p = let none : 0 * power ≡ 0 = omega arith in rw none refl
    by_bit (suc zero) power h p = let some : 1 * power ≢ 0 = omega arith in rw (ne_eqb (1 * power) 0 some) refl
    by_bit (suc (suc n)) power h p = absurd (omega arith)

-- six lanes for six loops, and two for none
abbrev pub lane_bits : ℕ → List Bool
lane_bits mask =
    lane_bit mask 1 ∷ lane_bit mask 2 ∷ lane_bit mask 4 ∷ lane_bit mask 8 ∷ lane_bit mask 16 ∷ lane_bit mask 32 ∷ lane_bit mask 0 ∷ lane_bit mask 0 ∷ []

loop_lane : (mask lp : ℕ) → lp < 6 → get_or (lane_bits mask) lp false ≡ has_bit lp mask
loop_lane mask zero h = bit_lane mask 0
loop_lane mask (suc zero) h = bit_lane mask 1
loop_lane mask (suc (suc zero)) h = bit_lane mask 2
loop_lane mask (suc (suc (suc zero))) h = bit_lane mask 3
loop_lane mask (suc (suc (suc (suc zero)))) h = bit_lane mask 4
loop_lane mask (suc (suc (suc (suc (suc zero))))) h = bit_lane mask 5
loop_lane mask (suc (suc (suc (suc (suc (suc n)))))) h = absurd (omega arith)

-- the lanes of the loops in a mask, and 0 in the others
pub selected_is : (mask : ℕ) (xs : List ℕ) (lp : ℕ) → length xs ≡ 8 → lp < 6 →
    get_or (sel_l (lane_bits mask) xs (replicate 8 0)) lp 0 ≡ cond (has_bit lp mask) (get_or xs lp 0) 0
selected_is mask xs lp long h =
    get_or-sel_l (lane_bits mask) xs (replicate 8 0) lp 0 (omega arith) (omega arith) (omega arith)
    ∙ ap₂ (λ b n. cond b (get_or xs lp 0) n) (loop_lane mask lp h) (get_or-replicate 8 lp 0 0 (omega arith))

-- the runs after one more take
pub runs_are : (mask : ℕ) (runs ends : List ℕ) (lp : ℕ) → length runs ≡ 8 → length ends ≡ 8 → lp < 6 → 0 < get_or ends lp 0 → get_or ends lp 0 < 2 ^ 32 →
    get_or (sel_l (lane_bits mask) (raised_lanes runs ends) (replicate 8 0)) lp 0
    ≡ cond (has_bit lp mask) (min (get_or runs lp 0 + 1) (get_or ends lp 0)) 0
runs_are mask runs ends lp long ends_long h some small =
    selected_is mask (raised_lanes runs ends) lp (raised_long runs ends long ends_long) h
    ∙ ap (λ n. cond (has_bit lp mask) n 0) (raised_is runs ends lp long ends_long (omega arith) some small)
