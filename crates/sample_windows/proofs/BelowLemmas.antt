-- Laws of the tests over the numbers below a bound.
use Rattle.std.proofs.Common.{◌≡◌, ℕ, zero, suc, ◌<◌, Bool, true, false, ◌&&◌, ◌||◌, ◌≢◌, refl, sym, ap, ap₂, ◌∙◌, arith, inl, inr}
use Rattle.std.proofs.lemmas.Bool.{cases_eq, cases_Bool, and_parts, and_from, or_cases, or_left, or_right, or_from, cond-true, cond-false, false≢true}
use Rattle.std.proofs.lemmas.Bool.Decides.{nat_tests}
use Rattle.std.proofs.Common.{leb, ltb, le-leb, ◌-◌}
use Rattle.sample_windows.specs.Below.{all_below, any_below, least_below, greatest_below}

pub all_below_same : (n : ℕ) (s t : ℕ → Bool) → ((k : ℕ) → k < n → s k ≡ t k) → all_below n s ≡ all_below n t
unfolding all_below
all_below_same zero s t same = refl
all_below_same (suc n) s t same =
    ap₂ (λ a b. a && b) (same 0 (omega arith)) (all_below_same n (λ k. s (suc k)) (λ k. t (suc k)) (λ k h. same (suc k) (omega arith)))

pub any_below_same : (n : ℕ) (s t : ℕ → Bool) → ((k : ℕ) → k < n → s k ≡ t k) → any_below n s ≡ any_below n t
unfolding any_below
any_below_same zero s t same = refl
any_below_same (suc n) s t same =
    ap₂ (λ a b. a || b) (same 0 (omega arith)) (any_below_same n (λ k. s (suc k)) (λ k. t (suc k)) (λ k h. same (suc k) (omega arith)))

pub all_below_at : (n : ℕ) (t : ℕ → Bool) (k : ℕ) → all_below n t ≡ true → k < n → t k ≡ true
unfolding all_below
all_below_at zero t k h l = absurd (omega arith)
all_below_at (suc n) t zero h l = (and_parts _ _ h).0
all_below_at (suc n) t (suc k) h l = all_below_at n (λ j. t (suc j)) k (and_parts _ _ h).1 (omega arith)

pub all_below_from : (n : ℕ) (t : ℕ → Bool) → ((k : ℕ) → k < n → t k ≡ true) → all_below n t ≡ true
unfolding all_below
all_below_from zero t h = refl
all_below_from (suc n) t h = and_from _ _ (h 0 (omega arith)) (all_below_from n (λ j. t (suc j)) (λ k l. h (suc k) (omega arith)))

pub any_below_from : (n : ℕ) (t : ℕ → Bool) (k : ℕ) → k < n → t k ≡ true → any_below n t ≡ true
unfolding any_below
any_below_from zero t k l h = absurd (omega arith)
any_below_from (suc n) t zero l h = or_left _ _ h
any_below_from (suc n) t (suc k) l h = or_right _ _ (any_below_from n (λ j. t (suc j)) k (omega arith) h)

pub any_below_none : (n : ℕ) (t : ℕ → Bool) → ((k : ℕ) → k < n → t k ≡ false) → any_below n t ≡ false
unfolding any_below
any_below_none zero t h = refl
any_below_none (suc n) t h = or_from _ _ (h 0 (omega arith)) (any_below_none n (λ j. t (suc j)) (λ k l. h (suc k) (omega arith)))

pub any_below_found : (n : ℕ) (t : ℕ → Bool) → any_below n t ≡ true → (k : ℕ) × (k < n) × (t k ≡ true)
unfolding any_below
any_below_found zero t h = absurd (false≢true h)
any_below_found (suc n) t h = elim (or_cases _ _ h) [
  | inl here ↦ (0, omega arith, here)
  | inr later ↦ (let found = any_below_found n (λ j. t (suc j)) later in (suc found.0, (let l : found.0 < n = found.1 in omega arith), found.2))
]

-- the least number is the one that passes with none before it
pub least_below_is : (n : ℕ) (t : ℕ → Bool) (k : ℕ) → k < n → ((j : ℕ) → j < k → t j ≡ false) → t k ≡ true → least_below n t ≡ k
unfolding least_below
least_below_is zero t k l before here = absurd (omega arith)
least_below_is (suc n) t zero l before here = cond-true _ _ _ here
least_below_is (suc n) t (suc k) l before here =
    cond-false _ _ _ (before 0 (omega arith)) ∙ ap suc (least_below_is n (λ j. t (suc j)) k (omega arith) (λ j h. before (suc j) (omega arith)) here)

-- where none passes it is the bound
pub least_below_none : (n : ℕ) (t : ℕ → Bool) → ((j : ℕ) → j < n → t j ≡ false) → least_below n t ≡ n
unfolding least_below
least_below_none zero t none = refl
least_below_none (suc n) t none =
    cond-false _ _ _ (none 0 (omega arith)) ∙ ap suc (least_below_none n (λ j. t (suc j)) (λ j h. none (suc j) (omega arith)))

pub leb-suc-suc : (k n : ℕ) → leb (suc k) (suc n) ≡ leb k n
leb-suc-suc k n = grind (arith, nat_tests)

pub and_true : (a b : Bool) → a ≡ true → (a && b) ≡ b
and_true true b e = refl
and_true false b e = absurd (false≢true e)

-- the greatest number is the one that passes with none after it
pub greatest_below_is : (n : ℕ) (t : ℕ → Bool) (k : ℕ) → k < n → ((j : ℕ) → k < j → j < n → t j ≡ false) → t k ≡ true → greatest_below n t ≡ k
unfolding greatest_below
greatest_below_is zero t k l after here = absurd (omega arith)
greatest_below_is (suc n) t k l after here = elim (cases_eq k n) [
  | inl e ↦ cond-true _ _ _ (ap t (sym e) ∙ here) ∙ sym e
  | inr ne ↦ cond-false _ _ _ (after n (omega arith) (omega arith)) ∙ greatest_below_is n t k (omega arith) (λ j a b. after j a (omega arith)) here
]

pub any_below_at : (n : ℕ) (t : ℕ → Bool) → any_below n t ≡ false → (k : ℕ) → k < n → t k ≡ false
any_below_at n t none k l = elim (cases_Bool (t k)) [
  | inl e ↦ absurd (false≢true (sym none ∙ any_below_from n t k l e))
  | inr e ↦ e
]

-- where the test passes below n, it passes at the greatest such number and nowhere above it
pub greatest_below_found : (n : ℕ) (t : ℕ → Bool) → any_below n t ≡ true →
    (greatest_below n t < n) × (t (greatest_below n t) ≡ true) × ((j : ℕ) → greatest_below n t < j → j < n → t j ≡ false)
unfolding greatest_below any_below
greatest_below_found zero t h = absurd (false≢true h)
greatest_below_found (suc n) t h = elim (cases_Bool (t n)) [
  | inl e ↦ rw e (omega arith, e, λ j a b. absurd (omega arith))
  | inr e ↦
      (let found = any_below_found (suc n) t h in
      let ne : found.0 ≢ n = λ q. false≢true (sym e ∙ ap t (sym q) ∙ found.2) in
      let lower = greatest_below_found n t (any_below_from n t found.0 (let l : found.0 < suc n = found.1 in omega arith) found.2) in
      rw e (
        omega (arith, lower.0),
        lower.1,
        λ j a b. elim (cases_eq j n) [
          | inl q ↦ ap t q ∙ e
          | inr q ↦ lower.2 j a (omega arith)
        ],
      ))
]

-- one more number at the bottom
pub greatest_below_more : (n : ℕ) (t : ℕ → Bool) → any_below n (λ k. t (suc k)) ≡ true →
    greatest_below (suc n) t ≡ suc (greatest_below n (λ k. t (suc k)))
greatest_below_more n t h =
    let found = greatest_below_found n (λ k. t (suc k)) h in
    greatest_below_is (suc n) t (suc (greatest_below n (λ k. t (suc k)))) (omega (arith, found.0)) (λ j a b. above found.2 j a b) found.1
  where
    above : ((j : ℕ) → greatest_below n (λ k. t (suc k)) < j → j < n → t (suc j) ≡ false) →
        (j : ℕ) → suc (greatest_below n (λ k. t (suc k))) < j → j < suc n → t j ≡ false
    above none zero a b = absurd (omega arith)
    above none (suc j) a b = none j (omega arith) (omega arith)

pub greatest_below_first : (n : ℕ) (t : ℕ → Bool) → any_below n (λ k. t (suc k)) ≡ false → greatest_below (suc n) t ≡ 0
unfolding greatest_below
greatest_below_first zero t h = elim (cases_Bool (t 0)) [ inl e ↦ cond-true _ _ _ e | inr e ↦ cond-false _ _ _ e ]
greatest_below_first (suc n) t h =
    cond-false _ _ _ (any_below_at (suc n) (λ k. t (suc k)) h n (omega arith))
    ∙ greatest_below_first n t (any_below_none n (λ k. t (suc k)) (λ k l. any_below_at (suc n) (λ k. t (suc k)) h k (omega arith)))

-- some number passes exactly where the least one is below the bound
pub any_below-least : (n : ℕ) (t : ℕ → Bool) → any_below n t ≡ ltb (least_below n t) n
unfolding any_below least_below
any_below-least zero t = refl
any_below-least (suc n) t = elim (cases_Bool (t 0)) [
  | inl e ↦ rw e (sym (le-leb 1 (suc n) (omega arith)))
  | inr e ↦ rw e (any_below-least n (λ k. t (suc k)) ∙ sym (leb-suc-suc (suc (least_below n (λ k. t (suc k)))) n))
]

-- one more number at the top: what is left above the least one is one more
pub least_below_more : (n : ℕ) (t : ℕ → Bool) → (suc n - least_below (suc n) t) - 1 ≡ n - least_below n t
unfolding least_below
least_below_more zero t = elim (cases_Bool (t 0)) [ inl e ↦ rw e refl | inr e ↦ rw e refl ]
least_below_more (suc n) t = elim (cases_Bool (t 0)) [
  | inl e ↦ rw e (omega arith)
  | inr e ↦ rw e (omega (arith, least_below_more n (λ k. t (suc k))))
]

pub greatest_below_same : (n : ℕ) (s t : ℕ → Bool) → ((k : ℕ) → k < n → s k ≡ t k) → greatest_below n s ≡ greatest_below n t
unfolding greatest_below
greatest_below_same zero s t same = refl
greatest_below_same (suc n) s t same = rw (same n (omega arith), greatest_below_same n s t (λ k h. same k (omega arith))) refl
