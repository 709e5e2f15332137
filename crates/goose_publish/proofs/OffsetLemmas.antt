-- Laws of the offsets.
use Rattle.std.proofs.Common.{◌≡◌, ℕ, zero, suc, ◌+◌, ◌-◌, ◌*◌, ◌<◌, ◌≤◌, min, leb, ltb, ◌&&◌, sym, ◌∙◌, arith, le_refl, inl, inr, le-leb}
use Rattle.std.proofs.Math.Nat.{mul-le-mul_right, mul-le-mul_left, pow-succ'}
use Rattle.std.proofs.lemmas.Bool.{cases_lt, and_from, and_left, and_right, lt-leb}
use Rattle.sample_windows.specs.Below.{any_below, greatest_below}
use Rattle.sample_windows.proofs.BelowLemmas.{any_below_from, any_below_none, greatest_below_is}
use Rattle.relay_settings.specs.declared.types.Common.{Common}
use Rattle.relay_settings.specs.Times.{samples}
use Rattle.goose_publish.specs.Offsets.{step_ms, offset_ms}

pub samples_mono : (rate a b : ℕ) → a ≤ b → samples rate a ≤ samples rate b
samples_mono rate a b h = omega (arith, mul-le-mul_right rate h)

-- a sample is at most a millisecond
pub samples_ge : (rate ms : ℕ) → 1000 ≤ rate → ms ≤ samples rate ms
samples_ge rate ms h = omega (arith, mul-le-mul_left ms h)

pub step-next : (common : Common) (k : ℕ) → step_ms common (suc k) ≡ min common.heartbeat_ms (2 * step_ms common k)
step-next common k = omega (arith, pow-succ' 2 k)

pub step_some : (common : Common) (k : ℕ) → 0 < common.heartbeat_ms → 0 < step_ms common k
step_some common zero h = omega arith
step_some common (suc k) h = omega (arith, step-next common k, step_some common k h)

pub offset_mono : (common : Common) (j k : ℕ) → j ≤ k → offset_ms common j ≤ offset_ms common k
unfolding offset_ms
offset_mono common zero zero h = le_refl 0
offset_mono common (suc j) zero h = absurd (omega arith)
offset_mono common j (suc k) h = elim (cases_lt j (suc k)) [
  | inl l ↦ omega (arith, offset_mono common j k (omega arith))
  | inr ge ↦ (let e : j ≡ suc k = omega arith in rw e (le_refl _))
]

pub offset_ge : (common : Common) (k : ℕ) → 0 < common.heartbeat_ms → k ≤ offset_ms common k
unfolding offset_ms
offset_ge common zero h = le_refl 0
offset_ge common (suc k) h = omega (arith, offset_ge common k h, step_some common k h)

module _ (common : Common) (fast : 1000 ≤ common.rate) (some : 0 < common.heartbeat_ms) where
  abbrev pub at : ℕ → ℕ
  at k = samples common.rate (offset_ms common k)

  at_mono : (j k : ℕ) → j ≤ k → at j ≤ at k
  at_mono j k h = samples_mono common.rate _ _ (offset_mono common j k h)

  pub at_ge : (k : ℕ) → k ≤ at k
  at_ge k = omega (arith, offset_ge common k some, samples_ge common.rate (offset_ms common k) fast)

  -- some offset falls above p and up to n exactly where the one after the last that p has passed does
  pub due_is : (c p n k : ℕ) → c ≤ p → p < n → at k ≤ p - c → p - c < at (suc k) →
      any_below (n + 1) (λ j. ltb p (c + at j) && leb (c + at j) n) ≡ leb (at (suc k)) (n - c)
  due_is c p n k cp pn passed ahead = elim (cases_lt (n - c) (at (suc k))) [
    | inl none ↦
        any_below_none (n + 1) (λ j. ltb p (c + at j) && leb (c + at j) n) (λ j h. elim (cases_lt k j) [
          | inl later ↦ and_right _ _ (lt-leb (c + at j) n (omega (arith, at_mono (suc k) j later)))
          | inr earlier ↦ and_left _ _ (lt-leb (suc p) (c + at j) (omega (arith, at_mono j k earlier)))
        ])
        ∙ sym (lt-leb (at (suc k)) (n - c) none)
    | inr due ↦
        any_below_from (n + 1) (λ j. ltb p (c + at j) && leb (c + at j) n) (suc k) (omega (arith, at_ge (suc k)))
        (and_from _ _ (le-leb (suc p) (c + at (suc k)) (omega arith)) (le-leb (c + at (suc k)) n (omega arith)))
        ∙ sym (le-leb (at (suc k)) (n - c) due)
  ]

  -- the greatest offset that falls up to n
  pub last_is : (c n k : ℕ) → c ≤ n → at k ≤ n - c → n - c < at (suc k) →
      greatest_below (n + 1) (λ j. leb (c + at j) n) ≡ k
  last_is c n k cn passed ahead =
      greatest_below_is (n + 1) (λ j. leb (c + at j) n) k (omega (arith, at_ge k))
      (λ j later h. lt-leb (c + at j) n (omega (arith, at_mono (suc k) j later)))
      (le-leb (c + at k) n (omega arith))
