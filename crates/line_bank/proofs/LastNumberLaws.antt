-- A bound of the larger of two last numbers is a bound of both.
use Rattle.std.proofs.Common.{◌≡◌, ◌≤◌, ◌<◌, ◌+◌, ℕ, arith, refl, Option, Some, None}
use Rattle.std.specs.Prelude.{max}
use Rattle.std.specs.Option.{ForSome}
use Rattle.line_bank.specs.LastNumbers.{larger}

some-is : {one other : ℕ} → Some one ≡ Some other → one ≡ other
some-is e = cc

pub larger-first : (one other : Option ℕ) (bound : ℕ) → ForSome (larger one other) (λ n. n < bound) → ForSome one (λ n. n < bound)
larger-first None other bound small = λ n e. cc
larger-first (Some one) None bound small = small
larger-first (Some one) (Some other) bound small = λ n e. (let most : max one other < bound = small (max one other) refl in let same : one ≡ n = some-is e in omega arith)

pub larger-second : (one other : Option ℕ) (bound : ℕ) → ForSome (larger one other) (λ n. n < bound) → ForSome other (λ n. n < bound)
larger-second None other bound small = small
larger-second (Some one) None bound small = λ n e. cc
larger-second (Some one) (Some other) bound small = λ n e. (let most : max one other < bound = small (max one other) refl in let same : other ≡ n = some-is e in omega arith)

both-below : (one other : Option ℕ) (bound : ℕ) → ForSome one (λ n. n < bound) → ForSome other (λ n. n < bound) → ForSome (larger one other) (λ n. n < bound)
both-below None other bound first second = second
both-below (Some one) None bound first second = first
both-below (Some one) (Some other) bound first second =
    λ n e. (let below : one < bound = first one refl in let under : other < bound = second other refl in let same : max one other ≡ n = some-is e in omega arith)

upto : (o : Option ℕ) (most : ℕ) → ForSome o (λ n. n ≤ most) → ForSome o (λ n. n < most + 1)
upto o most small = λ n e. (let h : n ≤ most = small n e in omega arith)

within : (o : Option ℕ) (most : ℕ) → ForSome o (λ n. n < most + 1) → ForSome o (λ n. n ≤ most)
within o most small = λ n e. (let h : n < most + 1 = small n e in omega arith)

-- how much a last number may grow
abbrev pub Grows : Option ℕ → Option ℕ → Type 0
Grows old new = (most : ℕ) → ForSome old (λ n. n ≤ most) → ForSome new (λ n. n ≤ most + 4800)

-- where both grow by so much, so does the larger
pub larger-grows : (one other next after : Option ℕ) → Grows one next → Grows other after → Grows (larger one other) (larger next after)
larger-grows one other next after first second = λ most small.
    (let below : ForSome (larger one other) (λ n. n < most + 1) = upto (larger one other) most small in
    within (larger next after) (most + 4800)
    (both-below next after (most + 4800 + 1) (upto next (most + 4800) (first most (within one most (larger-first one other (most + 1) below))))
    (upto after (most + 4800) (second most (within other most (larger-second one other (most + 1) below))))))
