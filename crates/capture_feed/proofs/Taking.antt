-- One piece of a capture, and each way to stop, as equations of `records_from`.
use Rattle.std.proofs.Common.{◌≡◌, ℕ, zero, suc, ◌+◌, ◌≤◌, ◌<◌, Bool, true, false, List, [], length, drop, length-drop, refl, ap, ◌∙◌, arith}
use Rattle.std.specs.Prelude.{Option, nat_le, if◌then◌else◌}
use Rattle.std.proofs.lemmas.Bool.Decides.{nat_tests}
use Rattle.capture_feed.specs.Records.{Stop, Cut, TooLong, Records, First, Ends, Holds, put, go_on, stopped, cut, records_from}

-- a piece has a byte at least, and stands whole in the rest
pub record IsWhole (size : ℕ) (rest : List ℕ) : Type 0 where
  pub some : 0 < size
  pub within : size ≤ length rest

-- each piece does
abbrev pub Fits : {S : Type 0} → (S → List ℕ → First S) → Type 0
Fits {S} first = (by next : S) (rest : List ℕ) (size : ℕ) (body : Option (List ℕ)) → first by rest ≡ Holds size body next → IsWhole size rest

below : (limit taken : ℕ) → taken < limit → nat_le limit taken ≡ false
below limit taken h = grind (arith, nat_tests)

go_on-same : {S : Type 0} (first : First S) (m n : ℕ → S → Records) → ((size : ℕ) (body : Option (List ℕ)) (next : S) → first ≡ Holds size body next → m size next ≡ n size next) → go_on first m ≡ go_on first n
go_on-same (Ends stop) m n h = refl
go_on-same (Holds size body next) m n h = ap (put body) (h size body next refl)

same-unless : (b : Bool) (x y z : Records) → y ≡ z → (if b then x else y) ≡ (if b then x else z)
same-unless b x y z e = ap (λ r. if b then x else r) e

module _ {S : Type 0} (first : S → List ℕ → First S) (fits : Fits first) (limit : ℕ) where
  cut-enough : (f g : ℕ) (by : S) (taken : ℕ) (rest : List ℕ) → length rest ≤ f → length rest ≤ g → cut first limit f by taken rest ≡ cut first limit g by taken rest
  cut-enough zero zero by taken rest p q = refl
  cut-enough zero (suc g) by taken rest p q =
      same-unless (nat_le limit taken) _ _ _ (go_on-same (first by rest) _ _ (λ size body next is. let w = fits by next rest size body is in let a = w.some in let b = w.within in absurd (omega arith)))
  cut-enough (suc f) zero by taken rest p q =
      same-unless (nat_le limit taken) _ _ _ (go_on-same (first by rest) _ _ (λ size body next is. let w = fits by next rest size body is in let a = w.some in let b = w.within in absurd (omega arith)))
  cut-enough (suc f) (suc g) by taken rest p q =
      same-unless (nat_le limit taken) _ _ _ (go_on-same (first by rest) _ _ (λ size body next is.
      let w = fits by next rest size body is in
      let a = w.some in
      let b = w.within in
      let e = length-drop size rest in
      cut-enough f g next (taken + size) (drop size rest) (omega arith) (omega arith)))

  -- one piece further
  pub records-first : (by : S) (taken : ℕ) (rest : List ℕ) → taken < limit → records_from first limit by taken rest ≡ go_on (first by rest) (λ size next. records_from first limit next (taken + size) (drop size rest))
  unfolding records_from
  records-first by taken rest h =
      cut-enough (length rest) (suc (length rest)) by taken rest (omega arith) (omega arith)
      ∙ (ap (λ (b : Bool). if b then stopped TooLong else go_on (first by rest) (λ size next. cut first limit (length rest) next (taken + size) (drop size rest))) (below limit taken h)
      ∙ go_on-same (first by rest) _ _ (λ size body next is.
      let w = fits by next rest size body is in
      let a = w.some in
      let b = w.within in
      let e = length-drop size rest in
      cut-enough (length rest) (length (drop size rest)) next (taken + size) (drop size rest) (omega arith) (omega arith)))

  pub records-ends : (by : S) (taken : ℕ) (rest : List ℕ) (stop : Stop) → taken < limit → first by rest ≡ Ends stop → records_from first limit by taken rest ≡ stopped stop
  records-ends by taken rest stop h is =
      records-first by taken rest h ∙ ap (λ f. go_on f (λ size next. records_from first limit next (taken + size) (drop size rest))) is

  pub records-holds : (by next : S) (taken size : ℕ) (rest : List ℕ) (body : Option (List ℕ)) → taken < limit → first by rest ≡ Holds size body next → records_from first limit by taken rest ≡ put body (records_from first limit next (taken + size) (drop size rest))
  records-holds by next taken size rest body h is =
      records-first by taken rest h ∙ ap (λ f. go_on f (λ size next. records_from first limit next (taken + size) (drop size rest))) is

bodies-of : {S : Type 0} (first : First S) (behind : ℕ → S → Records) → ((size : ℕ) (body : Option (List ℕ)) (next : S) → first ≡ Holds size body next → ⊥) → (go_on first behind).bodies ≡ []
bodies-of (Ends stop) behind none = refl
bodies-of (Holds size body next) behind none = absurd (none size body next refl)

-- no piece stands first
pub no-bodies : {S : Type 0} (first : S → List ℕ → First S) → Fits first → (limit : ℕ) (by : S) (taken : ℕ) (rest : List ℕ) → taken < limit →
    ((size : ℕ) (body : Option (List ℕ)) (next : S) → first by rest ≡ Holds size body next → ⊥) → (records_from first limit by taken rest).bodies ≡ []
no-bodies first fits limit by taken rest h none =
    ap (λ (r : Records). r.bodies) (records-first first fits limit by taken rest h) ∙ bodies-of (first by rest) _ none

pub records-long : {S : Type 0} (first : S → List ℕ → First S) (limit : ℕ) (by : S) (taken : ℕ) (rest : List ℕ) → limit ≤ taken → records_from first limit by taken rest ≡ stopped TooLong
unfolding records_from
records-long {S} first limit by taken rest h =
    let long : nat_le limit taken ≡ true = grind (arith, nat_tests) in
    by_fuel (length rest) long
  where
    by_fuel : (fuel : ℕ) → nat_le limit taken ≡ true → cut first limit fuel by taken rest ≡ stopped TooLong
    by_fuel zero long = ap (λ (b : Bool). if b then stopped TooLong else go_on (first by rest) (λ size next. stopped Cut)) long
    by_fuel (suc fuel) long = ap (λ (b : Bool). if b then stopped TooLong else go_on (first by rest) (λ size next. cut first limit fuel next (taken + size) (drop size rest))) long
