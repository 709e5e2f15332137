use Rattle.std.proofs.Common.{◌≡◌, ◌∷◌, ◌++◌, ◌∙◌, ap, List, ℕ, Bor, ◌<◌, ◌^◌, decimal, arith, inl, inr}
use Rattle.comtrade_read.specs.Configurations.{IsNominal}
use Rattle.comtrade_read.proofs.DigitLemmas.{some_map}
use Rattle.comtrade_read.proofs.MomentLemmas.{told, refuted}
use Rattle.comtrade_read.proofs.config.read_nominal.Goals as goal

small : (n : ℕ) → IsNominal n → n < 10 ^ 9
small n (inl e) = omega arith
small n (inr e) = omega arith

pub returns-in_err-nominal-clause-complete : goal.returns-in_err-nominal-clause-complete
returns-in_err-nominal-clause-complete c n rest of is = absurd (c.in_err-nominal.ensures.complete n (10 ∷ 49 ∷ 13 ∷ 10 ∷ rest) (small n of) is)

pub returns-then-is_nominal-clause-sound : goal.returns-then-is_nominal-clause-sound
returns-then-is_nominal-clause-sound c =
    let P : Bor (List ℕ) → Type 0 = λ left. (n : ℕ) × IsNominal n × (c.args.text.now ≡ decimal n ++ 13 ∷ 10 ∷ 49 ∷ 13 ∷ 10 ∷ left.now) in
    let each : (left : Bor (List ℕ)) → c.in_ok-nominal.rest.now ≡ 10 ∷ 49 ∷ 13 ∷ 10 ∷ left.now → P left = λ left e.
    (c.in_ok-nominal.nominal, told c.is_nominal.result c.if-is_nominal.true c.is_nominal.ensures, c.in_ok-nominal.ensures.sound.0 ∙ ap (λ r. decimal c.in_ok-nominal.nominal ++ 13 ∷ r) e) in
    some_map c.after.result (λ left. c.in_ok-nominal.rest.now ≡ 10 ∷ 49 ∷ 13 ∷ 10 ∷ left.now) P each c.after.ensures.sound

pub returns-then-is_nominal-clause-complete : goal.returns-then-is_nominal-clause-complete
returns-then-is_nominal-clause-complete c n rest of is =
    c.after.ensures.complete rest (c.in_ok-nominal.ensures.complete n (10 ∷ 49 ∷ 13 ∷ 10 ∷ rest) (small n of) is).1

pub returns-else-is_nominal-clause-complete : goal.returns-else-is_nominal-clause-complete
returns-else-is_nominal-clause-complete c n rest of is =
    let same = (c.in_ok-nominal.ensures.complete n (10 ∷ 49 ∷ 13 ∷ 10 ∷ rest) (small n of) is).0 in
    let here : IsNominal c.in_ok-nominal.nominal = rw same of in
    refuted c.is_nominal.result c.if-is_nominal.false c.is_nominal.ensures here
