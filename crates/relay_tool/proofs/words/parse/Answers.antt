use Rattle.std.proofs.Common.{ℕ, ◌≡◌, ◌≢◌, List, [], ◌∷◌, None, length, map, string_bytes, refl, arith}
use Rattle.std.proofs.lemmas.List.{length-map}
use Rattle.std.proofs.lemmas.Bool.Decides.{nat_tests}
use Rattle.relay_tool.specs.Words.{form}
use Rattle.relay_tool.proofs.words.parse.Goals as goal
use Rattle.relay_tool.proofs.words.parse.Goals.{in_default-via-then-words-lt2, in_default-via-else-words-lt2+else-words-lt3+else-words-lt4+else-words-lt5+else-words-lt6+then-words-lt7, in_default-via-else-words-lt2+else-words-lt3+else-words-lt4+else-words-lt5+else-words-lt6+else-words-lt7+else-words-lt8}

no_form : (words : List (List ℕ)) → length words ≢ 2 → length words ≢ 3 → length words ≢ 4 → length words ≢ 5 → length words ≢ 7 → None ≡ form words
no_form [] two three four five seven = refl
no_form (a ∷ []) two three four five seven = refl
no_form (a ∷ b ∷ []) two three four five seven = absurd (two refl)
no_form (a ∷ b ∷ c ∷ []) two three four five seven = absurd (three refl)
no_form (a ∷ b ∷ c ∷ d ∷ []) two three four five seven = absurd (four refl)
no_form (a ∷ b ∷ c ∷ d ∷ e ∷ []) two three four five seven = absurd (five refl)
no_form (a ∷ b ∷ c ∷ d ∷ e ∷ f ∷ []) two three four five seven = refl
no_form (a ∷ b ∷ c ∷ d ∷ e ∷ f ∷ g ∷ []) two three four five seven = absurd (seven refl)
no_form (a ∷ b ∷ c ∷ d ∷ e ∷ f ∷ g ∷ h ∷ more) two three four five seven = refl

pub returns-in_default-clause-value : goal.returns-in_default-clause-value
returns-in_default-clause-value c =
    let long : length (map string_bytes c.args.words.now) ≡ length c.args.words.now = length-map c.args.words.now string_bytes in
    elim c.in_default.branch [
      | in_default-via-then-words-lt2 w ↦ no_form (map string_bytes c.args.words.now) (λ e. grind (arith, nat_tests, long, e)) (λ e. grind (arith, nat_tests, long, e)) (λ e. grind (arith, nat_tests, long, e)) (λ e. grind (arith, nat_tests, long, e)) (λ e. grind (arith, nat_tests, long, e))
      | in_default-via-else-words-lt2+else-words-lt3+else-words-lt4+else-words-lt5+else-words-lt6+then-words-lt7 w ↦ no_form (map string_bytes c.args.words.now) (λ e. grind (arith, nat_tests, long, e)) (λ e. grind (arith, nat_tests, long, e)) (λ e. grind (arith, nat_tests, long, e)) (λ e. grind (arith, nat_tests, long, e)) (λ e. grind (arith, nat_tests, long, e))
      | in_default-via-else-words-lt2+else-words-lt3+else-words-lt4+else-words-lt5+else-words-lt6+else-words-lt7+else-words-lt8 w ↦ no_form (map string_bytes c.args.words.now) (λ e. grind (arith, nat_tests, long, e)) (λ e. grind (arith, nat_tests, long, e)) (λ e. grind (arith, nat_tests, long, e)) (λ e. grind (arith, nat_tests, long, e)) (λ e. grind (arith, nat_tests, long, e))
    ]
