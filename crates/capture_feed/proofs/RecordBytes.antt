-- Pieces that are appended one after another.
use Rattle.std.proofs.Common.{◌≡◌, ℕ, List, ◌++◌, append_assoc, ap, ◌∙◌}

pub five_pieces : (out a b c d e o1 o2 o3 o4 o5 : List ℕ) → o1 ≡ out ++ a → o2 ≡ o1 ++ b → o3 ≡ o2 ++ c → o4 ≡ o3 ++ d → o5 ≡ o4 ++ e → o5 ≡ out ++ ((a ++ (b ++ (c ++ d))) ++ e)
five_pieces out a b c d e o1 o2 o3 o4 o5 p1 p2 p3 p4 p5 =
    let four : o4 ≡ (((out ++ a) ++ b) ++ c) ++ d = p4 ∙ ap (λ xs. xs ++ d) (p3 ∙ ap (λ xs. xs ++ c) (p2 ∙ ap (λ xs. xs ++ b) p1)) in
    let head : (((out ++ a) ++ b) ++ c) ++ d ≡ out ++ (a ++ (b ++ (c ++ d))) =
    append_assoc ((out ++ a) ++ b) c d ∙ (append_assoc (out ++ a) b (c ++ d) ∙ append_assoc out a (b ++ (c ++ d))) in
    p5 ∙ (ap (λ xs. xs ++ e) (four ∙ head) ∙ append_assoc out (a ++ (b ++ (c ++ d))) e)
