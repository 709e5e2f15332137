use Rattle.std.proofs.Common.{ℕ, ◌+◌, ◌∷◌, ◌&&◌, ltb, leb, arith, leb-true, le-leb, inl, inr}
use Rattle.std.proofs.lemmas.Bool.{and_parts, and_from, ltb-true, lt-ltb, or_cases, or_left, or_right}
use Rattle.sample_windows.proofs.BelowLemmas.{any_below_found, any_below_from}
use Rattle.goose_publish.specs.Publishing.{is_due, number_now, falls_at}
use Rattle.goose_publish.proofs.OffsetLemmas.{at_ge}
use Rattle.goose_publish.proofs.laws.show_each_offset_counts.Goals as goal

pub returns : goal.returns
unfolding is_due
returns c common t older fast some =
    let falls = falls_at common (t ∷ older) in
    let test : ℕ → _ = λ k. ltb (number_now older) (falls k) && leb (falls k) t.number in (
      λ sends. elim (or_cases _ _ sends) [
        | inl changes ↦ inl changes
        | inr due ↦
            (let found = any_below_found (t.number + 1) test due in
            let parts = and_parts _ _ found.2 in
            inr (found.0, (ltb-true _ _ parts.0, leb-true _ _ parts.1)))
      ],
      λ reason. elim reason [
        | inl changes ↦ or_left _ _ changes
        | inr found ↦
            or_right _ _ (any_below_from (t.number + 1) test found.0
            (omega (arith, at_ge common fast some found.0, found.1.1))
            (and_from _ _ (lt-ltb _ _ found.1.0) (le-leb _ _ found.1.1)))
      ],
    )
