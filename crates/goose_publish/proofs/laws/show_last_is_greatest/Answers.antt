use Rattle.std.proofs.Common.{ℕ, ◌+◌, ◌≡◌, ◌∷◌, ◌∙◌, sym, leb, arith, leb-true, le-leb, true, inl, inr}
use Rattle.std.proofs.lemmas.Bool.{cases_lt, false≢true}
use Rattle.sample_windows.proofs.BelowLemmas.{any_below_from, greatest_below_found}
use Rattle.goose_publish.specs.Offsets.{offset_ms}
use Rattle.goose_publish.specs.Publishing.{last_offset, falls_at}
use Rattle.goose_publish.proofs.OffsetLemmas.{at_ge}
use Rattle.goose_publish.proofs.ScheduleLemmas.{change_le}
use Rattle.goose_publish.proofs.laws.show_last_is_greatest.Goals as goal

pub returns : goal.returns
unfolding last_offset offset_ms
returns c common t older fast some rises =
    let test : ℕ → _ = λ k. leb (falls_at common (t ∷ older) k) t.number in
    let first : leb (falls_at common (t ∷ older) 0) t.number ≡ true =
    le-leb _ _ (omega (arith, change_le (t ∷ older) rises)) in
    let found = greatest_below_found (t.number + 1) test (any_below_from (t.number + 1) test 0 (omega arith) first) in
    record {
      here = leb-true _ _ found.1;
      none_above = λ k h. elim (cases_lt (last_offset common (t ∷ older)) k) [
        | inr le ↦ le
        | inl lt ↦ absurd (false≢true (sym (found.2 k lt (omega (arith, at_ge common fast some k, h))) ∙ le-leb _ _ h))
      ];
    }
