-- An outcome follows the last number.
use Rattle.std.proofs.Common.{ℕ, ◌+◌, ◌-◌, Bool, true, false, cond, arith, inl, inr, Option, Some, None, nat_le}
use Rattle.std.proofs.lemmas.Bool.{cases_eq, eq-eqb, ne_eqb}
use Rattle.sample_windows.specs.Below.{any_below, least_below}
use Rattle.sample_stream.specs.declared.numberer.Taken.TheVariants.{First, Repeat, Late, Wild}
use Rattle.sample_stream.specs.Numbering.{is_congruent, behind, next_number, taken_as, outcome_after, outcome, Follows}

taken_follows : (last skipped : ℕ) → Follows (Some last) (taken_as last (last + 1 + skipped))
taken_follows last skipped = elim (cases_eq (last + 1 + skipped) (last + 1)) [
  | inl e ↦ rw (eq-eqb (last + 1 + skipped) (last + 1) e) e
  | inr ne ↦ rw (ne_eqb (last + 1 + skipped) (last + 1) ne) (omega arith, omega arith)
]

pub after_follows : (rate last counter : ℕ) → Follows (Some last) (outcome_after rate last counter)
unfolding outcome_after next_number
after_follows rate last counter = either (is_congruent rate counter last) (any_below 64 (λ b. is_congruent rate (counter + (b + 1)) last))
  where
    either : (a b : Bool) → Follows (Some last) (cond a Repeat (cond b (Late (behind rate last counter + 1)) (taken_as last (last + 1 + least_below (rate - 65) (λ j. is_congruent rate (last + 1 + j) counter)))))
    either true b = tt
    either false true = tt
    either false false = taken_follows last _

pub outcome_follows : (rate : ℕ) (last : Option ℕ) (counter : ℕ) → Follows last (outcome rate last counter)
outcome_follows rate None counter = either (nat_le rate counter)
  where
    either : (a : Bool) → Follows None (cond a Wild (First counter))
    either true = tt
    either false = tt
outcome_follows rate (Some last) counter = either (nat_le rate counter)
  where
    either : (a : Bool) → Follows (Some last) (cond a Wild (outcome_after rate last counter))
    either true = tt
    either false = after_follows rate last counter
