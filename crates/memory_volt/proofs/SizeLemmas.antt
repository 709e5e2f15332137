-- What a memory answers and holds is no greater than what it was given.
use Rattle.std.proofs.Common.{◌≡◌, ◌≢◌, ℕ, zero, suc, ◌-◌, Bool, true, false, sym, subst, arith, List, [], ◌∷◌, ◌++◌, length, inl, inr}
use Rattle.std.specs.Prelude.{Option, Some, None, slice_get, if◌then◌else◌, All}
use Rattle.std.specs.Bool.{then_some}
use Rattle.std.specs.Option.{ForSome, option_flatten}
use Rattle.std.proofs.lemmas.Bool.{cases_eq}
use Rattle.std.proofs.lemmas.List.Elements.{All-append, All-drop}
use Rattle.circular_buffer.specs.Buffer.{keep_last}
use Rattle.relay_num.specs.declared.Cx.{Cx}
use Rattle.relay_num.specs.Numbers.{IsBelow}

abbrev pub IsSmall : ℕ → Option Cx → Type 0
IsSmall bound v = ForSome v (λ p. IsBelow p bound)

none_small : (bound : ℕ) → IsSmall bound None
none_small bound p e = cc

some_small : (bound : ℕ) (plus : Cx) → IsBelow plus bound → IsSmall bound (Some plus)
some_small bound plus h p e = let same : plus ≡ p = cc in subst (λ v. IsBelow v bound) same h

-- the voltage of a take
pub taken_small : (bound : ℕ) (b : Bool) (plus : Cx) → IsBelow plus bound → IsSmall bound (then_some b plus)
taken_small bound true plus h = some_small bound plus h
taken_small bound false plus h = none_small bound

one_small : (bound : ℕ) (v : Option Cx) → IsSmall bound v → All (IsSmall bound) (v ∷ [])
one_small bound v h zero d l = h
one_small bound v h (suc i) d l = absurd (omega arith)

-- what the ring keeps after one more
pub pushed_small : (bound n : ℕ) (items : List (Option Cx)) (v : Option Cx) → All (IsSmall bound) items → IsSmall bound v →
    All (IsSmall bound) (keep_last n (items ++ v ∷ []))
pushed_small bound n items v all h =
    All-drop (IsSmall bound) (length (items ++ v ∷ []) - n) (items ++ v ∷ []) (All-append (IsSmall bound) items (v ∷ []) all (one_small bound v h))

first_small : (bound : ℕ) (items : List (Option Cx)) → All (IsSmall bound) items → IsSmall bound (option_flatten (slice_get items 0))
first_small bound [] all = none_small bound
first_small bound (v ∷ items) all = all zero v (omega arith)

-- what leaves it
pub oldest_small : (bound : ℕ) (items : List (Option Cx)) (b : Bool) → All (IsSmall bound) items →
    IsSmall bound (option_flatten (if b then None else slice_get items 0))
oldest_small bound items true all = none_small bound
oldest_small bound items false all = first_small bound items all

-- what polarises at a low take
pub remembered_small : (bound run hold : ℕ) (before frozen remembered : Option Cx) → IsSmall bound before → IsSmall bound frozen →
    (run ≡ hold → remembered ≡ None) → (run ≢ hold → run ≡ 0 → remembered ≡ before) → (run ≢ hold → run ≢ 0 → remembered ≡ frozen) →
    IsSmall bound remembered
remembered_small bound run hold before frozen remembered h k over fresh kept = elim (cases_eq run hold) [
  | inl full ↦ subst (IsSmall bound) (sym (over full)) (none_small bound)
  | inr free ↦ elim (cases_eq run 0) [
    | inl first ↦ subst (IsSmall bound) (sym (fresh free first)) h
    | inr later ↦ subst (IsSmall bound) (sym (kept free later)) k
  ]
]
