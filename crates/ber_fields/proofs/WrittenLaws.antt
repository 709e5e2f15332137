-- What is written is in the grammar.
use Rattle.std.proofs.Common.{◌≡◌, ◌≢◌, ℕ, zero, suc, ◌-◌, ◌*◌, ◌%◌, ◌^◌, ◌<◌, ◌≤◌, ◌⊎◌, List, [], ◌∷◌, ◌++◌, length, All, Some, refl, ap, arith, inl, inr, lit<, lit≤}
use Rattle.std.proofs.lemmas.Bool.{cases_lt, lt-ltb, le-ltb}
use Rattle.ber_fields.specs.Element.{element, IsLength, element_at}
use Rattle.ber_fields.specs.Written.{length_text, field, signed_size}
use Rattle.ber_fields.proofs.ElementLaws.{again}

pub length_text_is : (n : ℕ) → n < 2 ^ 16 → IsLength (length_text n) n
length_text_is n small =
    elim (cases_lt n 128) [
      | inl lt ↦ rw (lt-ltb n 128 lt) (inl (lt, refl, refl))
      | inr le ↦
          elim (cases_lt n 256) [
            | inl lt ↦ rw (le-ltb n 128 le, lt-ltb n 256 lt) (inr (lit< tt, lit≤ tt, refl, omega arith))
            | inr more ↦ rw (le-ltb n 128 le, le-ltb n 256 more) (inr (lit< tt, lit≤ tt, refl, omega arith))
          ]
    ]

pub written_is_read : (tag : ℕ) (contents rest : List ℕ) → tag % 32 ≢ 31 → length contents < 2 ^ 16 → element_at (field tag contents ++ rest) ≡ Some (element tag contents, rest)
written_is_read tag contents rest known small =
    again (field tag contents) rest (element tag contents) (record { tag = known; spelling = length_text (length contents); is_length = length_text_is (length contents) small; whole = refl })

pub shortest_length : (n : ℕ) (spelling : List ℕ) → n < 2 ^ 16 → All (λ b. b < 256) spelling → IsLength spelling n → length (length_text n) ≤ length spelling
shortest_length n [] small bytes is = absurd is
shortest_length n (b ∷ []) small bytes is =
    elim is [
      | inl s ↦ rw (lt-ltb n 128 (omega (arith, s.0, s.2))) (lit≤ tt)
      | inr l ↦ absurd (omega (arith, l.0))
    ]
shortest_length n (b ∷ d ∷ []) small bytes is =
    elim is [
      | inl s ↦ absurd (omega (arith, ap length s.1))
      | inr l ↦
          let below : d < 256 = bytes 1 0 (lit< tt) in
          let lt : n < 256 = omega (arith, l.3) in
          elim (cases_lt n 128) [
            | inl lt ↦ rw (lt-ltb n 128 lt) (lit≤ tt)
            | inr le ↦ rw (le-ltb n 128 le, lt-ltb n 256 lt) (lit≤ tt)
          ]
    ]
shortest_length n (b ∷ c ∷ d ∷ digits) small bytes is =
    elim (cases_lt n 128) [
      | inl lt ↦ rw (lt-ltb n 128 lt) (omega arith)
      | inr le ↦ elim (cases_lt n 256) [
        | inl lt ↦ rw (le-ltb n 128 le, lt-ltb n 256 lt) (omega arith)
        | inr more ↦ rw (le-ltb n 128 le, le-ltb n 256 more) (omega arith)
      ]
    ]

-- which size it is
pub sizes : (n : ℕ) → ((n < 2 ^ 7) × (signed_size n ≡ 1)) ⊎ (((2 ^ 7 ≤ n) × (n < 2 ^ 15) × (signed_size n ≡ 2)) ⊎ (((2 ^ 15 ≤ n) × (n < 2 ^ 23) × (signed_size n ≡ 3)) ⊎ (((2 ^ 23 ≤ n) × (n < 2 ^ 31) × (signed_size n ≡ 4)) ⊎ ((2 ^ 31 ≤ n) × (signed_size n ≡ 5)))))
sizes n =
    elim (cases_lt n (2 ^ 7)) [
      | inl a ↦ inl (a, rw (lt-ltb n (2 ^ 7) a) refl)
      | inr a ↦ elim (cases_lt n (2 ^ 15)) [
        | inl b ↦ inr (inl (a, b, rw (le-ltb n (2 ^ 7) a, lt-ltb n (2 ^ 15) b) refl))
        | inr b ↦ elim (cases_lt n (2 ^ 23)) [
          | inl c ↦ inr (inr (inl (b, c, rw (le-ltb n (2 ^ 7) a, le-ltb n (2 ^ 15) b, lt-ltb n (2 ^ 23) c) refl)))
          | inr c ↦ elim (cases_lt n (2 ^ 31)) [
            | inl d ↦ inr (inr (inr (inl (c, d, rw (le-ltb n (2 ^ 7) a, le-ltb n (2 ^ 15) b, le-ltb n (2 ^ 23) c, lt-ltb n (2 ^ 31) d) refl))))
            | inr d ↦ inr (inr (inr (inr (d, rw (le-ltb n (2 ^ 7) a, le-ltb n (2 ^ 15) b, le-ltb n (2 ^ 23) c, le-ltb n (2 ^ 31) d) refl))))
          ]
        ]
      ]
    ]

pub number_fits : (n : ℕ) → n < 2 ^ 32 → n < 2 ^ (8 * signed_size n - 1)
number_fits n small =
    elim (sizes n) [
      | inl a ↦ rw a.1 a.0
      | inr r ↦ elim r [
        | inl b ↦ rw b.2 b.1
        | inr r ↦ elim r [
          | inl c ↦ rw c.2 c.1
          | inr r ↦ elim r [
            | inl d ↦ rw d.2 d.1
            | inr e ↦ rw e.1 (omega arith)
          ]
        ]
      ]
    ]

size_at_most_5 : (n : ℕ) → signed_size n ≤ 5
size_at_most_5 n = grind (arith, sizes n)

pub number_fewest : (n size : ℕ) → 0 < size → n < 2 ^ (8 * size - 1) → signed_size n ≤ size
number_fewest n zero some h = absurd (omega arith)
number_fewest n (suc zero) some h = rw (lt-ltb n (2 ^ 7) h) (lit≤ tt)
number_fewest n (suc (suc zero)) some h = grind (arith, sizes n)
number_fewest n (suc (suc (suc zero))) some h = grind (arith, sizes n)
number_fewest n (suc (suc (suc (suc zero)))) some h = grind (arith, sizes n)
number_fewest n (suc (suc (suc (suc (suc size))))) some h = omega (arith, size_at_most_5 n)
