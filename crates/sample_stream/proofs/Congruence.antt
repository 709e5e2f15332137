-- The difference of a counter and the last number, modulo the rate, against the tests by congruence.
use Rattle.std.proofs.Common.{◌≡◌, ◌≢◌, ℕ, ◌+◌, ◌-◌, ◌%◌, ◌<◌, ◌≤◌, true, false, refl, sym, ap, ◌∙◌, arith, inl, inr, add_assoc}
use Rattle.std.proofs.Math.Nat.{mod-eq_of_lt, add-mod_left, mod-add-mod}
use Rattle.std.proofs.lemmas.Bool.{cases_lt, cases_eq, eqb-true, eqb-false, eq-eqb, ne_eqb, cond-true, cond-false}
use Rattle.sample_windows.specs.Below.{any_below}
use Rattle.sample_windows.proofs.BelowLemmas.{any_below_from, any_below_none, least_below_is}
use Rattle.sample_stream.specs.declared.numberer.Taken.TheVariants.{Next, Jump, Repeat, Late}
use Rattle.sample_stream.specs.Numbering.{NumbersAreUnique, IsNextNumber, is_congruent, behind, next_number, taken_as, outcome_after}

mod_below : (x r : ℕ) → x < r → x % r ≡ x
mod_below x r h = mod-eq_of_lt h

mod_above : (x r : ℕ) → r ≤ x → x < r + r → x % r ≡ x - r
mod_above x r l h =
    let e : x ≡ r + (x - r) = omega arith in
    let s : x - r < r = omega arith in
    ap (λ y. y % r) e ∙ add-mod_left r (x - r) ∙ mod-eq_of_lt s

module _ (rate last counter : ℕ) (big : 65 < rate) (low : counter < rate) where
  unfoldable pub distance : ℕ
  distance = (counter + rate - last % rate) % rate

  -- the same, by the counter of the last number
  pub distance_by : (before d : ℕ) → last % rate ≡ before → d ≡ (counter + rate - before) % rate → d ≡ distance
  unfolding distance
  distance_by before d e is = is ∙ ap (λ b. (counter + rate - b) % rate) (sym e)

  phase-lt : last % rate < rate
  phase-lt = omega arith

  distance-lt : distance < rate
  unfolding distance
  distance-lt = omega arith

  -- either the counter is at or above the phase of the last number, or it is below
  data Side : Type 0 where
    above : last % rate ≤ counter → distance ≡ counter - last % rate → Side
    below : counter < last % rate → distance ≡ counter + rate - last % rate → Side

  side : Side
  unfolding distance
  side = elim (cases_lt counter (last % rate)) [
    | inl l ↦ below l (mod_below (counter + rate - last % rate) rate (omega (arith, phase-lt)))
    | inr l ↦ above l (mod_above (counter + rate - last % rate) rate (omega arith) (omega (arith, phase-lt)) ∙ omega (arith, phase-lt))
  ]

  -- the counter against the last number
  same : distance ≡ 0 → is_congruent rate counter last ≡ true
  same e = eq-eqb _ _ (mod_below counter rate low ∙ elim side [ above l d ↦ omega arith | below l d ↦ absurd (omega (arith, phase-lt)) ])

  differs : distance ≢ 0 → is_congruent rate counter last ≡ false
  differs ne = ne_eqb _ _ (λ q. let e : counter ≡ last % rate = sym (mod_below counter rate low) ∙ q in
      elim side [ above l d ↦ ne (omega arith) | below l d ↦ omega arith ])

  -- the counter against a number before the last
  behind_at : (b : ℕ) → b < 64 → distance + (b + 1) ≡ rate → is_congruent rate (counter + (b + 1)) last ≡ true
  behind_at b h e = eq-eqb _ _ (elim side [
    | above l d ↦ mod_above (counter + (b + 1)) rate (omega (arith, phase-lt)) (omega arith) ∙ omega (arith, phase-lt)
    | below l d ↦ mod_below (counter + (b + 1)) rate (omega (arith, phase-lt)) ∙ omega (arith, phase-lt)
  ])

  not_behind_at : (b : ℕ) → b < 64 → distance + (b + 1) ≢ rate → distance ≢ 0 → is_congruent rate (counter + (b + 1)) last ≡ false
  not_behind_at b h ne nz = ne_eqb _ _ (λ q. elim (cases_lt (counter + (b + 1)) rate) [
    | inl l ↦ (let e : counter + (b + 1) ≡ last % rate = sym (mod_below (counter + (b + 1)) rate l) ∙ q in
        elim side [ above m d ↦ omega (arith, phase-lt) | below m d ↦ ne (omega (arith, phase-lt)) ])
    | inr l ↦ (let e : counter + (b + 1) - rate ≡ last % rate = sym (mod_above (counter + (b + 1)) rate l (omega arith)) ∙ q in
        elim side [ above m d ↦ ne (omega (arith, phase-lt)) | below m d ↦ omega (arith, phase-lt) ])
  ])

  -- a number after the last against the counter
  ahead : (j : ℕ) → (last + 1 + j) % rate ≡ (last % rate + (1 + j)) % rate
  ahead j = ap (λ x. x % rate) (add_assoc last 1 j) ∙ sym (mod-add-mod last rate (1 + j))

  ahead_at : (j : ℕ) → j + 65 < rate → distance ≡ j + 1 → is_congruent rate (last + 1 + j) counter ≡ true
  ahead_at j h e = eq-eqb _ _ (ahead j ∙ elim side [
    | above l d ↦ mod_below (last % rate + (1 + j)) rate (omega (arith, phase-lt)) ∙ omega (arith, phase-lt)
    | below l d ↦ mod_above (last % rate + (1 + j)) rate (omega (arith, phase-lt)) (omega (arith, phase-lt)) ∙ omega (arith, phase-lt)
  ] ∙ sym (mod_below counter rate low))

  not_ahead_at : (j : ℕ) → j + 65 < rate → distance ≢ j + 1 → is_congruent rate (last + 1 + j) counter ≡ false
  not_ahead_at j h ne = ne_eqb _ _ (λ q. elim (cases_lt (last % rate + (1 + j)) rate) [
    | inl l ↦ (let e : last % rate + (1 + j) ≡ counter = sym (mod_below (last % rate + (1 + j)) rate l) ∙ sym (ahead j) ∙ q ∙ mod_below counter rate low in
        elim side [ above m d ↦ ne (omega (arith, phase-lt)) | below m d ↦ omega (arith, phase-lt) ])
    | inr l ↦ (let e : last % rate + (1 + j) - rate ≡ counter = sym (mod_above (last % rate + (1 + j)) rate l (omega (arith, phase-lt))) ∙ sym (ahead j) ∙ q ∙ mod_below counter rate low in
        elim side [ above m d ↦ omega (arith, phase-lt) | below m d ↦ ne (omega (arith, phase-lt)) ])
  ])

  none_behind : 0 < distance → distance + 64 < rate → any_below 64 (λ b. is_congruent rate (counter + (b + 1)) last) ≡ false
  none_behind pos far = any_below_none 64 (λ b. is_congruent rate (counter + (b + 1)) last)
      (λ b h. not_behind_at b h (λ e. omega arith) (λ e. omega arith))

  -- the number that is taken is the one that is congruent
  pub next_number_is : 0 < distance → distance + 64 < rate → next_number rate last counter ≡ last + distance
  unfolding next_number
  next_number_is pos far =
      let found = least_below_is (rate - 65) (λ j. is_congruent rate (last + 1 + j) counter) (distance - 1) (omega arith)
      (λ j h. not_ahead_at j (omega arith) (λ e. omega arith)) (ahead_at (distance - 1) (omega arith) (omega arith)) in
      ap (λ j. last + 1 + j) found ∙ omega arith

  pub repeats : distance ≡ 0 → outcome_after rate last counter ≡ Repeat
  unfolding outcome_after
  repeats e = cond-true _ _ _ (same e)

  pub is_late : 0 < distance → rate ≤ distance + 64 → outcome_after rate last counter ≡ Late (rate - distance)
  unfolding outcome_after behind
  is_late pos near =
      let here = behind_at (rate - distance - 1) (omega arith) (omega (arith, distance-lt)) in
      let within : rate - distance - 1 < 64 = omega arith in
      let first = least_below_is 64 (λ b. is_congruent rate (counter + (b + 1)) last) (rate - distance - 1) within
      (λ j h. not_behind_at j (omega arith) (λ e. omega arith) (λ e. omega arith)) here in
      let back : rate - distance - 1 + 1 ≡ rate - distance = omega (arith, distance-lt) in
      cond-false _ _ _ (differs (λ e. omega arith))
      ∙ cond-true _ _ _ (any_below_from 64 (λ b. is_congruent rate (counter + (b + 1)) last) (rate - distance - 1) within here)
      ∙ ap (λ b. Late (b + 1)) first ∙ ap Late back

  pub is_taken : 0 < distance → distance + 64 < rate → outcome_after rate last counter ≡ taken_as last (last + distance)
  unfolding outcome_after
  is_taken pos far =
      cond-false _ _ _ (differs (λ e. omega arith)) ∙ cond-false _ _ _ (none_behind pos far) ∙ ap (taken_as last) (next_number_is pos far)

  -- and so its counter is this one
  pub congruent_at : 0 < distance → distance + 64 < rate → (last + distance) % rate ≡ counter
  congruent_at pos far =
      let on : last + 1 + (distance - 1) ≡ last + distance = omega arith in
      let q = ahead_at (distance - 1) (omega arith) (omega arith) in
      rw on at (eqb-true _ _ q) ∙ mod_below counter rate low

pub taken_next : (last d : ℕ) → d ≡ 1 → taken_as last (last + d) ≡ Next (last + 1)
taken_next last d e = rw e (cond-true _ _ _ (eq-eqb (last + 1) (last + 1) refl))

pub taken_jump : (last d : ℕ) → d ≢ 1 → taken_as last (last + d) ≡ Jump (last + d) (d - 1)
taken_jump last d ne =
    let e : last + d - last - 1 ≡ d - 1 = omega arith in
    cond-false _ _ _ (ne_eqb (last + d) (last + 1) (λ q. ne (omega arith))) ∙ ap (λ m. Jump (last + d) m) e

-- there is one number, and no other
pub numbers_are_unique : NumbersAreUnique
numbers_are_unique rate last counter big low no_repeat no_late =
    let pos : 0 < distance rate last counter big low = not_zero in
    let far : distance rate last counter big low + 64 < rate = not_near in
    let is = next_number_is rate last counter big low pos far in (
      is_taken rate last counter big low pos far ∙ ap (taken_as last) (sym is),
      record {
        after = omega (arith, is);
        near = omega (arith, is);
        congruent = rw is (congruent_at rate last counter big low pos far);
      },
      λ number next. is_only number next ∙ sym is,
    )
  where
    not_zero : 0 < distance rate last counter big low
    not_zero = elim (cases_lt 0 (distance rate last counter big low)) [
      | inl pos ↦ pos
      | inr z ↦ absurd (no_repeat (sym (eqb-true _ _ (same rate last counter big low (omega arith))) ∙ mod_below counter rate low))
    ]

    late : rate ≤ distance rate last counter big low + 64 → last % rate ≡ (counter + (rate - distance rate last counter big low)) % rate
    late near =
        let back : rate - distance rate last counter big low - 1 + 1 ≡ rate - distance rate last counter big low = omega (arith, distance-lt rate last counter big low) in
        let q = behind_at rate last counter big low (rate - distance rate last counter big low - 1) (omega (arith, not_zero)) (omega (arith, distance-lt rate last counter big low)) in
        sym (rw back at (eqb-true _ _ q))

    not_near : distance rate last counter big low + 64 < rate
    not_near = elim (cases_lt (distance rate last counter big low + 64) rate) [
      | inl far ↦ far
      | inr near ↦ absurd (no_late (rate - distance rate last counter big low) (omega (arith, distance-lt rate last counter big low)) (omega arith) (late near))
    ]

    is_only : (number : ℕ) → IsNextNumber rate last counter number → number ≡ last + distance rate last counter big low
    is_only number next =
        let on : last + 1 + (number - last - 1) ≡ number = omega (arith, next.after) in
        elim (cases_eq (distance rate last counter big low) (number - last - 1 + 1)) [
          | inl e ↦ omega (arith, next.after)
          | inr ne ↦ absurd (eqb-false _ _ (rw on at (not_ahead_at rate last counter big low (number - last - 1) (omega (arith, next.near)) ne)) (next.congruent ∙ sym (mod_below counter rate low)))
        ]
