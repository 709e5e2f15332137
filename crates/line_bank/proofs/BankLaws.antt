-- Laws of banks: a new bank, a sample set that a line owns, and one that none owns.
use Rattle.std.proofs.Common.{◌≤◌, ◌≡◌, ◌≢◌, ℕ, zero, suc, ◌<◌, ◌+◌, Bool, true, false, refl, sym, ap, ◌∙◌, arith, List, [], ◌∷◌, ◌++◌, length, get_or, set, inl, inr, ◌*◌, subst, get_or-set_same, get_or-set_other, length-set, Some, None, map}
use Rattle.std.specs.Prelude.{find, Option}
use Rattle.std.specs.Option.{option_map, ForSome}
use Rattle.std.specs.List.{All, IsDistinct}
use Rattle.std.specs.Str.{bytes_eq}
use Rattle.std.proofs.lemmas.Bool.{cases_eq, cases_Bool, cases_order, cond-true, cond-false, false_from_ne_true}
use Rattle.std.proofs.lemmas.List.{get_or_push, get_or_append_left, get_or_default, length-map}
use Rattle.std.proofs.lemmas.List.Elements.{All-set, All-weaker}
use Rattle.std.proofs.lemmas.Map.Made.{AllPairs-from_IsDistinct}
use Rattle.std.proofs.lemmas.Slice.Eq.{bytes_eq-Decides}
use Rattle.relay_settings.specs.declared.types.LineSettings.{LineSettings}
use Rattle.relay_settings.specs.Settings.{PlainLine, plain_line, plain_lines}
use Rattle.sv_frame.specs.Asdu.{PlainAsdu}
use Rattle.line_bank.specs.Owners.{owns, own, owner, HaveOwnIds, HaveOneOwner}
use Rattle.line_bank.specs.Banks.{HaveHeard, AreSmall, told_by, IsTold}

-- ---- lists

-- the first that passes
pub find-first : {X : Type 0} (p : X → Bool) (xs : List X) (place : ℕ) (d : X) → place < length xs → ((k : ℕ) → k < place → p (get_or xs k d) ≡ false) →
    p (get_or xs place d) ≡ true → find p xs ≡ Some (get_or xs place d)
find-first p [] place d h before here = absurd (omega arith)
find-first p (x ∷ xs) zero d h before here = cond-true _ _ _ here
find-first p (x ∷ xs) (suc place) d h before here =
    cond-false _ _ _ (before 0 (omega arith)) ∙ find-first p xs place d (omega arith) (λ k l. before (suc k) (omega arith)) here

find-none : {X : Type 0} (p : X → Bool) (xs : List X) → All (λ x. p x ≡ false) xs → find p xs ≡ None
find-none p [] h = refl
find-none p (x ∷ xs) h = cond-false _ _ _ (h 0 x (omega arith)) ∙ find-none p xs (λ k d l. h (suc k) d (omega arith))

-- some element of a list that has one
pub first-of : {X : Type 0} (xs : List X) (k : ℕ) → k < length xs → X
first-of [] k h = absurd (omega arith)
first-of (x ∷ xs) k h = x

-- ---- whose a sample set is

pub own-mine : (line : PlainLine) (a : PlainAsdu) (older : List PlainAsdu) → owns line a ≡ true → own line (a ∷ older) ≡ a ∷ own line older
own-mine line a older e = cond-true _ _ _ e

pub own-other : (line : PlainLine) (a : PlainAsdu) (older : List PlainAsdu) → owns line a ≡ false → own line (a ∷ older) ≡ own line older
own-other line a older e = cond-false _ _ _ e

pub one-owner : HaveOneOwner
one-owner lines a i j d differ h k mine its = elim (cases_order i j) [
  | inl equal ↦ equal
  | inr (inl below) ↦ absurd (differ i j d below k same)
  | inr (inr above) ↦ absurd (differ j i d above h (sym same))
]
  where
    same : (get_or lines i d).sv_id ≡ (get_or lines j d).sv_id
    same = (bytes_eq-Decides (get_or lines i d).sv_id a.sv_id).0 mine ∙ sym ((bytes_eq-Decides (get_or lines j d).sv_id a.sv_id).0 its)

-- no other line owns it
pub others-differ : (lines : List PlainLine) → HaveOwnIds lines → (a : PlainAsdu) (place p : ℕ) (d : PlainLine) → place < length lines → p < length lines → p ≢ place →
    owns (get_or lines place d) a ≡ true → owns (get_or lines p d) a ≡ false
others-differ lines differ a place p d h k ne mine = false_from_ne_true _ (λ its. ne (sym (one-owner lines a place p d differ h k mine its)))

pub no-owner : (lines : List PlainLine) (a : PlainAsdu) → All (λ line. owns line a ≡ false) lines → owner a lines ≡ None
no-owner lines a none = find-none (λ line. owns line a) lines none

-- the line at a place that owns a sample set, where svIDs differ
pub owner-at : (lines : List PlainLine) (a : PlainAsdu) (place : ℕ) (d : PlainLine) → HaveOwnIds lines → place < length lines → owns (get_or lines place d) a ≡ true → owner a lines ≡ Some (get_or lines place d)
owner-at lines a place d differ h mine = find-first (λ l. owns l a) lines place d h (λ k l. others-differ lines differ a place k d h (omega (arith, l, h)) (λ e. absurd (omega arith)) mine) mine

-- where something is found
pub record IsFound {X : Type 0} (test : X → Bool) (xs : List X) (x : X) : Type 0 where
  pub place : ℕ
  pub within : place < length xs
  pub is : (d : X) → get_or xs place d ≡ x
  pub passes : test x ≡ true

pub find-some : {X : Type 0} (test : X → Bool) (xs : List X) (x : X) → find test xs ≡ Some x → IsFound test xs x
find-some test [] x e = cc
find-some {X} test (y ∷ ys) x e = elim (cases_Bool (test y)) [
  | inl passes ↦ (let same : y ≡ x = some-some (rw passes at e) in record { place = 0; within = omega arith; is = λ d. same; passes = ap test (sym same) ∙ passes })
  | inr fails ↦ (let rest = find-some test ys x (rw fails at e) in record { place = suc rest.place; within = (let h = rest.within in omega arith); is = rest.is; passes = rest.passes })
]
  where
    some-some : {y z : X} → Some y ≡ Some z → y ≡ z
    some-some p = cc

-- ---- a sample set

module _ {H : Type 0} (stands : PlainLine → List PlainAsdu → H → Type 0) (lines : List PlainLine) (past : List PlainAsdu) (held : List H) (a : PlainAsdu) (before : HaveHeard stands lines past held) where
  module _ (place : ℕ) (within : place < length lines) (mine : (d : PlainLine) → owns (get_or lines place d) a ≡ true) where
    -- where the owner has heard it, the bank has
    pub heard-next : (old new : H) → old ≡ get_or held place old → ((line : PlainLine) (own_sets : List PlainAsdu) → stands line own_sets old → stands line (a ∷ own_sets) new) →
        HaveHeard stands lines (a ∷ past) (set held place new)
    heard-next old new is step = record { differ = before.differ; count = length-set held place new ∙ before.count; each = at }
      where
        Stands : ℕ → PlainLine → H → Type 0
        Stands p d h = stands (get_or lines p d) (own (get_or lines p d) (a ∷ past)) h

        owned : (d : PlainLine) → stands (get_or lines place d) (own (get_or lines place d) past) old
        owned d = subst (λ h. stands (get_or lines place d) (own (get_or lines place d) past) h) (sym is) (before.each place d old within)

        here : (d : PlainLine) → Stands place d new
        here d = subst (λ sets. stands (get_or lines place d) sets new) (sym (own-mine (get_or lines place d) a past (mine d))) (step (get_or lines place d) (own (get_or lines place d) past) (owned d))

        there : (p : ℕ) (d : PlainLine) (h : H) → p < length lines → p ≢ place → Stands p d (get_or held p h)
        there p d h inside ne =
            subst (λ sets. stands (get_or lines p d) sets (get_or held p h))
            (sym (own-other (get_or lines p d) a past (others-differ lines before.differ a place p d within inside ne (mine d)))) (before.each p d h inside)

        at : (p : ℕ) (d : PlainLine) (h : H) → p < length lines → Stands p d (get_or (set held place new) p h)
        at p d h inside = elim (cases_eq p place) [
          | inl e ↦ (let long : place < length held = omega (arith, before.count) in
              subst (λ q. Stands q d (get_or (set held place new) q h)) (sym e)
              (subst (λ x. Stands place d x) (sym (get_or-set_same held place new h long)) (here d)))
          | inr ne ↦ subst (λ x. Stands p d x) (sym (get_or-set_other held place p new h ne)) (there p d h inside ne)
        ]

    -- and what the owner tells is what is told
    pub told-is : {E : Type 0} (tells : PlainLine → List PlainAsdu → E) (old : H) (said : E) → old ≡ get_or held place old →
        ((line : PlainLine) (own_sets : List PlainAsdu) → stands line own_sets old → said ≡ tells line (a ∷ own_sets)) → IsTold tells lines (a ∷ past) place said
    told-is tells old said is says =
        let d : PlainLine = first-of lines place within in
        let line : PlainLine = get_or lines place d in
        let found : owner a lines ≡ Some line =
        owner-at lines a place d before.differ within (mine d) in
        let owned : stands line (own line past) old = subst (λ h. stands line (own line past) h) (sym is) (before.each place d old within) in
        record {
          within = within;
          line = line;
          at_place = λ e. get_or_default lines place e d within;
          is = ap (option_map (told_by tells a past)) found ∙ ap (λ x. Some (record { line = line; told = x })) (sym (says line (own line past) owned));
        }

  -- where no line owns it, each has heard what it heard
  pub unheard-next : All (λ line. owns line a ≡ false) lines → HaveHeard stands lines (a ∷ past) held
  unheard-next none = record {
    differ = before.differ;
    count = before.count;
    each = λ p d h inside.
        subst (λ sets. stands (get_or lines p d) sets (get_or held p h)) (sym (own-other (get_or lines p d) a past (none p d inside))) (before.each p d h inside);
  }

-- the numbers stay small for what was heard
pub small-next : {H : Type 0} (last : H → Option ℕ) (held : List H) (heard place : ℕ) (old new : H) → AreSmall last held heard → place < length held → old ≡ get_or held place old →
    ((most : ℕ) → ForSome (last old) (λ n. n ≤ most) → ForSome (last new) (λ n. n ≤ most + 4800)) → AreSmall last (set held place new) (heard + 1)
small-next {H} last held heard place old new near within is grows =
    let before : ForSome (last old) (λ n. n ≤ 4800 * heard) = subst (λ h. ForSome (last h) (λ n. n ≤ 4800 * heard)) (sym is) (near place old within) in
    let here : ForSome (last new) (λ n. n ≤ 4800 * (heard + 1)) = λ n e. (let most : n ≤ 4800 * heard + 4800 = grows (4800 * heard) before n e in omega arith) in
    All-set (λ (h : H). ForSome (last h) (λ n. n ≤ 4800 * (heard + 1))) held place new here
    (All-weaker (λ (h : H). ForSome (last h) (λ n. n ≤ 4800 * heard)) (λ (h : H). ForSome (last h) (λ n. n ≤ 4800 * (heard + 1))) (λ h few n e. (let most : n ≤ 4800 * heard = few n e in omega arith)) held near)

-- ---- a new bank

-- an element of these settings that has heard nothing
pub record IsNew {H : Type 0} (holds : PlainLine → List PlainAsdu → H → Type 0) (last : H → Option ℕ) (settings : LineSettings) (held : H) : Type 0 where
  pub stands : holds (plain_line settings) [] held
  pub none : last held ≡ None

-- the first n elements of a bank that is being made
abbrev pub AreNew : {H : Type 0} → (PlainLine → List PlainAsdu → H → Type 0) → (H → Option ℕ) → List LineSettings → List H → ℕ → Type 0
AreNew {H} stands last all held n = (place : ℕ) (d : LineSettings) (h : H) → place < n → IsNew stands last (get_or all place d) (get_or held place h)

module _ {H : Type 0} (stands : PlainLine → List PlainAsdu → H → Type 0) (last : H → Option ℕ) (all : List LineSettings) where
  pub made-next : (held : List H) (settings : LineSettings) (new : H) (n : ℕ) → length held ≡ n → n < length all → settings ≡ get_or all n settings →
      IsNew stands last settings new → AreNew stands last all held n → AreNew stands last all (held ++ new ∷ []) (n + 1)
  made-next held settings new n long within is one made = λ place d h below. elim (cases_eq place n) [
    | inl e ↦ rw (e, get_or_push held new h n long, get_or_default all n d settings within, ← is) one
    | inr ne ↦ (let inside : place < length held = omega arith in rw (get_or_append_left held (new ∷ []) h place inside) (made place d h (omega arith)))
  ]

  pub new-heard : (held : List H) → IsDistinct bytes_eq (map (λ l. l.sv_id.items) all) → length held ≡ length all → AreNew stands last all held (length all) → HaveHeard stands (plain_lines all) [] held
  new-heard held distinct long made = record {
    differ = ids-differ all distinct;
    count = long ∙ sym (length-map all plain_line);
    each = λ place d h inside.
        let within : place < length all = omega (arith, length-map all plain_line) in
        let e : LineSettings = first-of all place within in
        subst (λ line. stands line [] (get_or held place h)) (sym (line-at all place d e within)) (made place e h within).stands;
  }
    where
      id-at : (lines : List LineSettings) (i : ℕ) (d : PlainLine) → get_or (map (λ (l : LineSettings). l.sv_id.items) lines) i d.sv_id ≡ (get_or (map plain_line lines) i d).sv_id
      id-at [] i d = refl
      id-at (l ∷ lines) zero d = refl
      id-at (l ∷ lines) (suc i) d = id-at lines i d

      line-at : (lines : List LineSettings) (i : ℕ) (d : PlainLine) (e : LineSettings) → i < length lines → get_or (map plain_line lines) i d ≡ plain_line (get_or lines i e)
      line-at [] i d e h = absurd (omega arith)
      line-at (l ∷ lines) zero d e h = refl
      line-at (l ∷ lines) (suc i) d e h = line-at lines i d e (omega arith)

      ids-differ : (lines : List LineSettings) → IsDistinct bytes_eq (map (λ l. l.sv_id.items) lines) → HaveOwnIds (map plain_line lines)
      ids-differ lines distinct = λ i j d below inside e.
          (let count : length (map (λ (l : LineSettings). l.sv_id.items) lines) ≡ length (map plain_line lines) = length-map lines (λ (l : LineSettings). l.sv_id.items) ∙ sym (length-map lines plain_line) in
          AllPairs-from_IsDistinct bytes_eq-Decides (map (λ (l : LineSettings). l.sv_id.items) lines) distinct i j d.sv_id below (omega arith) (id-at lines i d ∙ e ∙ sym (id-at lines j d)))

  pub new-small : (held : List H) → length held ≡ length all → AreNew stands last all held (length all) → AreSmall last held 0
  new-small held long made = λ place h inside n e.
      (let within : place < length all = omega arith in
      absurd (none-some n (sym (made place (first-of all place within) h within).none ∙ e)))
    where
      none-some : (n : ℕ) → None ≡ Some n → ⊥
      none-some n e = cc
