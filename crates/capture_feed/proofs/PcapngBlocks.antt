-- The blocks of a pcapng file.
use Rattle.std.proofs.Common.{◌≡◌, ℕ, ◌+◌, ◌-◌, ◌%◌, ◌≤◌, ◌<◌, inl, inr, Bool, true, false, List, [], ◌∷◌, ◌++◌, length, min, length-append, refl, sym, ap, ◌∙◌, arith, ◌&&◌}
use Rattle.std.specs.Prelude.{Option, None, Some, not, ◌||◌, nat_le, nat_lt, ◌==◌, if◌then◌else◌, slice_get}
use Rattle.std.proofs.lemmas.Bool.Decides.{nat_tests}
use Rattle.capture_feed.specs.Numbers.{number_at}
use Rattle.capture_feed.specs.Records.{Stop, Whole, Damaged, Cut, First, Ends, Holds}
use Rattle.capture_feed.specs.Pcapng.{PlainSection, is_section_header, has_head, is_known, section_at, total_at, is_good, content, section_header, interface_description, enhanced_on, enhanced_packet, simple_on, simple_packet, packet_of, behind, said, whole_block, block_in, first_block}
use Rattle.capture_feed.specs.declared.content.Content.{Content}
use Rattle.capture_feed.specs.declared.content.Content.TheVariants.{Description, Passed}
use Rattle.capture_feed.proofs.Taking.{Fits}
use Rattle.capture_feed.proofs.Asking.{number_at-prefix, whole_is, either_way}

-- ---- tests

not-true : (b : Bool) → b ≡ true → not b ≡ false
not-true true h = refl
not-true false h = cc

not-false : (b : Bool) → b ≡ false → not b ≡ true
not-false false h = refl
not-false true h = cc

was-true : (b : Bool) → not b ≡ false → b ≡ true
was-true true h = refl
was-true false h = cc

pub both : (a b : Bool) → a && b ≡ true → (a ≡ true) × (b ≡ true)
both true true e = (refl, refl)
both true false e = cc
both false true e = cc
both false false e = cc

abbrev chooses : Bool → First PlainSection → First PlainSection → First PlainSection
chooses b x y = if b then x else y

-- where a piece comes of a choice between a stop and more, the test failed
held-on : (b : Bool) (stop : Stop) (more : First PlainSection) {size : ℕ} {body : Option (List ℕ)} {next : PlainSection} → chooses b (Ends stop) more ≡ Holds size body next → (b ≡ false) × (more ≡ Holds size body next)
held-on false stop more h = (refl, h)
held-on true stop more h = cc

held-in : (b : Bool) (more : First PlainSection) (stop : Stop) {size : ℕ} {body : Option (List ℕ)} {next : PlainSection} → chooses b more (Ends stop) ≡ Holds size body next → more ≡ Holds size body next
held-in true more stop h = h
held-in false more stop h = cc

said-size : (now : PlainSection) (total : ℕ) (rest : List ℕ) (o : Option Content) {size : ℕ} {body : Option (List ℕ)} {next : PlainSection} → said now total rest o ≡ Holds size body next → size ≡ total
said-size now total rest None h = cc
said-size now total rest (Some c) h = cc

-- ---- a whole block

pub good-range : (total : ℕ) → is_good total ≡ true → (12 ≤ total) × (total ≤ 16777216)
good-range total h =
    let parts = both (total % 4 == 0) (nat_le 12 total && nat_le total 16777216) h in
    let range = both (nat_le 12 total) (nat_le total 16777216) parts.1 in
    let low : nat_le 12 total ≡ true = range.0 in
    let high : nat_le total 16777216 ≡ true = range.1 in
    (grind (arith, nat_tests), grind (arith, nat_tests))

-- what is known of a block that stands whole
pub record Stands (section : PlainSection) (rest : List ℕ) (size : ℕ) : Type 0 where
  pub same : size ≡ total_at (section_at section rest) rest
  pub long : 12 ≤ size
  pub within : size ≤ length rest

pub stands : (section : PlainSection) (rest : List ℕ) (size : ℕ) (body : Option (List ℕ)) (next : PlainSection) → first_block section rest ≡ Holds size body next → Stands section rest size
stands section rest size body next h =
    let now = section_at section rest in
    let total = total_at now rest in
    let a = held-on (length rest == 0) Whole (chooses (not (has_head rest)) (Ends Cut) (block_in now rest)) h in
    let b = held-on (not (has_head rest)) Cut (block_in now rest) a.1 in
    let c = held-on (not (is_known rest && is_good total)) (Damaged total) (chooses (nat_lt (length rest) total) (Ends Cut) (whole_block now total rest)) b.1 in
    let d = held-on (nat_lt (length rest) total) Cut (whole_block now total rest) c.1 in
    let e = held-in (number_at now.is_big (total - 4) 4 rest == total) (said now total rest (content now total rest)) (Damaged total) d.1 in
    let same : size ≡ total = said-size now total rest (content now total rest) e in
    let good = good-range total (both (is_known rest) (is_good total) (was-true (is_known rest && is_good total) c.0)).1 in
    let low : 12 ≤ total = good.0 in
    let enough : nat_lt (length rest) total ≡ false = d.0 in
    let within : total ≤ length rest = grind (arith, nat_tests) in
    record { same = same; long = omega arith; within = omega arith }

pub fits_block : Fits first_block
fits_block section next rest size body h =
    let s = stands section rest size body next h in
    let long = s.long in
    record { some = omega arith; within = s.within }

-- ---- a block's first bytes

has_head-long : (rest : List ℕ) → 12 ≤ length rest → has_head rest ≡ true
has_head-long rest long =
    let eight : nat_le 8 (length rest) ≡ true = grind (arith, nat_tests) in
    let twelve : nat_le 12 (length rest) ≡ true = grind (arith, nat_tests) in
    ap (λ b. b && (nat_le 12 (length rest) || not (is_section_header rest))) eight ∙ ap (λ b. true && (b || not (is_section_header rest))) twelve

has_head-eight : (rest : List ℕ) → has_head rest ≡ true → 8 ≤ length rest
has_head-eight rest h =
    let eight : nat_le 8 (length rest) ≡ true = (both (nat_le 8 (length rest)) (nat_le 12 (length rest) || not (is_section_header rest)) h).0 in
    grind (arith, nat_tests)

start-prefix : (section : PlainSection) (xs ys : List ℕ) → 12 ≤ length xs → (section_at section (xs ++ ys) ≡ section_at section xs) × (is_known (xs ++ ys) ≡ is_known xs) × (is_section_header (xs ++ ys) ≡ is_section_header xs)
start-prefix section (a ∷ b ∷ c ∷ d ∷ e ∷ f ∷ g ∷ h ∷ i ∷ j ∷ k ∷ l ∷ rest) ys long = (refl, refl, refl)
start-prefix section xs ys long = absurd (omega arith)

-- what the first bytes show, whatever of the block was read behind them
pub record SameStart (section : PlainSection) (whole read : List ℕ) : Type 0 where
  pub head : has_head whole ≡ has_head read
  pub now : section_at section whole ≡ section_at section read
  pub known : is_known whole ≡ is_known read
  pub total : (by : PlainSection) → has_head read ≡ true → total_at by whole ≡ total_at by read

pub same_long : (section : PlainSection) (whole read left : List ℕ) → whole ≡ read ++ left → 12 ≤ length read → SameStart section whole read
same_long section whole read left e long =
    let len = ap length e ∙ length-append read left in
    let p = start-prefix section read left long in
    record {
      head = has_head-long whole (omega arith) ∙ sym (has_head-long read long);
      now = ap (section_at section) e ∙ p.0;
      known = ap is_known e ∙ p.1;
      total = λ now h. ap (total_at now) e ∙ number_at-prefix now.is_big 4 4 read left (omega arith);
    }

pub same_start : (section : PlainSection) (whole read left : List ℕ) → whole ≡ read ++ left → (length read < 12 → left ≡ []) → SameStart section whole read
same_start section whole read left e ends = elim (either_way 12 (length read)) [
  | inl long ↦ same_long section whole read left e long
  | inr short ↦
      let same : whole ≡ read = whole_is whole read left e (ends short) in
      record { head = ap has_head same; now = ap (section_at section) same; known = ap is_known same; total = λ now h. ap (total_at now) same }
]

-- ---- where the block at the front stops the capture

pub ends_whole : (section : PlainSection) (whole : List ℕ) → length whole ≡ 0 → first_block section whole ≡ Ends Whole
ends_whole section whole none =
    let zero_is : length whole == 0 ≡ true = grind (arith, nat_tests) in
    ap (λ b. chooses b (Ends Whole) (chooses (not (has_head whole)) (Ends Cut) (block_in (section_at section whole) whole))) zero_is

pub ends_cut_head : (section : PlainSection) (whole : List ℕ) → 0 < length whole → has_head whole ≡ false → first_block section whole ≡ Ends Cut
ends_cut_head section whole some none =
    let some_is : length whole == 0 ≡ false = grind (arith, nat_tests) in
    ap (λ b. chooses b (Ends Whole) (chooses (not (has_head whole)) (Ends Cut) (block_in (section_at section whole) whole))) some_is
    ∙ ap (λ b. chooses b (Ends Cut) (block_in (section_at section whole) whole)) (not-false (has_head whole) none)

-- a block whose first bytes are there
pub begun : (section now : PlainSection) (whole : List ℕ) → has_head whole ≡ true → section_at section whole ≡ now → first_block section whole ≡ block_in now whole
begun section now whole head now_is =
    let some = has_head-eight whole head in
    let some_is : length whole == 0 ≡ false = grind (arith, nat_tests) in
    ap (λ b. chooses b (Ends Whole) (chooses (not (has_head whole)) (Ends Cut) (block_in (section_at section whole) whole))) some_is
    ∙ (ap (λ b. chooses b (Ends Cut) (block_in (section_at section whole) whole)) (not-true (has_head whole) head)
    ∙ ap (λ s. block_in s whole) now_is)

pub ends_damaged_head : (now : PlainSection) (whole : List ℕ) (total : ℕ) → total_at now whole ≡ total → (is_known whole && is_good total) ≡ false → block_in now whole ≡ Ends (Damaged total)
ends_damaged_head now whole total total_is bad =
    ap (λ t. chooses (not (is_known whole && is_good t)) (Ends (Damaged t)) (chooses (nat_lt (length whole) t) (Ends Cut) (whole_block now t whole))) total_is
    ∙ ap (λ b. chooses b (Ends (Damaged total)) (chooses (nat_lt (length whole) total) (Ends Cut) (whole_block now total whole))) (not-false (is_known whole && is_good total) bad)

good_block : (now : PlainSection) (whole : List ℕ) (total : ℕ) → total_at now whole ≡ total → (is_known whole && is_good total) ≡ true → block_in now whole ≡ chooses (nat_lt (length whole) total) (Ends Cut) (whole_block now total whole)
good_block now whole total total_is good =
    ap (λ t. chooses (not (is_known whole && is_good t)) (Ends (Damaged t)) (chooses (nat_lt (length whole) t) (Ends Cut) (whole_block now t whole))) total_is
    ∙ ap (λ b. chooses b (Ends (Damaged total)) (chooses (nat_lt (length whole) total) (Ends Cut) (whole_block now total whole))) (not-true (is_known whole && is_good total) good)

pub ends_cut_body : (now : PlainSection) (whole : List ℕ) (total : ℕ) → total_at now whole ≡ total → (is_known whole && is_good total) ≡ true → length whole < total → block_in now whole ≡ Ends Cut
ends_cut_body now whole total total_is good short =
    let few : nat_lt (length whole) total ≡ true = grind (arith, nat_tests) in
    good_block now whole total total_is good ∙ ap (λ b. chooses b (Ends Cut) (whole_block now total whole)) few

pub whole_is_there : (now : PlainSection) (whole : List ℕ) (total : ℕ) → total_at now whole ≡ total → (is_known whole && is_good total) ≡ true → total ≤ length whole → block_in now whole ≡ whole_block now total whole
whole_is_there now whole total total_is good long =
    let enough : nat_lt (length whole) total ≡ false = grind (arith, nat_tests) in
    good_block now whole total total_is good ∙ ap (λ b. chooses b (Ends Cut) (whole_block now total whole)) enough

pub ends_damaged_last : (now : PlainSection) (whole : List ℕ) (total last : ℕ) → number_at now.is_big (total - 4) 4 whole ≡ last → (last ≡ total → ⊥) → whole_block now total whole ≡ Ends (Damaged total)
ends_damaged_last now whole total last last_is differs =
    let test : last == total ≡ false = grind (arith, nat_tests) in
    ap (λ n. chooses (n == total) (said now total whole (content now total whole)) (Ends (Damaged total))) last_is
    ∙ ap (λ b. chooses b (said now total whole (content now total whole)) (Ends (Damaged total))) test

pub ends_damaged_rule : (now : PlainSection) (whole : List ℕ) (total : ℕ) → content now total whole ≡ None → whole_block now total whole ≡ Ends (Damaged total)
ends_damaged_rule now whole total none =
    ap (λ o. chooses (number_at now.is_big (total - 4) 4 whole == total) (said now total whole o) (Ends (Damaged total))) none
    ∙ either (number_at now.is_big (total - 4) 4 whole == total)
  where
    either : (b : Bool) → chooses b (Ends (Damaged total)) (Ends (Damaged total)) ≡ Ends (Damaged total)
    either true = refl
    either false = refl

pub holds_block : (now : PlainSection) (whole : List ℕ) (total : ℕ) (c : Content) → number_at now.is_big (total - 4) 4 whole ≡ total → content now total whole ≡ Some c → whole_block now total whole ≡ Holds total (packet_of c whole) (behind now c)
holds_block now whole total c last some =
    let test : number_at now.is_big (total - 4) 4 whole == total ≡ true = grind (arith, nat_tests) in
    ap (λ b. chooses b (said now total whole (content now total whole)) (Ends (Damaged total))) test ∙ ap (said now total whole) some

-- ---- what a block says is read from its first 28 bytes

guarded : (b : Bool) (x y : Option Content) → (b ≡ true → x ≡ y) → (if b then x else None) ≡ (if b then y else None)
guarded true x y h = h refl
guarded false x y h = refl

guarded-not : (b : Bool) (x y : Option Content) → (b ≡ false → x ≡ y) → (if b then None else x) ≡ (if b then None else y)
guarded-not true x y h = refl
guarded-not false x y h = h refl

module _ (now : PlainSection) (total : ℕ) (xs ys : List ℕ) (long : 12 ≤ length xs) (held : min total 28 ≤ length xs) where
  field : (at size : ℕ) → at + size ≤ length xs → number_at now.is_big at size (xs ++ ys) ≡ number_at now.is_big at size xs
  field at size h = number_at-prefix now.is_big at size xs ys h

  same_header : section_header now total (xs ++ ys) ≡ section_header now total xs
  same_header = by_size (nat_le 28 total) refl
    where
      by_size : (b : Bool) → nat_le 28 total ≡ b → (if b && (number_at now.is_big 12 2 (xs ++ ys) == 1) then Some Passed else None) ≡ (if b && (number_at now.is_big 12 2 xs == 1) then Some Passed else None)
      by_size true e = let enough : 28 ≤ total = grind (arith, nat_tests) in ap (λ n. if true && (n == 1) then Some Passed else None) (field 12 2 (omega arith))
      by_size false e = refl

  same_description : interface_description now total (xs ++ ys) ≡ interface_description now total xs
  same_description = guarded (nat_le 20 total && nat_lt (length now.interfaces) 256) _ _ (λ h.
      let twenty : nat_le 20 total ≡ true = (both (nat_le 20 total) (nat_lt (length now.interfaces) 256) h).0 in
      let enough : 20 ≤ total = grind (arith, nat_tests) in
      ap (λ n. Some (Description (record { link_type = n; snap_length = number_at now.is_big 12 4 (xs ++ ys) }))) (field 8 2 (omega arith))
      ∙ ap (λ n. Some (Description (record { link_type = number_at now.is_big 8 2 xs; snap_length = n }))) (field 12 4 (omega arith)))

  same_enhanced : enhanced_packet now total (xs ++ ys) ≡ enhanced_packet now total xs
  same_enhanced = guarded-not (nat_lt total 32) _ _ (λ h.
      let enough : 32 ≤ total = grind (arith, nat_tests) in
      ap (λ n. enhanced_on (slice_get now.interfaces n) (number_at now.is_big 20 4 (xs ++ ys)) total) (field 8 4 (omega arith))
      ∙ ap (λ n. enhanced_on (slice_get now.interfaces (number_at now.is_big 8 4 xs)) n total) (field 20 4 (omega arith)))

  same_simple : simple_packet now total (xs ++ ys) ≡ simple_packet now total xs
  same_simple = guarded-not (nat_lt total 16) _ _ (λ h.
      let enough : 16 ≤ total = grind (arith, nat_tests) in
      ap (λ n. simple_on (slice_get now.interfaces 0) n total) (field 8 4 (omega arith)))

  pub content-prefix : content now total (xs ++ ys) ≡ content now total xs
  content-prefix =
      ap (λ b. if b then section_header now total (xs ++ ys) else if number_at now.is_big 0 4 (xs ++ ys) == 1 then interface_description now total (xs ++ ys) else if number_at now.is_big 0 4 (xs ++ ys) == 3 then simple_packet now total (xs ++ ys) else if number_at now.is_big 0 4 (xs ++ ys) == 6 then enhanced_packet now total (xs ++ ys) else Some Passed) (start-prefix now xs ys long).2
      ∙ (ap (λ n. if is_section_header xs then section_header now total (xs ++ ys) else if n == 1 then interface_description now total (xs ++ ys) else if n == 3 then simple_packet now total (xs ++ ys) else if n == 6 then enhanced_packet now total (xs ++ ys) else Some Passed) (field 0 4 (omega arith))
      ∙ (ap (λ o. if is_section_header xs then o else if number_at now.is_big 0 4 xs == 1 then interface_description now total (xs ++ ys) else if number_at now.is_big 0 4 xs == 3 then simple_packet now total (xs ++ ys) else if number_at now.is_big 0 4 xs == 6 then enhanced_packet now total (xs ++ ys) else Some Passed) same_header
      ∙ (ap (λ o. if is_section_header xs then section_header now total xs else if number_at now.is_big 0 4 xs == 1 then o else if number_at now.is_big 0 4 xs == 3 then simple_packet now total (xs ++ ys) else if number_at now.is_big 0 4 xs == 6 then enhanced_packet now total (xs ++ ys) else Some Passed) same_description
      ∙ (ap (λ o. if is_section_header xs then section_header now total xs else if number_at now.is_big 0 4 xs == 1 then interface_description now total xs else if number_at now.is_big 0 4 xs == 3 then o else if number_at now.is_big 0 4 xs == 6 then enhanced_packet now total (xs ++ ys) else Some Passed) same_simple
      ∙ ap (λ o. if is_section_header xs then section_header now total xs else if number_at now.is_big 0 4 xs == 1 then interface_description now total xs else if number_at now.is_big 0 4 xs == 3 then simple_packet now total xs else if number_at now.is_big 0 4 xs == 6 then o else Some Passed) same_enhanced))))
