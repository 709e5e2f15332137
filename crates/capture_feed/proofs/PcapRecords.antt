-- The records of a pcap file.
use Rattle.std.proofs.Common.{◌≡◌, ℕ, ◌+◌, ◌≤◌, ◌<◌, inl, inr, Bool, true, false, List, [], ◌++◌, length, take, drop, min, length-append, length-drop, refl, sym, ap, ◌∙◌, arith, ◌&&◌}
use Rattle.std.specs.Prelude.{Option, Some, nat_le, nat_lt, ◌==◌, if◌then◌else◌}
use Rattle.std.proofs.lemmas.Bool.Decides.{nat_tests}
use Rattle.std.proofs.lemmas.List.{take_all}
use Rattle.capture_feed.specs.Records.{Stop, Whole, Damaged, Cut, First, Ends, Holds, add, stopped, records_from}
use Rattle.capture_feed.specs.Pcap.{captured, body, first_record}
use Rattle.capture_feed.specs.Reads.{Took, Passes}
use Rattle.capture_feed.specs.Pieces.{GivesPiece}
use Rattle.capture_feed.proofs.Taking.{Fits, records-ends, records-holds, no-bodies}
use Rattle.capture_feed.proofs.Handing.{goes_by}
use Rattle.capture_feed.proofs.Asking.{number_at-prefix, whole_is, either_way, lent, within-text, before_end, behind_text}

abbrev chooses : (a b c : Bool) (w v u : Stop) → First Bool → First Bool
chooses a b c w v u x = if a then Ends w else if b then Ends v else if c then Ends u else x

chosen : (a b c : Bool) (w v u : Stop) (n size : ℕ) (x y : Option (List ℕ)) (s t : Bool) → chooses a b c w v u (Holds n x s) ≡ Holds size y t → (c ≡ false) × (n ≡ size)
chosen false false false w v u n size x y s t h = (refl, cc)
chosen true b c w v u n size x y s t h = cc
chosen false true c w v u n size x y s t h = cc
chosen false false true w v u n size x y s t h = cc

second : (a b c : Bool) (w v u : Stop) (x : First Bool) → a ≡ false → b ≡ true → chooses a b c w v u x ≡ Ends v
second false true c w v u x p q = refl
second true b c w v u x p q = cc
second false false c w v u x p q = cc

third : (a b c : Bool) (w v u : Stop) (x : First Bool) → a ≡ false → b ≡ false → c ≡ true → chooses a b c w v u x ≡ Ends u
third false false true w v u x p q r = refl
third true b c w v u x p q r = cc
third false true c w v u x p q r = cc
third false false false w v u x p q r = cc

last : (a b c : Bool) (w v u : Stop) (x : First Bool) → a ≡ false → b ≡ false → c ≡ false → chooses a b c w v u x ≡ x
last false false false w v u x p q r = refl
last true b c w v u x p q r = cc
last false true c w v u x p q r = cc
last false false true w v u x p q r = cc

and-first : (a b : Bool) → a ≡ false → a && b ≡ false
and-first false b h = refl
and-first true b h = cc

and-second : (a b : Bool) → b ≡ false → a && b ≡ false
and-second true b h = h
and-second false b h = refl

and-both : (a b : Bool) → a ≡ true → b ≡ true → a && b ≡ true
and-both true b h e = e
and-both false b h e = cc

-- the size of a record that stands whole
sized : (is_big next : Bool) (rest : List ℕ) (size : ℕ) (got : Option (List ℕ)) → first_record is_big rest ≡ Holds size got next → (size ≡ 16 + captured is_big rest) × (size ≤ length rest)
sized is_big next rest size got h =
    let c = chosen (length rest == 0) (nat_le 16 (length rest) && nat_lt 262144 (captured is_big rest)) (nat_lt (length rest) (16 + captured is_big rest)) Whole (Damaged (captured is_big rest)) Cut (16 + captured is_big rest) size (Some (body is_big rest)) got is_big next h in
    let whole : nat_lt (length rest) (16 + captured is_big rest) ≡ false = c.0 in
    let same : 16 + captured is_big rest ≡ size = c.1 in
    let enough : 16 + captured is_big rest ≤ length rest = grind (arith, nat_tests) in
    (sym same, omega arith)

pub fits_record : Fits first_record
fits_record is_big next rest size got h = let s = sized is_big next rest size got h in record { some = omega (arith, s.0); within = s.1 }

captured_is : (is_big : Bool) (whole read left : List ℕ) (n : ℕ) → whole ≡ read ++ left → 16 ≤ length read → n ≡ captured is_big read → captured is_big whole ≡ n
captured_is is_big whole read left n e long n_is = ap (captured is_big) e ∙ (number_at-prefix is_big 8 4 read left (omega arith) ∙ sym n_is)

module _ (is_big : Bool) (limit taken : ℕ) (below : taken < limit) where
  ends : (rest : List ℕ) (stop : Stop) → first_record is_big rest ≡ Ends stop → records_from first_record limit is_big taken rest ≡ stopped stop
  ends rest stop is = records-ends first_record fits_record limit is_big taken rest stop below is

  pub at_end : (whole read left : List ℕ) → whole ≡ read ++ left → left ≡ [] → length read ≡ 0 → records_from first_record limit is_big taken whole ≡ stopped Whole
  at_end whole read left e none empty =
      let len : length whole ≡ 0 = ap length (whole_is whole read left e none) ∙ empty in
      let zero_is : length whole == 0 ≡ true = grind (arith, nat_tests) in
      ends whole Whole (ap (λ b. chooses b (nat_le 16 (length whole) && nat_lt 262144 (captured is_big whole)) (nat_lt (length whole) (16 + captured is_big whole)) Whole (Damaged (captured is_big whole)) Cut (Holds (16 + captured is_big whole) (Some (body is_big whole)) is_big)) zero_is)

  cut_at : (whole : List ℕ) → 0 < length whole → (nat_le 16 (length whole) && nat_lt 262144 (captured is_big whole)) ≡ false → length whole < 16 + captured is_big whole → records_from first_record limit is_big taken whole ≡ stopped Cut
  cut_at whole some fine short =
      ends whole Cut (third (length whole == 0) (nat_le 16 (length whole) && nat_lt 262144 (captured is_big whole)) (nat_lt (length whole) (16 + captured is_big whole)) Whole (Damaged (captured is_big whole)) Cut (Holds (16 + captured is_big whole) (Some (body is_big whole)) is_big)
      (grind (arith, nat_tests)) fine (grind (arith, nat_tests)))

  pub at_cut_head : (whole read left : List ℕ) → whole ≡ read ++ left → left ≡ [] → 0 < length read → length read < 16 → records_from first_record limit is_big taken whole ≡ stopped Cut
  at_cut_head whole read left e none some short =
      let len : length whole ≡ length read = ap length (whole_is whole read left e none) in
      cut_at whole (omega arith) (and-first (nat_le 16 (length whole)) (nat_lt 262144 (captured is_big whole)) (grind (arith, nat_tests))) (omega arith)

  pub at_cut_body : (whole read left : List ℕ) (n : ℕ) → whole ≡ read ++ left → 16 ≤ length read → n ≡ captured is_big read → n ≤ 262144 → length whole < 16 + n → records_from first_record limit is_big taken whole ≡ stopped Cut
  at_cut_body whole read left n e long n_is small short =
      let same : captured is_big whole ≡ n = captured_is is_big whole read left n e long n_is in
      let len : length whole ≡ length read + length left = ap length e ∙ length-append read left in
      cut_at whole (omega arith) (and-second (nat_le 16 (length whole)) (nat_lt 262144 (captured is_big whole)) (grind (arith, nat_tests))) (omega arith)

  pub at_damaged : (whole read left : List ℕ) (n : ℕ) → whole ≡ read ++ left → 16 ≤ length read → n ≡ captured is_big read → 262144 < n → records_from first_record limit is_big taken whole ≡ stopped (Damaged n)
  at_damaged whole read left n e long n_is large =
      let same : captured is_big whole ≡ n = captured_is is_big whole read left n e long n_is in
      let len : length whole ≡ length read + length left = ap length e ∙ length-append read left in
      ends whole (Damaged (captured is_big whole)) (second (length whole == 0) (nat_le 16 (length whole) && nat_lt 262144 (captured is_big whole)) (nat_lt (length whole) (16 + captured is_big whole)) Whole (Damaged (captured is_big whole)) Cut (Holds (16 + captured is_big whole) (Some (body is_big whole)) is_big)
      (grind (arith, nat_tests)) (and-both (nat_le 16 (length whole)) (nat_lt 262144 (captured is_big whole)) (grind (arith, nat_tests)) (grind (arith, nat_tests))))
      ∙ ap (λ k. stopped (Damaged k)) same

  -- too few bytes for a record
  pub no_record : (read : List ℕ) → length read < 16 + captured is_big read → (records_from first_record limit is_big taken read).bodies ≡ []
  no_record read short =
      no-bodies first_record fits_record limit is_big taken read below
      (λ size got next is. let s = sized is_big next read size got is in let a : size ≡ 16 + captured is_big read = s.0 in let b : size ≤ length read = s.1 in omega arith)

  -- the head is known from what was read earlier
  pub no_record_body : (whole head more read left : List ℕ) (n : ℕ) → whole ≡ head ++ more → 16 ≤ length head → n ≡ captured is_big head → whole ≡ read ++ left → length read < 16 + n → (records_from first_record limit is_big taken read).bodies ≡ []
  no_record_body whole head more read left n h long n_is e short =
      no_record read (elim (either_way 16 (length read)) [
        | inl enough ↦
            let same : captured is_big whole ≡ n = captured_is is_big whole head more n h long n_is in
            let here : captured is_big whole ≡ captured is_big read = captured_is is_big whole read left _ e enough refl in
            omega arith
        | inr few ↦ omega arith
      ])

  pub one_record : (n : ℕ) (text more : List ℕ) → length text ≡ 16 + n → captured is_big text ≡ n → n ≤ 262144 →
      records_from first_record limit is_big taken (text ++ more) ≡ add (take n (drop 16 text)) (records_from first_record limit is_big (taken + (16 + n)) more)
  one_record n text more long n_is small =
      let same : captured is_big (text ++ more) ≡ n = number_at-prefix is_big 8 4 text more (omega arith) ∙ n_is in
      let len = length-append text more in
      let first : first_record is_big (text ++ more) ≡ Holds (16 + captured is_big (text ++ more)) (Some (body is_big (text ++ more))) is_big =
      last (length (text ++ more) == 0) (nat_le 16 (length (text ++ more)) && nat_lt 262144 (captured is_big (text ++ more))) (nat_lt (length (text ++ more)) (16 + captured is_big (text ++ more))) Whole (Damaged (captured is_big (text ++ more))) Cut (Holds (16 + captured is_big (text ++ more)) (Some (body is_big (text ++ more))) is_big)
      (grind (arith, nat_tests)) (and-second (nat_le 16 (length (text ++ more))) (nat_lt 262144 (captured is_big (text ++ more))) (grind (arith, nat_tests))) (grind (arith, nat_tests)) in
      records-holds first_record fits_record limit is_big is_big taken (16 + captured is_big (text ++ more)) (text ++ more) (Some (body is_big (text ++ more))) below first
      ∙ (ap (λ k. add (take k (drop 16 (text ++ more))) (records_from first_record limit is_big (taken + (16 + k)) (drop (16 + k) (text ++ more)))) same
      ∙ (ap (λ xs. add xs (records_from first_record limit is_big (taken + (16 + n)) (drop (16 + n) (text ++ more)))) (within-text n 16 text more (omega arith))
      ∙ ap (λ xs. add (take n (drop 16 text)) (records_from first_record limit is_big (taken + (16 + n)) xs)) (behind_text (16 + n) text more long)))

  -- a whole record was taken off
  pub at_record : (most : ℕ) (held head more block items left now : List ℕ) {old new : List ℕ} (n at end : ℕ) → most ≡ 2048 → Took old new → held ++ old ≡ head ++ more → 16 ≤ length head → n ≡ captured is_big head → n ≤ 262144 →
      held ++ old ≡ drop at items ++ left → 16 + min n most ≤ length (drop at items) → Passes (16 + n) (drop at items ++ left) (now ++ new) → items ≡ take end block →
      GivesPiece (λ left. records_from first_record limit is_big taken (held ++ left)) (λ left. records_from first_record limit is_big (taken + (16 + n)) (now ++ left)) block (Some (record { at = at + 16; captured = n })) old new
  at_record most held head more block items left now {old} {new} n at end most_is took h long n_is small e fits p block_is =
      let whole : List ℕ = held ++ old in
      let same : captured is_big whole ≡ n = captured_is is_big whole head more n h long n_is in
      let text_long : length p.prefix ≡ 16 + n = p.long in
      let split : whole ≡ p.prefix ++ (now ++ new) = e ∙ p.is in
      let here : captured is_big p.prefix ≡ n = sym (ap (captured is_big) split ∙ number_at-prefix is_big 8 4 p.prefix (now ++ new) (omega arith)) ∙ same in
      let body_is : take n (drop 16 whole) ≡ take n (drop 16 p.prefix) = ap (λ xs. take n (drop 16 xs)) split ∙ within-text n 16 p.prefix (now ++ new) (omega arith) in
      let len = length-drop 16 p.prefix in
      record {
        body = Some (take n (drop 16 p.prefix));
        goes = goes_by (records_from first_record limit is_big taken) (records_from first_record limit is_big (taken + (16 + n))) (Some (take n (drop 16 p.prefix))) held p.prefix now took split
            (λ next. one_record n p.prefix next text_long here small);
        lends = (
          ap length (take_all n (drop 16 p.prefix) (omega arith)) ∙ (omega arith),
          ap (λ k. take (min n k) (drop (at + 16) block)) (sym most_is) ∙ (before_end (min n most) (at + 16) end block items block_is (let all = length-drop at items in omega arith) ∙ (lent most 16 at n items left whole e fits
              ∙ (ap (take most) body_is ∙ ap (λ k. take k (take n (drop 16 p.prefix))) most_is))),
        );
      }
