-- Texts of digits, and their values.
use Rattle.std.proofs.Common.{◌≡◌, ◌≢◌, ℕ, zero, suc, ◌+◌, ◌-◌, ◌*◌, ◌/◌, ◌%◌, ◌^◌, ◌<◌, ◌≤◌, List, [], ◌∷◌, ◌++◌, length, get_or, drop, refl, ap, ◌∙◌, sym, arith, length-append, append_assoc}
use Rattle.std.specs.Fmt.{decimal, signed_decimal}
use Rattle.std.proofs.Common.{ℤ, pos, negsuc, ◌-ℤ◌, to_z, of_z, w64, FitsSigned}
use Rattle.std.proofs.lemmas.Int.{to_z-of_z}
use Rattle.jiff_core.specs.Calendar.{IsWithin}
use Rattle.jiff_core.proofs.SignedLemmas.{signed_arith, signed_casts}
use Rattle.std.specs.Int.{IsInRange}
use Rattle.std.specs.Char.{digit_value, is_ascii_digit}
use Rattle.std.proofs.Common.{true, false, ◌⊎◌, inl, inr, Option, Some, None, IfSome}
use Rattle.std.proofs.lemmas.Bool.Decides.{nat_tests}
use Rattle.std.proofs.lemmas.List.{append-nil}
use Rattle.std.proofs.lemmas.Int.Digits.{digits_value_push}
use Rattle.std.proofs.Math.Nat.{pow-suc}
use Rattle.std.specs.List.{AllByRecursion}
use Rattle.std.specs.Str.Parse.{AllDigits, digits_value, digits_value_after}
use Rattle.std.proofs.lemmas.Str.{digit_value_digit}
use Rattle.std.proofs.lemmas.Str.Parse.{IsNumeralModel, numerals_by_value, tells_digits, digits_value_short, digit_from_value}
use Rattle.std.proofs.lemmas.Fmt.{decimal-digits_value, digits_decimal, digits_value-decimal, length-decimal-le, decimal_digit, first_decimal, decimal_nonempty}
use Rattle.comtrade_read.specs.Numbers.{fixed}

pub own : IsNumeralModel (AllDigits 10) (digits_value 10)
own = numerals_by_value (AllDigits 10) tells_digits

pub value_of_digit : (c : ℕ) → 48 ≤ c → c ≤ 57 → digit_value c ≡ c - 48
value_of_digit c low high = let in_range : IsInRange 48 57 c = (low, high) in omega (arith, digit_value_digit c in_range)

pub all-push : (ds : List ℕ) (c : ℕ) → AllDigits 10 ds → 48 ≤ c → c ≤ 57 → AllDigits 10 (ds ++ c ∷ [])
all-push [] c all low high = (omega (arith, value_of_digit c low high), tt)
all-push (d ∷ ds) c all low high = (all.0, all-push ds c all.1 low high)

pub short_value : (ds : List ℕ) (k : ℕ) → AllDigits 10 ds → length ds ≤ k → digits_value 10 ds < 10 ^ k
short_value ds k all short = digits_value_short own ds k all short

pub digit_yes : (c : ℕ) → is_ascii_digit c ≡ true → (48 ≤ c) × (c ≤ 57)
digit_yes c h = grind (arith, nat_tests)

pub digit_no : (c : ℕ) → is_ascii_digit c ≡ false → IsInRange 48 57 c → ⊥
digit_no c h is = grind (arith, nat_tests)

-- digits without a needless leading zero are what is written of their value
pub numeral : (ds : List ℕ) → AllDigits 10 ds → length ds ≤ 9 → 0 < length ds → (get_or ds 0 0 ≡ 48 → length ds ≡ 1)
    → (ds ≡ decimal (digits_value 10 ds)) × (digits_value 10 ds < 10 ^ 9)
numeral ds all short some plain =
    let small = short_value ds 9 all short in
    (sym (decimal-digits_value own ds all some plain (omega arith)), small)

first_of : (n : ℕ) → n < 10 ^ 9 → get_or (decimal n) 0 0 ≡ 48 → length (decimal n) ≡ 1
first_of zero small zero_first = rw (decimal_digit 0 (omega arith)) refl
first_of (suc n) small zero_first = absurd (omega (arith, first_decimal (suc n) (omega arith) (omega arith), zero_first))

pub record IsNumeralOf (ds : List ℕ) (n : ℕ) : Type 0 where
  pub all : AllDigits 10 ds
  pub short : length ds ≤ 9
  pub some : 0 < length ds
  pub plain : get_or ds 0 0 ≡ 48 → length ds ≡ 1
  pub value : digits_value 10 ds ≡ n

pub numeral_of : (n : ℕ) (ds : List ℕ) → n < 10 ^ 9 → ds ≡ decimal n → IsNumeralOf ds n
numeral_of n ds small is = rw is (record {
  all = digits_decimal own n (omega arith);
  short = length-decimal-le 9 n (omega arith) small (omega arith);
  some = decimal_nonempty n (omega arith);
  plain = first_of n small;
  value = digits_value-decimal own n (omega arith);
})

-- ---- just so many digits

more_digits : (a c : ℕ) → 48 ≤ c → c ≤ 57 → ((a * 10 + digit_value c) / 10 ≡ a) × (48 + (a * 10 + digit_value c) % 10 ≡ c)
more_digits a c low high = rw (value_of_digit c low high) (omega arith, omega arith)

fixed_after : (j a k : ℕ) (ds : List ℕ) → AllDigits 10 ds → k ≡ j + length ds → fixed k (digits_value_after 10 a ds) ≡ fixed j a ++ ds
fixed_after j a k [] all is = let same : k ≡ j = omega arith in rw same (sym (append-nil (fixed j a)))
fixed_after j a k (c ∷ cs) all is =
    let range = digit_from_value c all.0 in
    let parts = more_digits a c range.0 range.1 in
    fixed_after (suc j) (a * 10 + digit_value c) k cs all.1 (omega arith) ∙ rw (parts.0, parts.1, append_assoc) refl

pub fixed_of : (ds : List ℕ) (k : ℕ) → AllDigits 10 ds → length ds ≡ k → (ds ≡ fixed k (digits_value 10 ds)) × (digits_value 10 ds < 10 ^ k)
fixed_of ds k all is = (sym (fixed_after 0 0 k ds all (omega arith)), short_value ds k all (omega arith))

pub record IsFixedOf (k : ℕ) (ds : List ℕ) (n : ℕ) : Type 0 where
  pub all : AllDigits 10 ds
  pub long : length ds ≡ k
  pub value : digits_value 10 ds ≡ n

tenth : (k n : ℕ) → n < 10 ^ suc k → n / 10 < 10 ^ k
tenth k n h = omega (arith, pow-suc 10 k)

pub fixed_is : (k n : ℕ) → n < 10 ^ k → IsFixedOf k (fixed k n) n
fixed_is zero n h = record { all = tt; long = refl; value = omega arith }
fixed_is (suc k) n h =
    let front = fixed_is k (n / 10) (tenth k n h) in
    let last : digit_value (48 + n % 10) ≡ n % 10 = omega (arith, value_of_digit (48 + n % 10) (omega arith) (omega arith)) in
    record {
      all = all-push (fixed k (n / 10)) (48 + n % 10) front.all (omega arith) (omega arith);
      long = omega (arith, length-append (fixed k (n / 10)) ((48 + n % 10) ∷ []), front.long);
      value = digits_value_push 10 (fixed k (n / 10)) (48 + n % 10) ∙ rw (front.value, last) (omega arith);
    }

-- ---- no byte of these ends a field

pub no_digit : (end : ℕ) (ds : List ℕ) → (end < 48) ⊎ (57 < end) → AllDigits 10 ds → AllByRecursion (λ b. b ≢ end) ds
no_digit end [] apart all = tt
no_digit end (c ∷ cs) apart all =
    let range = digit_from_value c all.0 in
    ((λ same. elim apart [ inl below ↦ omega arith | inr above ↦ omega arith ]), no_digit end cs apart all.1)

pub decimal-free : (end n : ℕ) → n < 10 ^ 9 → end < 48 → AllByRecursion (λ b. b ≢ end) (decimal n)
decimal-free end n small below = let all : AllDigits 10 (decimal n) = (numeral_of n (decimal n) small refl).all in no_digit end (decimal n) (inl below) all

pub fixed-free : (end k n : ℕ) → n < 10 ^ k → (end < 48) ⊎ (57 < end) → AllByRecursion (λ b. b ≢ end) (fixed k n)
fixed-free end k n small apart = let all : AllDigits 10 (fixed k n) = (fixed_is k n small).all in no_digit end (fixed k n) apart all

pub signed-free : (z : ℤ) → IsWithin 268435455 z → AllByRecursion (λ b. b ≢ 44) (signed_decimal z)
signed-free (pos n) within = decimal-free 44 n (omega (arith, signed_arith)) (omega arith)
signed-free (negsuc n) within = ((λ same. omega arith), decimal-free 44 (suc n) (omega (arith, signed_arith)) (omega arith))

-- ---- what a reader of digits says of numbers

pub number-sound : (ds : List ℕ) (r : Option ℕ) → IfSome r (λ n. AllDigits 10 ds × (length ds ≤ 9) × (n ≡ digits_value 10 ds)) → 0 < length ds → (get_or ds 0 0 ≡ 48 → length ds ≡ 1)
    → IfSome r (λ n. (ds ≡ decimal n) × (n < 10 ^ 9))
number-sound ds None read some plain = tt
number-sound ds (Some n) read some plain = rw (read.2) (numeral ds read.0 read.1 some plain)

pub number-complete : (ds : List ℕ) (r : Option ℕ) → (AllDigits 10 ds → length ds ≤ 9 → r ≡ Some (digits_value 10 ds)) → (n : ℕ) → n < 10 ^ 9 → ds ≡ decimal n → r ≡ Some n
number-complete ds r read n small is =
    let of = numeral_of n ds small is in read of.all of.short ∙ ap (λ m. Some m) of.value

pub fixed-sound : (text bytes rest : List ℕ) (end width n : ℕ) → text ≡ bytes ++ end ∷ rest → AllDigits 10 bytes → length bytes ≡ width → n ≡ digits_value 10 bytes
    → (text ≡ fixed width n ++ end ∷ rest) × (n < 10 ^ width)
fixed-sound text bytes rest end width n is all long value =
    let parts = fixed_of bytes width all long in
    rw value (is ∙ ap (λ front. front ++ end ∷ rest) parts.0, parts.1)

-- ---- values below 0

first_digit : (n : ℕ) (behind : List ℕ) → n < 10 ^ 9 → 45 ∷ behind ≡ decimal n → ⊥
first_digit n behind small is =
    let all : AllDigits 10 (45 ∷ behind) = (numeral_of n (45 ∷ behind) small is).all in
    let range = digit_from_value 45 all.0 in omega arith

-- a value written with `-` is below 0
pub record IsBelow (z : ℤ) (behind : List ℕ) : Type 0 where
  pub less : ℕ
  pub value : z ≡ negsuc less
  pub size : behind ≡ decimal (suc less)
  pub small : suc less ≤ 268435455

pub below_zero : (z : ℤ) (bytes behind : List ℕ) → IsWithin 268435455 z → bytes ≡ 45 ∷ behind → bytes ≡ signed_decimal z → IsBelow z behind
below_zero (pos n) bytes behind within minus is = absurd (first_digit n behind (omega (arith, signed_arith)) (sym minus ∙ is))
below_zero (negsuc n) bytes behind within minus is = record {
  less = n;
  value = refl;
  size = ap (drop 1) (sym minus ∙ is);
  small = omega (arith, signed_arith);
}

pub negated : (n : ℕ) → suc n ≤ 268435455 → to_z w64 (of_z w64 (pos 0 -ℤ to_z w64 (suc n))) ≡ negsuc n
negated n small =
    let size : to_z w64 (suc n) ≡ pos (suc n) = omega (arith, signed_casts) in
    let then : FitsSigned w64 (negsuc n) = omega (arith, signed_arith) in
    let minus : pos 0 -ℤ pos (suc n) ≡ negsuc n = omega (arith, signed_arith) in
    ap (λ v. to_z w64 (of_z w64 (pos 0 -ℤ v))) size ∙ ap (λ v. to_z w64 (of_z w64 v)) minus ∙ to_z-of_z w64 (negsuc n) then

pub kept : (v : ℤ) → IsWithin 268435455 v → to_z w64 (of_z w64 v) ≡ v
kept v within = to_z-of_z w64 v (omega (arith, signed_arith, within))

pub some_same : {A : Type 0} (a b : A) → Some a ≡ Some b → a ≡ b
some_same a b is = cc

pub none_some : {A : Type 0} (a : A) → None ≡ Some a → ⊥
none_some a is = cc

pub some_map : {T : Type 0} (r : Option T) (P Q : T → Type 0) → ((x : T) → P x → Q x) → IfSome r P → IfSome r Q
some_map None P Q each h = tt
some_map (Some x) P Q each h = each x h
