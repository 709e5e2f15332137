-- The header of a pcap file, and the records behind it.
use Rattle.std.proofs.Common.{◌≡◌, ℕ, ◌≤◌, ◌<◌, ◌⊎◌, inl, inr, Bool, true, false, List, [], ◌∷◌, ◌++◌, length, length-append, sym, ap, ◌∙◌, arith, refl}
use Rattle.std.specs.Prelude.{Some, None, nat_lt, if◌then◌else◌}
use Rattle.std.specs.Option.{option_map}
use Rattle.std.proofs.lemmas.Bool.Decides.{nat_tests}
use Rattle.capture_feed.specs.Pcap.{pcap_order}
use Rattle.capture_feed.specs.Captures.{Format, Pcap, Pcapng, header_format, format, records, records_in}
use Rattle.capture_feed.specs.Pcapng.{is_pcapng_header}
use Rattle.capture_feed.specs.Left.{HasNoHeader}
use Rattle.capture_feed.proofs.Asking.{whole_is, either_way}

header_format-prefix : (xs ys : List ℕ) → 24 ≤ length xs → header_format (xs ++ ys) ≡ header_format xs
header_format-prefix (a ∷ b ∷ c ∷ d ∷ e ∷ f ∷ g ∷ h ∷ i ∷ j ∷ k ∷ l ∷ m ∷ n ∷ o ∷ p ∷ q ∷ r ∷ s ∷ t ∷ u ∷ v ∷ w ∷ x ∷ rest) ys long = refl
header_format-prefix xs ys long = absurd (omega arith)

pub long_format : (xs : List ℕ) → 24 ≤ length xs → format xs ≡ header_format xs
long_format xs long =
    let enough : nat_lt (length xs) 24 ≡ false = grind (arith, nat_tests) in
    ap (λ (b : Bool). if b then None else header_format xs) enough

pub short_format : (xs : List ℕ) → length xs < 24 → format xs ≡ None
short_format xs short =
    let few : nat_lt (length xs) 24 ≡ true = grind (arith, nat_tests) in
    ap (λ (b : Bool). if b then None else header_format xs) few

-- the format is known from the first 24 bytes
pub format-prefix : (xs ys : List ℕ) → 24 ≤ length xs → format (xs ++ ys) ≡ header_format xs
format-prefix xs ys long = let len = length-append xs ys in long_format (xs ++ ys) (omega arith) ∙ header_format-prefix xs ys long

-- the records of a file with this header
pub records-header : (limit : ℕ) (f : Format) (xs more : List ℕ) → 24 ≤ length xs → header_format xs ≡ Some f → records (xs ++ more) limit ≡ Some (records_in f limit (xs ++ more))
records-header limit f xs more long known =
    ap (λ o. option_map (λ format. records_in format limit (xs ++ more)) o) (format-prefix xs more long ∙ known)

-- no header stands there
pub no_header : (whole read left : List ℕ) → whole ≡ read ++ left → (24 ≤ length read) ⊎ (left ≡ []) → format read ≡ None → HasNoHeader whole left
no_header whole read left e enough none = record {
  prefix = read;
  is = e;
  enough = enough;
  none = none;
  records = λ limit. ap (λ o. option_map (λ format. records_in format limit whole) o) (elim (either_way 24 (length read)) [
    | inl long ↦ ap format e ∙ (format-prefix read left long ∙ (sym (long_format read long) ∙ none))
    | inr short ↦ elim enough [ inl long ↦ absurd (omega arith) | inr ended ↦ ap format (whole_is whole read left e ended) ∙ none ]
  ]);
}

pub pcapng_format : (xs : List ℕ) → is_pcapng_header xs ≡ true → header_format xs ≡ Some Pcapng
pcapng_format xs h = ap (λ (b : Bool). if b then Some Pcapng else option_map Pcap (pcap_order xs)) h

pub pcap_format : (xs : List ℕ) → is_pcapng_header xs ≡ false → header_format xs ≡ option_map Pcap (pcap_order xs)
pcap_format xs h = ap (λ (b : Bool). if b then Some Pcapng else option_map Pcap (pcap_order xs)) h
