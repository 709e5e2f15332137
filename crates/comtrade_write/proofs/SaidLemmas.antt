-- What is written of covered samples is a pair by the grammar.
use Rattle.std.proofs.Common.{◌≡◌, ℕ, ◌+◌, ◌*◌, ◌/◌, ◌%◌, ◌^◌, ◌<◌, ◌≤◌, Bool, true, false, inl, inr, refl, sym, ap, ◌∙◌, arith, List, [], ◌∷◌, ◌++◌, append_assoc, length, map, if◌then◌else◌, nat_le, ◌≢◌}
use Rattle.std.specs.Prelude.{◌&&◌, ◌==◌}
use Rattle.std.proofs.lemmas.Bool.{and_parts, leb-true}
use Rattle.std.proofs.lemmas.Bool.Decides.{nat_tests}
use Rattle.std.proofs.lemmas.List.{length-map}
use Rattle.std.specs.List.{concat, list_all, AllByRecursion}
use Rattle.std.proofs.lemmas.List.{append-nil}
use Rattle.relay_settings.specs.declared.types.Common.{Common}
use Rattle.relay_settings.specs.Ranges.{IsCommon, IsCycle, IsText}
use Rattle.comtrade_read.specs.Moments.{IsMoment}
use Rattle.comtrade_read.specs.Configurations.{IsName, IsNominal, IsRate, configuration_text}
use Rattle.comtrade_read.specs.Rows.{AreSamples, row_text, rows_text}
use Rattle.comtrade_read.specs.Pairs.{IsPair}
use Rattle.comtrade_write.specs.declared.covered.Recorded.{Recorded}
use Rattle.comtrade_write.specs.declared.covered.Span.{Span}
use Rattle.comtrade_write.specs.Moments.{moment_of}
use Rattle.comtrade_write.specs.ConfigTexts.{config_lines, configuration_of, plain_byte}
use Rattle.comtrade_write.specs.DataTexts.{micros_of, said_of, data_text, data_lines, lines_from}
use Rattle.comtrade_write.specs.Recordings.{first_number, span_of}
use Rattle.comtrade_write.specs.Said.{all_said}
use Rattle.comtrade_write.proofs.DayLemmas.{is_day}
use Rattle.comtrade_write.proofs.CoverLemmas.{Covers, covers-few}

-- ---- times

rate_of : (c : Common) → IsCommon c → IsRate c.rate
rate_of c is = by_cycle c.rate c.nominal c.n is.cycle
  where
    by_cycle : (rate nominal n : ℕ) → IsCycle rate nominal n → IsRate rate
    by_cycle rate nominal n (inl h) = inl h.0
    by_cycle rate nominal n (inr (inl h)) = inl h.0
    by_cycle rate nominal n (inr (inr h)) = inr h.0

nominal_of : (c : Common) → IsCommon c → IsNominal c.nominal
nominal_of c is = by_cycle c.rate c.nominal c.n is.cycle
  where
    by_cycle : (rate nominal n : ℕ) → IsCycle rate nominal n → IsNominal nominal
    by_cycle rate nominal n (inl h) = inl h.1
    by_cycle rate nominal n (inr (inl h)) = inr h.1
    by_cycle rate nominal n (inr (inr h)) = inl h.1

micros_rise : (rate first a b : ℕ) → IsRate rate → first ≤ a → a < b → micros_of rate first a + 1 ≤ micros_of rate first b
micros_rise rate first a b (inl is) low lt = rw is (omega arith)
micros_rise rate first a b (inr is) low lt = rw is (omega arith)

micros_most : (rate first a : ℕ) → IsRate rate → a ≤ first + 576 → micros_of rate first a ≤ 144000
micros_most rate first a (inl is) high = rw is (omega arith)
micros_most rate first a (inr is) high = rw is (omega arith)

micros_zero : (rate first : ℕ) → IsRate rate → micros_of rate first first ≡ 0
micros_zero rate first (inl is) = rw is (omega arith)
micros_zero rate first (inr is) = rw is (omega arith)

samples_said : (rate first low top least : ℕ) (rs : List Recorded) → IsRate rate → first ≤ low → top ≤ first + 577
    → ((n : ℕ) → low ≤ n → least ≤ micros_of rate first n) → Covers low top rs → AreSamples least (map (said_of rate first) rs)
samples_said rate first low top least [] is from to late covers = tt
samples_said rate first low top least (r ∷ rest) is from to late covers = (
  late r.number covers.0,
  record { six = refl; values = covers.2; micros = micros_most rate first r.number is (omega (arith, covers.1, to)) },
  samples_said rate first (r.number + 1) top (micros_of rate first r.number + 1) rest is (omega (arith, covers.0, from)) to
      (λ n h. micros_rise rate first r.number n is (omega (arith, covers.0, from)) (omega (arith, h))) covers.3,
)

-- ---- data

last_row : (row : List ℕ) → (row ++ 26 ∷ []) ++ [] ≡ (row ++ []) ++ 26 ∷ []
last_row row = simp append-nil

lines_same : (rate first i : ℕ) (r : Recorded) (rest : List Recorded) → concat (lines_from rate first i (r ∷ rest)) ≡ rows_text i (map (said_of rate first) (r ∷ rest)) ++ 26 ∷ []
unfolding data_text
lines_same rate first i r [] = last_row (row_text i (said_of rate first r))
lines_same rate first i r (q ∷ rest) =
    ap (λ row. row ++ concat (lines_from rate first (i + 1) (q ∷ rest))) (append-nil (row_text i (said_of rate first r)))
    ∙ ap (λ more. row_text i (said_of rate first r) ++ more) (lines_same rate first (i + 1) q rest)
    ∙ sym (append_assoc (row_text i (said_of rate first r)) (rows_text (i + 1) (map (said_of rate first) (q ∷ rest))) (26 ∷ []))

-- ---- configuration

nanos_few : (rate number : ℕ) → IsRate rate → number % rate * 1000000000 / rate < 10 ^ 9
nanos_few rate number (inl is) = rw is (omega arith)
nanos_few rate number (inr is) = rw is (omega arith)

is_moment : (c : Common) (number : ℕ) → IsRate c.rate → IsMoment (moment_of c number)
unfolding moment_of
is_moment c number is =
    let seconds = (c.start + number / c.rate) % 2 ^ 32 in
    record {
      date = is_day (seconds / 86400) (omega arith);
      clock = record {
        hours = omega arith;
        minutes = omega arith;
        seconds = omega arith;
        parts = omega (arith, nanos_few c.rate number is);
      };
    }

config_same : (name : List ℕ) (c : Common) (span : Span) → concat (config_lines name c span) ≡ configuration_text (configuration_of name c span)
unfolding config_lines configuration_text
config_same name c span = refl

-- ---- names

byte_plain : (b : ℕ) → (nat_le 33 b && nat_le b 126) ≡ true → (33 ≤ plain_byte b) × (plain_byte b ≤ 126) × (plain_byte b ≢ 44)
byte_plain b h = by_comma (b == 44) refl
  where
    by_comma : (t : Bool) → (b == 44) ≡ t → (33 ≤ (if t then 95 else b)) × ((if t then 95 else b) ≤ 126) × ((if t then 95 else b) ≢ 44)
    by_comma true is = (omega arith, omega arith, λ same. absurd (omega (arith, same)))
    by_comma false is =
        let parts = and_parts (nat_le 33 b) (nat_le b 126) h in
        (leb-true 33 b parts.0, leb-true b 126 parts.1, λ same. differs b same is)
      where
        differs : (n : ℕ) → n ≡ 44 → (n == 44) ≡ false → ⊥
        differs n same is = grind (arith, nat_tests)

bytes_plain : (name : List ℕ) → list_all (λ b. nat_le 33 b && nat_le b 126) name ≡ true
    → AllByRecursion (λ b. (33 ≤ b) × (b ≤ 126)) (map plain_byte name) × AllByRecursion (λ b. b ≢ 44) (map plain_byte name)
bytes_plain [] h = (tt, tt)
bytes_plain (b ∷ name) h =
    let parts = and_parts (nat_le 33 b && nat_le b 126) (list_all (λ b. nat_le 33 b && nat_le b 126) name) h in
    let here = byte_plain b parts.0 in
    let rest = bytes_plain name parts.1 in
    (((here.0, here.1), rest.0), (here.2, rest.1))

is_name : (name : List ℕ) → IsText 33 16 name → IsName (map plain_byte name)
is_name name is =
    let plain = bytes_plain name is.2 in
    record {
      short = (omega (arith, is.0, length-map name plain_byte), omega (arith, is.1, length-map name plain_byte));
      printable = plain.0;
      no_comma = plain.1;
    }

-- ---- the pair

pub pair_of : (name : List ℕ) (c : Common) (trip low top : ℕ) (rs : List Recorded) → IsCommon c → IsText 33 16 name → top ≤ low + 577 → Covers low top rs → 0 < length rs
    → IsPair (concat (config_lines name c (span_of trip rs))) (concat (data_lines c.rate (first_number rs) rs)) c.rate (all_said c.rate rs)
pair_of name c trip low top [] is named short covers some = absurd (omega arith)
pair_of name c trip low top (r ∷ rest) is named short covers some =
    let rated = rate_of c is in
    let span = span_of trip (r ∷ rest) in
    record {
      configuration = configuration_of name c span;
      ranges = record {
        name = is_name name named;
        nominal = nominal_of c is;
        rate = rated;
        count = (omega arith, omega (arith, covers-few low top (r ∷ rest) covers));
        first = is_moment c r.number rated;
        trip = is_moment c trip rated;
      };
      same_rate = refl;
      same_count = sym (length-map (r ∷ rest) (said_of c.rate r.number));
      times = samples_said c.rate r.number r.number top 0 (r ∷ rest) rated (omega arith) (omega (arith, covers.0)) (λ n h. omega arith) (omega arith, covers.1, covers.2, covers.3);
      begins = micros_zero c.rate r.number rated;
      config = config_same name c span;
      rows = lines_same c.rate r.number 1 r rest;
    }
