-- What two texts say, they say in one way.
use Rattle.std.proofs.Common.{◌≡◌, ◌≢◌, ℕ, ◌+◌, ◌^◌, ◌<◌, List, [], ◌∷◌, ◌++◌, append_assoc, length, get_or, drop, refl, ap, ◌∙◌, sym, arith, Bool, true, false, ℤ, pos, negsuc, decimal, inl, inr}
use Rattle.std.specs.Fmt.{signed_decimal}
use Rattle.std.specs.List.{AllByRecursion}
use Rattle.std.proofs.lemmas.Fmt.{decimal_injective, signed_decimal_injective}
use Rattle.std.proofs.lemmas.List.Prefix.{front_rest}
use Rattle.jiff_core.specs.Calendar.{IsWithin}
use Rattle.jiff_core.proofs.SignedLemmas.{signed_arith}
use Rattle.comtrade_read.specs.declared.data.PairSample.{PairSample}
use Rattle.comtrade_read.specs.Channels.{channels_text}
use Rattle.comtrade_read.specs.Configurations.{Configuration, IsConfiguration, IsNominal, IsRate, configuration_text}
use Rattle.comtrade_read.specs.Rows.{AreSamples, IsSample, flag_text, row_text, rows_text}
use Rattle.comtrade_read.proofs.DigitLemmas.{decimal-free, signed-free}
use Rattle.comtrade_read.proofs.ConfigLemmas.{configuration_parts, behind_station, behind_nominal, behind_samples}
use Rattle.comtrade_read.proofs.RowLemmas.{are_six, three, behind_values, row_said, row_same, with_values}

-- ---- the parts of one text are those of an equal one

head_same : (a b : ℕ) (r s : List ℕ) → a ∷ r ≡ b ∷ s → (a ≡ b) × (r ≡ s)
head_same a b r s e = (ap (λ l. get_or l 0 0) e, ap (drop 1) e)

field_same : (end : ℕ) (a b r s : List ℕ) → AllByRecursion (λ x. x ≢ end) a → AllByRecursion (λ x. x ≢ end) b → a ++ end ∷ r ≡ b ++ end ∷ s → (a ≡ b) × (r ≡ s)
field_same end [] [] r s free free' e = (refl, ap (drop 1) e)
field_same end [] (y ∷ b) r s free free' e = absurd (free'.0 (sym (head_same end y r (b ++ end ∷ s) e).0))
field_same end (x ∷ a) [] r s free free' e = absurd (free.0 (head_same x end (a ++ end ∷ r) s e).0)
field_same end (x ∷ a) (y ∷ b) r s free free' e =
    let first = head_same x y (a ++ end ∷ r) (b ++ end ∷ s) e in
    let rest = field_same end a b r s free.1 free'.1 first.1 in
    (rw (first.0, rest.0) refl, rest.1)

number_same : (end m n : ℕ) (r s : List ℕ) → end < 48 → m < 10 ^ 9 → n < 10 ^ 9 → decimal m ++ end ∷ r ≡ decimal n ++ end ∷ s → (m ≡ n) × (r ≡ s)
number_same end m n r s below m_small n_small e =
    let parts = field_same end (decimal m) (decimal n) r s (decimal-free end m m_small below) (decimal-free end n n_small below) e in
    (decimal_injective m n (omega arith) (omega arith) parts.0, parts.1)

signed_same : (y z : ℤ) → IsWithin 268435455 y → IsWithin 268435455 z → signed_decimal y ≡ signed_decimal z → y ≡ z
signed_same (pos m) (pos n) p q e = signed_decimal_injective (pos m) (pos n) (omega (arith, signed_arith)) (omega (arith, signed_arith)) e
signed_same (pos m) (negsuc n) p q e = signed_decimal_injective (pos m) (negsuc n) (omega (arith, signed_arith)) (omega (arith, signed_arith)) e
signed_same (negsuc m) (pos n) p q e = signed_decimal_injective (negsuc m) (pos n) (omega (arith, signed_arith)) (omega (arith, signed_arith)) e
signed_same (negsuc m) (negsuc n) p q e = signed_decimal_injective (negsuc m) (negsuc n) (omega (arith, signed_arith)) (omega (arith, signed_arith)) e

value_same : (y z : ℤ) (r s : List ℕ) → IsWithin 268435455 y → IsWithin 268435455 z → signed_decimal y ++ 44 ∷ r ≡ signed_decimal z ++ 44 ∷ s → (y ≡ z) × (r ≡ s)
value_same y z r s p q e =
    let parts = field_same 44 (signed_decimal y) (signed_decimal z) r s (signed-free y p) (signed-free z q) e in
    (signed_same y z p q parts.0, parts.1)

cancel : (front r s : List ℕ) → front ++ r ≡ front ++ s → r ≡ s
cancel front r s e = sym (front_rest (front ++ r) front r refl) ∙ front_rest (front ++ r) front s e

-- ---- configurations

nominal_small : (n : ℕ) → IsNominal n → n < 10 ^ 9
nominal_small n (inl e) = omega arith
nominal_small n (inr e) = omega arith

rate_small : (n : ℕ) → IsRate n → n < 10 ^ 9
rate_small n (inl e) = omega arith
rate_small n (inr e) = omega arith

pub configuration_same : (c d : Configuration) → IsConfiguration c → IsConfiguration d → configuration_text c ≡ configuration_text d → (c.rate ≡ d.rate) × (c.count ≡ d.count)
configuration_same c d is_c is_d e =
    let name = field_same 44 c.name d.name (channels_text ++ behind_station c) (channels_text ++ behind_station d) is_c.name.no_comma is_d.name.no_comma (sym (configuration_parts c) ∙ e ∙ configuration_parts d) in
    let station = cancel channels_text (behind_station c) (behind_station d) name.1 in
    let nominal = number_same 13 c.nominal d.nominal (10 ∷ 49 ∷ 13 ∷ 10 ∷ behind_nominal c) (10 ∷ 49 ∷ 13 ∷ 10 ∷ behind_nominal d) (omega arith) (nominal_small c.nominal is_c.nominal) (nominal_small d.nominal is_d.nominal) station in
    let behind : behind_nominal c ≡ behind_nominal d = ap (drop 4) nominal.1 in
    let rate = number_same 44 c.rate d.rate (decimal c.count ++ 13 ∷ 10 ∷ behind_samples c) (decimal d.count ++ 13 ∷ 10 ∷ behind_samples d) (omega arith) (rate_small c.rate is_c.rate) (rate_small d.rate is_d.rate) behind in
    let count = number_same 13 c.count d.count (10 ∷ behind_samples c) (10 ∷ behind_samples d) (omega arith) (omega (arith, is_c.count)) (omega (arith, is_d.count)) rate.1 in
    (rate.0, count.0)

-- ---- rows

flag_same : (g h : Bool) (r s : List ℕ) → flag_text g ++ r ≡ flag_text h ++ s → (g ≡ h) × (r ≡ s)
flag_same true true r s e = (refl, ap (drop 1) e)
flag_same false false r s e = (refl, ap (drop 1) e)
flag_same true false r s e = let first = (head_same 49 48 r s e).0 in absurd (omega arith)
flag_same false true r s e = let first = (head_same 48 49 r s e).0 in absurd (omega arith)

three_same : (x y z u v w : ℤ) (r s : List ℕ) → IsWithin 268435455 x → IsWithin 268435455 y → IsWithin 268435455 z → IsWithin 268435455 u → IsWithin 268435455 v → IsWithin 268435455 w
    → three x y z r ≡ three u v w s → (x ≡ u) × (y ≡ v) × (z ≡ w) × (r ≡ s)
three_same x y z u v w r s xs ys zs us vs ws e =
    let a = value_same x u (signed_decimal y ++ 44 ∷ (signed_decimal z ++ 44 ∷ r)) (signed_decimal v ++ 44 ∷ (signed_decimal w ++ 44 ∷ s)) xs us e in
    let b = value_same y v (signed_decimal z ++ 44 ∷ r) (signed_decimal w ++ 44 ∷ s) ys vs a.1 in
    let c = value_same z w r s zs ws b.1 in
    (a.0, b.0, c.0, c.1)

row_one : (i : ℕ) (s t : PairSample) (r q : List ℕ) → i < 10 ^ 9 → IsSample s → IsSample t → row_text i s ++ r ≡ row_text i t ++ q → (s ≡ t) × (r ≡ q)
row_one i s t r q small is_s is_t e =
    let six = are_six s.values is_s.six is_s.values in
    let other = are_six t.values is_t.six is_t.values in
    let voltages = three six.d six.e six.f (behind_values s.good s.trip r) in
    let voltages' = three other.d other.e other.f (behind_values t.good t.trip q) in
    let times = three six.a six.b six.c voltages in
    let times' = three other.a other.b other.c voltages' in
    let place = number_same 44 i i (decimal s.micros ++ 44 ∷ times) (decimal t.micros ++ 44 ∷ times') (omega arith) small small (sym (row_said i s r six) ∙ e ∙ row_said i t q other) in
    let micros = number_same 44 s.micros t.micros times times' (omega arith) (omega (arith, is_s.micros)) (omega (arith, is_t.micros)) place.1 in
    let current = three_same six.a six.b six.c other.a other.b other.c voltages voltages' six.each.0 six.each.1.0 six.each.1.1.0 other.each.0 other.each.1.0 other.each.1.1.0 micros.1 in
    let voltage = three_same six.d six.e six.f other.d other.e other.f (behind_values s.good s.trip r) (behind_values t.good t.trip q)
    six.each.1.1.1.0 six.each.1.1.1.1.0 six.each.1.1.1.1.1.0 other.each.1.1.1.0 other.each.1.1.1.1.0 other.each.1.1.1.1.1.0 current.3 in
    let good = flag_same s.good t.good (44 ∷ (flag_text s.trip ++ 13 ∷ 10 ∷ r)) (44 ∷ (flag_text t.trip ++ 13 ∷ 10 ∷ q)) voltage.3 in
    let word : flag_text s.trip ++ 13 ∷ 10 ∷ r ≡ flag_text t.trip ++ 13 ∷ 10 ∷ q = ap (drop 1) good.1 in
    let trip = flag_same s.trip t.trip (13 ∷ 10 ∷ r) (13 ∷ 10 ∷ q) word in (
      ap (λ values. with_values s values) six.same
          ∙ row_same t other s.micros six.a six.b six.c six.d six.e six.f s.good s.trip micros.0 current.0 current.1 current.2 voltage.0 voltage.1 voltage.2 good.0 trip.0,
      ap (drop 2) trip.1,
    )

pub rows_same : (i least other : ℕ) (xs ys : List PairSample) (tail end : List ℕ) → length xs ≡ length ys → i + length xs < 10 ^ 9 → AreSamples least xs → AreSamples other ys
    → rows_text i xs ++ tail ≡ rows_text i ys ++ end → xs ≡ ys
rows_same i least other [] [] tail end long small p q e = refl
rows_same i least other [] (y ∷ ys) tail end long small p q e = absurd (omega arith)
rows_same i least other (x ∷ xs) [] tail end long small p q e = absurd (omega arith)
rows_same i least other (x ∷ xs) (y ∷ ys) tail end long small p q e =
    let one = row_one i x y (rows_text (i + 1) xs ++ tail) (rows_text (i + 1) ys ++ end) (omega arith) p.1 q.1
    (sym (append_assoc (row_text i x) (rows_text (i + 1) xs) tail) ∙ e ∙ append_assoc (row_text i y) (rows_text (i + 1) ys) end) in
    let rest = rows_same (i + 1) (x.micros + 1) (y.micros + 1) xs ys tail end (omega arith) (omega arith) p.2 q.2 one.1 in
    rw (one.0, rest) refl
