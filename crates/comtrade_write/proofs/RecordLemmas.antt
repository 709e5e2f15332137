-- What a recorder answers, by what its window holds.
use Rattle.std.proofs.Common.{◌≡◌, ◌∙◌, ℕ, zero, suc, ◌+◌, ◌-◌, ◌*◌, ◌<◌, ◌≤◌, refl, sym, ap, ap₂, subst, arith, List, [], ◌∷◌, ◌++◌, length, Option, Some, None, slice_get}
use Rattle.std.specs.Prelude.{◌==◌, if◌then◌else◌}
use Rattle.std.proofs.lemmas.List.{length-reverse}
use Rattle.relay_settings.specs.declared.types.Common.{Common}
use Rattle.comtrade_write.specs.declared.covered.Recorded.{Recorded}
use Rattle.comtrade_write.specs.declared.covered.Span.{Span}
use Rattle.comtrade_write.specs.declared.window.Window.{Window}
use Rattle.comtrade_write.specs.Covered.{trip_count, trip_number, covered_at}
use Rattle.comtrade_write.specs.ConfigTexts.{config_lines}
use Rattle.comtrade_write.specs.DataTexts.{data_text, data_lines}
use Rattle.comtrade_write.specs.Recordings.{first_number, span_of, covered_by, config_by}
use Rattle.comtrade_write.specs.KeptWindow.{kept_by, count_by, span_by, StandsFor}
use Rattle.comtrade_write.proofs.CoveredLemmas.{trip-counted, trip-uncounted, trip-covered}
use Rattle.comtrade_write.proofs.PlaceLemmas.{in-window, line-from}

span-is : (trip : ℕ) (items : List Recorded) (span : Span) → Some span ≡ span_by (Some trip) items → span ≡ span_of trip items
span-is trip [] span e = cc
span-is trip (r ∷ rest) span e = cc

-- where there is no span, nothing is covered
pub no-span : (trip : Option ℕ) (items : List Recorded) → span_by trip items ≡ None → count_by trip items ≡ 0
no-span None items e = refl
no-span (Some t) [] e = refl
no-span (Some t) (r ∷ rest) e = cc

-- a span counts what is covered
pub count-span : (trip : Option ℕ) (items : List Recorded) (span : Span) → Some span ≡ span_by trip items → count_by trip items ≡ span.count
count-span None items span e = cc
count-span (Some t) [] span e = cc
count-span (Some t) (r ∷ rest) span e =
    let whole = span-is t (r ∷ rest) span e in
    sym (ap (λ (s : Span). s.count) whole)

past-end : (items : List Recorded) (place : ℕ) → slice_get items place ≡ None → length items ≤ place
past-end [] place e = omega arith
past-end (r ∷ rest) zero e = cc
past-end (r ∷ rest) (suc place) e = omega (arith, past-end rest place e)

-- and no sample of those that are is missing
pub none-missing : (trip : Option ℕ) (items : List Recorded) (place : ℕ) → slice_get items place ≡ None → count_by trip items ≤ place
none-missing None items place e = omega arith
none-missing (Some t) items place e = past-end items place e

module _ (n k : ℕ) (rs : List Recorded) (w : Window) (stands : StandsFor n k rs w) where
  counted : count_by w.trip w.ring.items ≡ count_by (trip_number k rs) (kept_by n (trip_number k rs) rs)
  counted = ap₂ count_by stands.trip stands.items

  spanned : span_by w.trip w.ring.items ≡ span_by (trip_number k rs) (kept_by n (trip_number k rs) rs)
  spanned = ap₂ span_by stands.trip stands.items

  -- nothing is covered exactly where there were fewer trips
  pub count-none : (count : ℕ) → 1 ≤ w.k → count ≡ count_by w.trip w.ring.items → (count ≡ 0 → trip_count rs < k) × (trip_count rs < k → count ≡ 0)
  count-none count some is = by_trip (trip_number k rs) refl (is ∙ counted)
    where
      by_trip : (trip : Option ℕ) → trip_number k rs ≡ trip → count ≡ count_by trip (kept_by n trip rs) → (count ≡ 0 → trip_count rs < k) × (trip_count rs < k → count ≡ 0)
      by_trip None e f = (λ _. trip-uncounted k rs (subst (λ (m : ℕ). 1 ≤ m) stands.same_k some) e, λ _. f)
      by_trip (Some t) e f =
          let covered = trip-covered k t (t - 2 * n) (t + 4 * n) rs e (omega arith) (omega arith) in
          let long : 0 < count = rw (f, length-reverse) covered in
          (λ none. absurd (omega (arith, none)), λ fewer. absurd (omega (arith, trip-counted k t rs e)))

  pub count-is : (count : ℕ) → count ≡ count_by w.trip w.ring.items → count ≡ length (covered_by n (trip_number k rs) rs)
  count-is count is = is ∙ counted ∙ by_trip (trip_number k rs)
    where
      by_trip : (trip : Option ℕ) → count_by trip (kept_by n trip rs) ≡ length (covered_by n trip rs)
      by_trip None = refl
      by_trip (Some t) = refl

  -- what a span says, where there is one
  record HasSpan (span : Span) : Type 0 where
    began : trip_number k rs ≡ Some span.trip
    items : w.ring.items ≡ covered_at n span.trip rs
    is : span ≡ span_of span.trip (covered_at n span.trip rs)

  has-span : (span : Span) → Some span ≡ span_by w.trip w.ring.items → HasSpan span
  has-span span e = by_trip (trip_number k rs) refl (e ∙ spanned)
    where
      by_trip : (trip : Option ℕ) → trip_number k rs ≡ trip → Some span ≡ span_by trip (kept_by n trip rs) → HasSpan span
      by_trip None is f = cc
      by_trip (Some t) is f =
          let whole = span-is t (covered_at n t rs) span f in
          let same : t ≡ span.trip = sym (ap (λ (s : Span). s.trip) whole) in
          record {
            began = is ∙ ap Some same;
            items = stands.items ∙ ap (λ (o : Option ℕ). kept_by n o rs) is ∙ ap (λ (at : ℕ). covered_at n at rs) same;
            is = whole ∙ ap (λ (at : ℕ). span_of at (covered_at n at rs)) same;
          }

  -- the configuration
  pub config-is : (name : List ℕ) (common : Common) → common.n ≡ n → (span : Span) → Some span ≡ span_by w.trip w.ring.items →
      config_by name common (trip_number k rs) rs ≡ config_lines name common span
  config-is name common same span e =
      let has = has-span span e in
      ap (λ (o : Option ℕ). config_by name common o rs) has.began
      ∙ ap (λ (m : ℕ). config_lines name common (span_of span.trip (covered_at m span.trip rs))) same
      ∙ ap (config_lines name common) (sym has.is)

  -- a line of the data, and how near its sample is to the first
  pub data-is : (rate i : ℕ) (span : Span) (r : Recorded) → 1 ≤ i → Some span ≡ span_by w.trip w.ring.items → Some r ≡ slice_get w.ring.items (i - 1) →
      slice_get (data_lines rate (first_number (covered_by n (trip_number k rs) rs)) (covered_by n (trip_number k rs) rs)) (i - 1)
      ≡ Some (data_text rate span.first i r ++ (if i == span.count then 26 ∷ [] else []))
  data-is rate i span r some e at =
      let has = has-span span e in
      let items = covered_at n span.trip rs in
      let here : slice_get items (i - 1) ≡ Some r = sym (at ∙ ap (λ (xs : List Recorded). slice_get xs (i - 1)) has.items) in
      let place : 1 + (i - 1) ≡ i = omega arith in
      let last : (i - 1) + 1 ≡ i = omega arith in
      ap (λ (o : Option ℕ). slice_get (data_lines rate (first_number (covered_by n o rs)) (covered_by n o rs)) (i - 1)) has.began
      ∙ line-from rate (first_number items) 1 items (i - 1) r here
      ∙ ap₂ (λ (m j : ℕ). Some (data_text rate (first_number items) m r ++ (if j == length items then 26 ∷ [] else []))) place last
      ∙ ap₂ (λ (f c : ℕ). Some (data_text rate f i r ++ (if i == c then 26 ∷ [] else [])))
      (sym (ap (λ (s : Span). s.first) has.is)) (sym (ap (λ (s : Span). s.count) has.is))

  pub data-near : (place : ℕ) (span : Span) (r : Recorded) → n ≤ 96 → Some span ≡ span_by w.trip w.ring.items → Some r ≡ slice_get w.ring.items place →
      r.number ≤ span.first + 576
  data-near place span r small e at =
      let has = has-span span e in
      let items = covered_at n span.trip rs in
      let here : slice_get items place ≡ Some r = sym (at ∙ ap (λ (xs : List Recorded). slice_get xs place) has.items) in
      let high = in-window (span.trip - 2 * n) (span.trip + 4 * n) rs place r here in
      let low : span.trip - 2 * n ≤ span.first =
      subst (λ (m : ℕ). span.trip - 2 * n ≤ m) (sym (ap (λ (s : Span). s.first) has.is)) (lowest items refl here) in
      omega (arith, high, low)
    where
      lowest : (items : List Recorded) → covered_at n span.trip rs ≡ items → slice_get items place ≡ Some r → span.trip - 2 * n ≤ first_number items
      lowest [] f g = cc
      lowest (q ∷ rest) f g = (in-window (span.trip - 2 * n) (span.trip + 4 * n) rs 0 q (ap (λ (xs : List Recorded). slice_get xs 0) f)).0
