-- The trips after one more sample, and the numbers that bound what they tell.
use Rattle.std.proofs.Common.{◌≡◌, ◌∙◌, ℕ, ◌+◌, ◌-◌, ◌<◌, ◌≤◌, Bool, true, false, not, ◌&&◌, ◌||◌, refl, sym, ap, arith, List, [], ◌∷◌, ◌++◌, Option, Some, None, inl, inr}
use Rattle.std.specs.Prelude.{if◌then◌else◌, nat_le, nat_lt, ◌==◌, is_some, slice_get}
use Rattle.std.specs.Option.{option_or}
use Rattle.std.proofs.lemmas.Bool.{true≢false, cases_Bool, and_right, lt-leb, le-leb, lt-ltb, leb-true, leb-false, ne_eqb}
use Rattle.std.proofs.lemmas.Option.{none-some, same_Some, option_and_then_some}
use Rattle.sample_windows.specs.Numbered.{Rises}
use Rattle.sample_windows.proofs.NumberedLemmas.{Rises-older}
use Rattle.breaker_guard.specs.declared.waits.Waits.{Waits}
use Rattle.breaker_guard.specs.declared.event.GuardWhat.{GuardWhat}
use Rattle.breaker_guard.specs.declared.event.GuardWhat.TheVariants.{Final, Fail, Reclose}
use Rattle.breaker_guard.specs.GuardTakes.{GuardTake, take_of, number_of, trip_now}
use Rattle.breaker_guard.specs.TripSpans.{TripSpan, begun, with_sample, trips_of, rises_at, first_where, reset_of}
use Rattle.breaker_guard.specs.Guarding.{listed, is_number, is_reclaiming, fails_at, dead_until, reclosings, is_final, recloses_at, told_at}
use Rattle.breaker_guard.specs.KeptWatch.{closed_of, reclaims}

pub or_none : (o : Option ℕ) → option_or o None ≡ o
or_none None = refl
or_none (Some x) = refl

-- ---- whether the trip stands

abbrev pub stands_by : List TripSpan → Bool
stands_by [] = false
stands_by (trip ∷ older) = not (is_some (reset_of trip))

-- the trips after one more sample, where the trip stood before or not
abbrev pub next_trips : GuardTake → Bool → List TripSpan → List TripSpan
next_trips t was trips = if t.trip && not was then begun t ∷ trips else with_sample t trips

some-reset : (o : Option ℕ) (n : ℕ) → false ≡ not (is_some (option_or o (Some n)))
some-reset None n = refl
some-reset (Some x) n = refl

stands-next : (number : ℕ) (trip flowing was : Bool) (trips : List TripSpan) → was ≡ stands_by trips →
    trip ≡ stands_by (next_trips (take_of number trip flowing) was trips)
stands-next number true flowing false trips e = refl
stands-next number true flowing true [] e = absurd (true≢false e)
stands-next number true flowing true (trip ∷ older) e = e ∙ ap (λ o. not (is_some o)) (sym (or_none (reset_of trip)))
stands-next number false flowing was [] e = refl
stands-next number false flowing was (trip ∷ older) e = some-reset (reset_of trip) number

pub stands-is : (takes : List GuardTake) → trip_now takes ≡ stands_by (trips_of takes)
stands-is [] = refl
stands-is (t ∷ older) = stands-next t.number t.trip t.flowing (trip_now older) (trips_of older) (stands-is older)

-- ---- numbers

abbrev pub IsWithin : ℕ → ℕ → List GuardTake → Type 0
IsWithin low n [] = Unit {0}
IsWithin low n (t ∷ older) = (low ≤ t.number) × (t.number < n) × IsWithin low n older

-- a trip's samples lie from its rise on, below a number
pub record IsSpan (n : ℕ) (trip : TripSpan) : Type 0 where
  pub rise : trip.rise < n
  pub samples : IsWithin trip.rise n trip.samples

-- and each trip's below the next one's rise
abbrev pub AreBelow : ℕ → List TripSpan → Type 0
AreBelow n [] = Unit {0}
AreBelow n (trip ∷ older) = IsSpan n trip × AreBelow trip.rise older

abbrev IsUnder : ℕ → List GuardTake → Type 0
IsUnder n [] = Unit {0}
IsUnder n (t ∷ older) = t.number < n

under-older : (t : GuardTake) (older : List GuardTake) → Rises number_of (t ∷ older) → IsUnder t.number older
under-older t [] r = tt
under-older t (u ∷ older) r = r.0

within-more : (low n m : ℕ) (samples : List GuardTake) → n ≤ m → IsWithin low n samples → IsWithin low m samples
within-more low n m [] h w = tt
within-more low n m (t ∷ older) h w = (w.0, omega (arith, w.1), within-more low n m older h w.2)

below-next : (t : GuardTake) (n : ℕ) (b : Bool) (trips : List TripSpan) → t.number < n → AreBelow t.number trips →
    AreBelow n (if b then begun t ∷ trips else with_sample t trips)
below-next t n true trips u h = (record { rise = u; samples = (omega arith, u, tt) }, h)
below-next t n false [] u h = tt
below-next t n false (trip ∷ older) u h =
    let r : trip.rise < t.number = h.0.rise in
    (record { rise = omega (arith, r); samples = (omega (arith, r), u, within-more trip.rise t.number n trip.samples (omega arith) h.0.samples) }, h.1)

are-below : (takes : List GuardTake) → Rises number_of takes → (n : ℕ) → IsUnder n takes → AreBelow n (trips_of takes)
are-below [] r n u = tt
are-below (t ∷ older) r n u =
    below-next t n (rises_at t older) (trips_of older) u (are-below older (Rises-older number_of t older r) t.number (under-older t older r))

-- the trips before a sample lie below its number
pub below-newest : (t : GuardTake) (older : List GuardTake) → Rises number_of (t ∷ older) → AreBelow t.number (trips_of older)
below-newest t older r = are-below older (Rises-older number_of t older r) t.number (under-older t older r)

-- ---- the first sample that passes

pub first-within : (test : GuardTake → Bool) (low n : ℕ) (samples : List GuardTake) → IsWithin low n samples →
    (x : ℕ) → first_where test samples ≡ Some x → (low ≤ x) × (x < n)
first-within test low n [] w x e = absurd (none-some x e)
first-within test low n (t ∷ older) w x e = either (first_where test older) (test t) (first-within test low n older w.2) x e
  where
    either : (o : Option ℕ) (b : Bool) → ((y : ℕ) → o ≡ Some y → (low ≤ y) × (y < n)) → (z : ℕ) → option_or o (if b then Some t.number else None) ≡ Some z → (low ≤ z) × (z < n)
    either (Some y) b h z e = h z e
    either None true h z e = (let same : t.number ≡ z = same_Some _ _ e in (omega (arith, w.0), omega (arith, w.1)))
    either None false h z e = absurd (none-some z e)

pub none-yet : (low n bound : ℕ) (samples : List GuardTake) → IsWithin low n samples → n ≤ bound →
    first_where (λ t. nat_le bound t.number) samples ≡ None
none-yet low n bound [] w h = refl
none-yet low n bound (t ∷ older) w h = rw (none-yet low n bound older w.2 h, lt-leb bound t.number (omega (arith, w.1))) refl

unless-some : (b : Bool) (o : Option ℕ) (x : ℕ) → (if b then None else o) ≡ Some x → o ≡ Some x
unless-some true o x e = absurd (none-some x e)
unless-some false o x e = e

module _ (waits : Waits) (n : ℕ) (trip : TripSpan) (is : IsSpan n trip) where
  pub fails-within : (x : ℕ) → fails_at waits trip ≡ Some x → (trip.rise ≤ x) × (x < n)
  fails-within x e = first-within _ trip.rise n trip.samples is.samples x e

  pub dead-within : (x : ℕ) → dead_until waits trip ≡ Some x → (trip.rise ≤ x) × (x < n)
  dead-within x e =
      option_and_then_some (λ reset. first_where (λ t. nat_le (reset + waits.dead) t.number) trip.samples) (reset_of trip) x e
      (λ reset at found. first-within _ trip.rise n trip.samples is.samples x found)

  pub recloses-within : (older : List TripSpan) (x : ℕ) → recloses_at waits trip older ≡ Some x → (trip.rise ≤ x) × (x < n)
  recloses-within older x e = dead-within x (unless-some (is_some (fails_at waits trip) || is_final waits trip older) (dead_until waits trip) x e)

-- ---- the reclaim time

abbrev AllUnder : ℕ → List ℕ → Type 0
AllUnder n [] = Unit {0}
AllUnder n (e ∷ es) = (e < n) × AllUnder n es

push-under : (n : ℕ) (o : Option ℕ) (es : List ℕ) → ((x : ℕ) → o ≡ Some x → x < n) → AllUnder n es → AllUnder n (listed o ++ es)
push-under n None es f h = h
push-under n (Some x) es f h = (f x refl, h)

closings-under : (waits : Waits) (n m : ℕ) (trips : List TripSpan) → AreBelow n trips → n ≤ m → AllUnder m (reclosings waits trips)
closings-under waits n m [] h l = tt
closings-under waits n m (trip ∷ older) h l =
    push-under m (recloses_at waits trip older) (reclosings waits older)
    (λ x e. (let b = recloses-within waits n trip h.0 older x e in let u : x < n = b.1 in omega arith))
    (closings-under waits trip.rise m older h.1 (omega (arith, h.0.rise)))

-- where it is over for a bound of them, it is for each
reclaim-over : (reclaim number bound : ℕ) (es : List ℕ) → AllUnder bound es → bound + reclaim < number → is_reclaiming reclaim number es ≡ false
reclaim-over reclaim number bound [] h l = refl
reclaim-over reclaim number bound (e ∷ es) h l =
    rw (reclaim-over reclaim number bound es h.1 l, and_right (nat_lt e number) (nat_le number (e + reclaim)) (lt-leb number (e + reclaim) (omega (arith, h.0)))) refl

-- the newest reclosing decides
pub reclaims-are : (waits : Waits) (n number : ℕ) (trips : List TripSpan) → AreBelow n trips → n ≤ number →
    is_reclaiming waits.reclaim number (reclosings waits trips) ≡ reclaims waits.reclaim number (closed_of waits trips)
reclaims-are waits n number [] h l = refl
reclaims-are waits n number (trip ∷ older) h l =
    let early : trip.rise ≤ number = omega (arith, h.0.rise) in
    either (reclaims-are waits trip.rise number older h.1 early) (recloses_at waits trip older) (recloses-within waits n trip h.0 older)
  where
    either : is_reclaiming waits.reclaim number (reclosings waits older) ≡ reclaims waits.reclaim number (closed_of waits older) →
        (o : Option ℕ) → ((x : ℕ) → o ≡ Some x → (trip.rise ≤ x) × (x < n)) →
        is_reclaiming waits.reclaim number (listed o ++ reclosings waits older) ≡ reclaims waits.reclaim number (slice_get (listed o ++ reclosings waits older) 0)
    either rest None f = rest
    either rest (Some x) f =
        let after : x < n = (f x refl).1 in
        let before : trip.rise ≤ x = (f x refl).0 in
        elim (cases_Bool (nat_le number (x + waits.reclaim))) [
          | inl e ↦ (let runs : number ≤ x + waits.reclaim = leb-true number (x + waits.reclaim) e in
              rw (lt-ltb x number (omega arith), e, le-leb (number - x) waits.reclaim (omega arith)) refl)
          | inr e ↦ (let over : x + waits.reclaim < number = leb-false number (x + waits.reclaim) e in
              rw (e, and_right (nat_lt x number) false refl, lt-leb (number - x) waits.reclaim (omega arith))
              (reclaim-over waits.reclaim number trip.rise (reclosings waits older) (closings-under waits trip.rise trip.rise older h.1 (omega arith)) (omega arith)))
        ]

-- ---- what is told

abbrev pub whats : Bool → Bool → Bool → List GuardWhat → List GuardWhat
whats final' fails recloses rest =
    ((if final' then Final ∷ [] else []) ++ (if fails then Fail ∷ [] else []) ++ (if recloses then Reclose ∷ [] else [])) ++ rest

pub whats-same : (f f' g g' h h' : Bool) (rest rest' : List GuardWhat) → f ≡ f' → g ≡ g' → h ≡ h' → rest ≡ rest' → whats f g h rest ≡ whats f' g' h' rest'
whats-same f f' g g' h h' rest rest' p q r s =
    ap (λ b. whats b g h rest) p ∙ ap (λ b. whats f' b h rest) q ∙ ap (λ b. whats f' g' b rest) r ∙ ap (whats f' g' h') s

pub not-number : (o : Option ℕ) (n number : ℕ) → ((x : ℕ) → o ≡ Some x → x < n) → n ≤ number → is_number number o ≡ false
not-number None n number f h = refl
not-number (Some x) n number f h = ne_eqb x number (λ e. (let u : x < n = f x refl in absurd (omega arith)))

-- trips below a number tell nothing there
pub none-told : (waits : Waits) (n number : ℕ) (trips : List TripSpan) → AreBelow n trips → n ≤ number → told_at waits number trips ≡ []
none-told waits n number [] h l = refl
none-told waits n number (trip ∷ older) h l =
    whats-same _ false _ false _ false _ []
    (and_right (is_final waits trip older) (trip.rise == number) (ne_eqb trip.rise number (λ e. (let u : trip.rise < n = h.0.rise in absurd (omega arith)))))
    (not-number (fails_at waits trip) n number (λ x e. (fails-within waits n trip h.0 x e).1) l)
    (not-number (recloses_at waits trip older) n number (λ x e. (recloses-within waits n trip h.0 older x e).1) l)
    (none-told waits trip.rise number older h.1 (omega (arith, h.0.rise)))
