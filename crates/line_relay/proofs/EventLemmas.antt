-- Every event that a line tells has a text; and where nothing has changed, nothing is told.
use Rattle.std.proofs.Common.{◌≡◌, ℕ, zero, suc, ◌+◌, ◌<◌, ◌≤◌, Bool, true, false, refl, ap, ap₂, sym, ◌∙◌, arith, List, [], ◌∷◌, ◌++◌, Option, Some, None, slice_index, append_assoc, add-one, ◌*◌, ◌/◌, ◌%◌}
use Rattle.std.specs.Prelude.{if◌then◌else◌}
use Rattle.std.specs.List.{All}
use Rattle.std.proofs.Math.Nat.{mod-lt, div-lt_iff_lt-mul}
use Rattle.std.proofs.lemmas.List.{append-nil, map-append}
use Rattle.std.proofs.lemmas.List.Elements.{All-nil, All-map, All-push, All-append}
use Rattle.loop_impedance.specs.Masks.{has_bit}
use Rattle.sample_stream.specs.declared.numberer.Taken.TheVariants as taken
use Rattle.std.specs.Option.{option_map}
use Rattle.relay_settings.specs.declared.types.Common.{Common}
use Rattle.event_record.specs.Time.{time_of}
use Rattle.event_record.specs.declared.time.At.{At}
use Rattle.event_record.specs.declared.event.What.{What}
use Rattle.event_record.specs.declared.event.What.TheVariants.{First, Jump, Ready, Lost, SwingOn, SwingOff, FuseOn, FuseOff, Entered, Left, Operate, Trip, Reset, ConfRev, Length, Wild, Repeat, Late}
use Rattle.event_record.specs.declared.event.Event.{Event}
use Rattle.event_record.specs.declared.event.Event.TheVariants.{Line}
use Rattle.event_record.specs.Printable.{IsZoneLoop, IsPrintableWhat, IsPrintableAt, IsPrintable}
use Rattle.line_relay.specs.declared.front.Outcome.{Outcome}
use Rattle.line_relay.specs.declared.front.Outcome.TheVariants as outcomes
use Rattle.line_relay.specs.declared.events.LoopFact.{LoopFact}
use Rattle.line_relay.specs.declared.events.LoopFact.TheVariants.{Inside, Operates}
use Rattle.trip_logic.specs.declared.TripState.{TripState}
use Rattle.trip_logic.specs.Takes.{changed}
use Rattle.line_relay.specs.declared.shown.Shown.{Shown}
use Rattle.line_relay.specs.Facts.{Facts}
use Rattle.line_relay.specs.Shown.{facts_shown, trip_edge, shown_changes}
use Rattle.line_relay.specs.Events.{arrival, edge, begins, changes, told, concat_below, loop_edge, loop_edges, zone_edges}

one : (what : What) → IsPrintableWhat what → All IsPrintableWhat (what ∷ [])
one what h = All-push IsPrintableWhat [] what (All-nil IsPrintableWhat) h

pub arrival-printable : (counter : ℕ) (o : Outcome) → All IsPrintableWhat (arrival counter o)
arrival-printable counter (outcomes.ConfRev got) = one (ConfRev got) tt
arrival-printable counter (outcomes.Length got) = one (Length got) tt
arrival-printable counter (outcomes.Counter (taken.First number)) = one First tt
arrival-printable counter (outcomes.Counter (taken.Next number)) = All-nil IsPrintableWhat
arrival-printable counter (outcomes.Counter (taken.Jump number missing)) = one (Jump missing) tt
arrival-printable counter (outcomes.Counter taken.Repeat) = one (Repeat counter) tt
arrival-printable counter (outcomes.Counter (taken.Late behind)) = one (Late counter behind) tt
arrival-printable counter (outcomes.Counter taken.Wild) = one (Wild counter) tt

edge-printable : (on off : What) (before now : Bool) → IsPrintableWhat on → IsPrintableWhat off → All IsPrintableWhat (edge on off before now)
edge-printable on off false true is_on is_off = one on is_on
edge-printable on off true false is_on is_off = one off is_off
edge-printable on off false false is_on is_off = All-nil IsPrintableWhat
edge-printable on off true true is_on is_off = All-nil IsPrintableWhat

begins-printable : (on : What) (before now : Bool) → IsPrintableWhat on → All IsPrintableWhat (begins on before now)
begins-printable on false true is_on = one on is_on
begins-printable on false false is_on = All-nil IsPrintableWhat
begins-printable on true now is_on = All-nil IsPrintableWhat

concat-printable : (n : ℕ) (f : ℕ → List What) → ((k : ℕ) → k < n → All IsPrintableWhat (f k)) → All IsPrintableWhat (concat_below n f)
unfolding concat_below
concat-printable zero f each = All-nil IsPrintableWhat
concat-printable (suc n) f each = All-append IsPrintableWhat _ _ (concat-printable n f (λ k h. each k (omega arith))) (each n (omega arith))

loop_edge-printable : (fact : LoopFact) (zone lp : ℕ) (before now : Bool) → IsZoneLoop zone lp → All IsPrintableWhat (loop_edge fact zone lp before now)
loop_edge-printable Inside zone lp before now here = edge-printable (Entered zone lp) (Left zone lp) before now here here
loop_edge-printable Operates zone lp before now here = begins-printable (Operate zone lp) before now here

-- a zone from 1 to 5
loop_edges-printable : (fact : LoopFact) (zone before now : ℕ) → 1 ≤ zone → zone ≤ 5 → All IsPrintableWhat (loop_edges fact zone before now)
unfolding loop_edges
loop_edges-printable fact zone before now low high =
    concat-printable 6 _ (λ lp h. loop_edge-printable fact zone lp (has_bit lp before) (has_bit lp now) (low, high, omega arith))

zone_edges-printable : (fact : LoopFact) (before now : List ℕ) → All IsPrintableWhat (zone_edges fact before now)
unfolding zone_edges
zone_edges-printable fact before now =
    concat-printable 5 _ (λ place h. loop_edges-printable fact (place + 1) (slice_index before place) (slice_index now place) (omega arith) (omega arith))

trip-printable : (trip : TripState) → All IsPrintableWhat (trip_edge trip)
trip-printable trip = either trip.rose trip.fell
  where
    either : (rose fell : Bool) → All IsPrintableWhat (if rose then Trip ∷ [] else if fell then Reset ∷ [] else [])
    either true fell = one Trip tt
    either false true = one Reset tt
    either false false = All-nil IsPrintableWhat

pub changes-printable : (before now : Shown) (trip : TripState) → All IsPrintableWhat (shown_changes before now trip)
changes-printable before now trip =
    All-append IsPrintableWhat _ _
    (All-append IsPrintableWhat _ _
    (All-append IsPrintableWhat _ _
    (All-append IsPrintableWhat _ _
    (All-append IsPrintableWhat _ _
    (edge-printable Ready Lost before.ready now.ready tt tt)
    (edge-printable SwingOn SwingOff before.swing now.swing tt tt))
    (edge-printable FuseOn FuseOff before.fuse now.fuse tt tt))
    (zone_edges-printable Inside before.inside now.inside))
    (zone_edges-printable Operates before.operate now.operate))
    (trip-printable trip)

-- what is shown and the trip tell the changes of the facts
pub shown_changes-are : (before now : Shown) (trip : TripState) (was : Bool) → trip ≡ changed was trip.on →
    shown_changes before now trip ≡ changes (facts_shown before was) (facts_shown now trip.on)
shown_changes-are before now trip was e =
    ap (λ whats. edge Ready Lost before.ready now.ready ++ edge SwingOn SwingOff before.swing now.swing ++ edge FuseOn FuseOff before.fuse now.fuse
    ++ zone_edges Inside before.inside now.inside ++ zone_edges Operates before.operate now.operate ++ whats) (ap trip_edge e ∙ either was trip.on)
  where
    either : (was on : Bool) → trip_edge (changed was on) ≡ edge Trip Reset was on
    either true true = refl
    either true false = refl
    either false true = refl
    either false false = refl

pub told-printable : (at : Option At) (whats : List What) → IsPrintableAt at → All IsPrintableWhat whats → All IsPrintable (told at whats)
told-printable at whats moment each = All-map IsPrintable (λ what. Line at what) whats (λ k d lt. (moment, each k d lt))

-- where nothing has changed
edge-same : (on off : What) (b : Bool) → edge on off b b ≡ []
edge-same on off true = refl
edge-same on off false = refl

begins-same : (on : What) (b : Bool) → begins on b b ≡ []
begins-same on true = refl
begins-same on false = refl

pub concat-none : (n : ℕ) (f : ℕ → List What) → ((k : ℕ) → f k ≡ []) → concat_below n f ≡ []
unfolding concat_below
concat-none zero f none = refl
concat-none (suc n) f none = ap₂ (λ xs ys. xs ++ ys) (concat-none n f none) (none n)

loop_edge-same : (fact : LoopFact) (zone lp : ℕ) (b : Bool) → loop_edge fact zone lp b b ≡ []
loop_edge-same Inside zone lp b = edge-same (Entered zone lp) (Left zone lp) b
loop_edge-same Operates zone lp b = begins-same (Operate zone lp) b

pub loop_edges-same : (fact : LoopFact) (zone mask : ℕ) → loop_edges fact zone mask mask ≡ []
unfolding loop_edges
loop_edges-same fact zone mask = concat-none 6 _ (λ lp. loop_edge-same fact zone lp (has_bit lp mask))

zone_edges-same : (fact : LoopFact) (masks : List ℕ) → zone_edges fact masks masks ≡ []
unfolding zone_edges
zone_edges-same fact masks = concat-none 5 _ (λ place. loop_edges-same fact (place + 1) (slice_index masks place))

pub changes-same : (facts : Facts) → changes facts facts ≡ []
changes-same facts =
    rw (
      edge-same Ready Lost facts.ready,
      edge-same SwingOn SwingOff facts.swing,
      edge-same FuseOn FuseOff facts.fuse,
      zone_edges-same Inside facts.inside,
      zone_edges-same Operates facts.operate,
      edge-same Trip Reset facts.trip,
    ) refl

-- what a loop has told so far
pub told_start : (at : Option At) (f : ℕ → List What) (start : List Event) → start ≡ start ++ told at (concat_below 0 f)
unfolding concat_below
told_start at f start = sym (append-nil start)

pub told_next : (at : Option At) (n : ℕ) (f : ℕ → List What) (start before after : List Event) (now : List What) →
    before ≡ start ++ told at (concat_below n f) → after ≡ before ++ told at now → now ≡ f n → after ≡ start ++ told at (concat_below (n + 1) f)
unfolding concat_below
told_next at n f start before after now b a e =
    a ∙ ap₂ (λ xs ys. xs ++ told at ys) b e
    ∙ append_assoc start (told at (concat_below n f)) (told at (f n))
    ∙ ap (λ xs. start ++ xs) (sym (map-append (λ what. Line at what) (concat_below n f) (f n)))
    ∙ ap (λ k. start ++ told at (concat_below k f)) (sym (add-one n))

pub told_same : (at : Option At) (n : ℕ) (f : ℕ → List What) (start before : List Event) →
    before ≡ start ++ told at (concat_below n f) → [] ≡ f n → before ≡ start ++ told at (concat_below (n + 1) f)
told_same at n f start before b e = told_next at n f start before before [] b (sym (append-nil before)) e

-- what is told in turn is told as one
pub told_append : (at : Option At) (start before after : List Event) (xs ys : List What) →
    before ≡ start ++ told at xs → after ≡ before ++ told at ys → after ≡ start ++ told at (xs ++ ys)
told_append at start before after xs ys b a =
    a ∙ ap (λ zs. zs ++ told at ys) b ∙ append_assoc start (told at xs) (told at ys) ∙ ap (λ zs. start ++ zs) (sym (map-append (λ what. Line at what) xs ys))

pub told_end : (at : Option At) (n m : ℕ) (f : ℕ → List What) (start before : List Event) →
    before ≡ start ++ told at (concat_below n f) → n ≡ m → before ≡ start ++ told at (concat_below m f)
told_end at n m f start before b e = b ∙ ap (λ k. start ++ told at (concat_below k f)) e

-- a time has less than a second of nanoseconds
nanos-below : (rate count : ℕ) → 1 < rate → count < rate → count * 1000000000 / rate < 1000000000
nanos-below rate count rated h =
    let positive : 0 < rate = omega arith in
    let below : count * 1000000000 < 1000000000 * rate = omega arith in
    (div-lt_iff_lt-mul {k = rate} {x = count * 1000000000} {y = 1000000000} positive).1 below

pub time-printable : (common : Common) (last : Option ℕ) → 1 < common.rate → IsPrintableAt (option_map (time_of common) last)
time-printable common None rated = tt
time-printable common (Some number) rated = nanos-below common.rate (number % common.rate) rated (mod-lt number (omega arith))

-- nothing is told where what was shown is shown again
pub shown_changes-same : (before now : Shown) (trip : TripState) → trip.rose ≡ false → trip.fell ≡ false → before ≡ now → shown_changes before now trip ≡ []
shown_changes-same before now trip rose fell same =
    ap (λ (b : Shown). shown_changes b now trip) same
    ∙ rw (edge-same Ready Lost now.ready, edge-same SwingOn SwingOff now.swing, edge-same FuseOn FuseOff now.fuse, zone_edges-same Inside now.inside, zone_edges-same Operates now.operate, rose, fell) refl
