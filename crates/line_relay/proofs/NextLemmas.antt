-- One more sample: what each part of a line has taken, and what holds then.
use Rattle.std.proofs.Common.{◌≡◌, ◌≢◌, ℕ, suc, ◌+◌, ◌-◌, ◌≤◌, Bool, true, false, not, ◌&&◌, ◌||◌, ◌==◌, refl, sym, ap, ◌∙◌, arith, List, [], ◌∷◌, Option, Some, None, inl, inr, subst}
use Rattle.std.specs.Prelude.{if◌then◌else◌, ◌*◌, is_some}
use Rattle.std.proofs.lemmas.Bool.Decides.{nat_tests}
use Rattle.std.specs.Option.{option_map}
use Rattle.std.proofs.lemmas.Bool.{cases_Bool, and_left, and_right, lt-leb}
use Rattle.sample_windows.specs.Below.{any_below}
use Rattle.sample_windows.specs.Windows.{at_each}
use Rattle.sample_windows.specs.Numbered.{Rises, held_for, run_of, of_run}
use Rattle.sample_windows.proofs.BelowLemmas.{any_below_none}
use Rattle.sample_windows.proofs.NumberedLemmas.{held_for-run, held_for-gap}
use Rattle.sample_windows.proofs.RunLemmas.{of_run-ready, of_run-none, Rises-at_each}
use Rattle.relay_num.specs.declared.Cx.{Cx}
use Rattle.relay_settings.specs.declared.types.Common.{Common}
use Rattle.relay_settings.specs.declared.types.SwingSettings.{SwingSettings}
use Rattle.relay_settings.specs.declared.types.FuseSettings.{FuseSettings}
use Rattle.relay_settings.specs.Settings.{PlainLine}
use Rattle.relay_settings.specs.Times.{samples}
use Rattle.memory_volt.specs.Polarising.{polarising}
use Rattle.memory_volt.proofs.NumberedLemmas.{polarising_numbered}
use Rattle.swing_block.specs.Swinging.{SwingTake, is_swing}
use Rattle.swing_block.specs.KeptSwing.{StandsFor as StandsForSwing}
use Rattle.swing_block.specs.declared.swing.Swing.{Swing}
use Rattle.swing_block.proofs.NumberedSwingLemmas.{is_swing_numbered}
use Rattle.supervise.specs.Fusing.{FuseTake, is_blown}
use Rattle.supervise.specs.KeptFuse.{StandsFor as StandsForFuse}
use Rattle.supervise.specs.declared.fuse.Fuse.{Fuse}
use Rattle.supervise.proofs.NumberedFuseLemmas.{is_blown_numbered}
use Rattle.zone_timers.specs.ZoneMasks.{zone_masks}
use Rattle.zone_timers.specs.Operate.{operated_masks}
use Rattle.zone_timers.proofs.OperateLemmas.{operates_numbered}
use Rattle.trip_logic.specs.Takes.{take_of as trip_take_of}
use Rattle.loop_impedance.specs.Masks.{mask, loop_mask}
use Rattle.goose_publish.specs.Publishing.{RisesTo}
use Rattle.line_relay.specs.declared.measured.Measured.{Measured}
use Rattle.line_relay.specs.LineSamples.{Numbered, number_of_sample, good_now, needed}
use Rattle.line_relay.specs.Guards.{is_ready_at, measured_at, is_low_at, plus_voltage_at, polarising_at, is_swing_by, is_swing_at, is_blown_by, is_blown_at, swing_place, is_unbalanced_at, has_negative_voltage, has_no_negative_current}
use Rattle.line_relay.specs.Inside.{is_inside, holds_of}
use Rattle.line_relay.specs.Operate.{is_inside_at, ground_delays, phase_delays, operates_at, trips_at, is_dead_at, is_without_current}
use Rattle.line_relay.specs.Facts.{Facts, inside_at, operate_at}
use Rattle.line_relay.specs.Points.{points_take}
use Rattle.line_relay.specs.KeptGuards.{next_run, SwingStandsFor, FuseStandsFor, swings_by, blows_by}
use Rattle.line_relay.specs.Decided.{inside_by, inside_masks_by, dead_by, trips_by}
use Rattle.line_relay.specs.KeptLine.{volt_takes, swing_takes, fuse_takes}
use Rattle.line_relay.specs.Noted.{formed_at}
use Rattle.line_relay.proofs.FrontLemmas.{never_ready}

module _ (common : Common) (settings : PlainLine) (cycle : 2 ≤ common.n) where
  -- no sample is ready of none, or after a gap
  pub ready_none : is_ready_at common settings [] ≡ false
  ready_none = never_ready common.n settings.mimic (omega arith)

  pub ready_breaks : (x y : Numbered) (older : List Numbered) → Rises number_of_sample (x ∷ y ∷ older) → number_of_sample x ≢ number_of_sample y + 1 →
      is_ready_at common settings (x ∷ y ∷ older) ≡ false
  ready_breaks x y older r gap =
      let more : common.n + needed settings.mimic ≡ suc (common.n + needed settings.mimic - 1) = omega arith in
      ap (λ k. held_for number_of_sample k good_now (x ∷ y ∷ older)) more
      ∙ held_for-gap number_of_sample good_now refl (common.n + needed settings.mimic - 1) x (y ∷ older) r gap
      ∙ and_right (good_now (x ∷ y ∷ older)) _ (lt-leb (common.n + needed settings.mimic - 1) 0 (omega arith))

  pub inside_none : (place lp : ℕ) → is_inside_at common settings place lp [] ≡ false
  inside_none place lp = and_left _ _ ready_none

  pub inside_breaks : (place lp : ℕ) (x y : Numbered) (older : List Numbered) → Rises number_of_sample (x ∷ y ∷ older) → number_of_sample x ≢ number_of_sample y + 1 →
      is_inside_at common settings place lp (x ∷ y ∷ older) ≡ false
  inside_breaks place lp x y older r gap = and_left _ _ (ready_breaks x y older r gap)

  pub dead_none : is_dead_at common settings [] ≡ false
  dead_none = and_left _ _ ready_none

  pub dead_breaks : (x y : Numbered) (older : List Numbered) → Rises number_of_sample (x ∷ y ∷ older) → number_of_sample x ≢ number_of_sample y + 1 →
      is_dead_at common settings (x ∷ y ∷ older) ≡ false
  dead_breaks x y older r gap = and_left _ _ (ready_breaks x y older r gap)

  pub operates_none : (place lp : ℕ) → operates_at common settings place lp [] ≡ false
  unfolding run_of
  operates_none place lp =
      held_for-run number_of_sample (is_inside_at common settings place lp) (inside_none place lp) _ [] tt ∙ lt-leb _ 0 (omega arith)

  pub trips_none : trips_at common settings [] ≡ false
  unfolding trips_at
  trips_none = any_below_none 5 _ (λ place h. and_right _ _ (any_below_none 6 _ (λ lp l. operates_none place lp)))

  -- a guard's takes at a ready sample and at another
  pub run_next : {Y : Type 0} (take_of : Measured → Y) (s : Numbered) (past : List Numbered) → Rises number_of_sample (s ∷ past) →
      next_run (option_map take_of (formed_at common settings (s ∷ past)))
      (of_run number_of_sample (is_ready_at common settings) (λ p. take_of (measured_at common settings p)) past)
      ≡ of_run number_of_sample (is_ready_at common settings) (λ p. take_of (measured_at common settings p)) (s ∷ past)
  run_next take_of s past r = elim (cases_Bool (is_ready_at common settings (s ∷ past))) [
    | inl e ↦ rw e (sym (of_run-ready number_of_sample (is_ready_at common settings) (λ p. take_of (measured_at common settings p)) ready_breaks s past r e))
    | inr e ↦ rw e (sym (of_run-none number_of_sample (is_ready_at common settings) (λ p. take_of (measured_at common settings p)) (s ∷ past) e))
  ]

  module _ (past : List Numbered) (r : Rises number_of_sample past) where
    pub polarising_is : polarising common.n (samples common.rate settings.mem_ms) (volt_takes common settings past) ≡ polarising_at common settings past
    polarising_is =
        polarising_numbered number_of_sample (is_ready_at common settings) (is_low_at common settings) (plus_voltage_at common settings)
        common.n (samples common.rate settings.mem_ms) past ready_none r

    pub swing_is : (table : Option SwingSettings) → swings_by common.rate table (λ s. swing_takes common settings s past) ≡ is_swing_by common settings table past
    swing_is None = refl
    swing_is (Some s) =
        is_swing_numbered number_of_sample (is_ready_at common settings) (λ p. is_unbalanced_at s (measured_at common settings p))
        (λ p. swing_place s (measured_at common settings p)) ready_none past r s common.rate

    pub blown_is : (table : Option FuseSettings) → blows_by common.rate table (λ s. fuse_takes common settings s past) ≡ is_blown_by common settings table past
    blown_is None = refl
    blown_is (Some s) =
        is_blown_numbered number_of_sample (is_ready_at common settings) (λ p. has_negative_voltage common.n s (measured_at common settings p))
        (λ p. has_no_negative_current common.n s (measured_at common settings p)) ready_none past r s common.rate

    pub operate_is : operated_masks (ground_delays common settings) (phase_delays common settings) (at_each (inside_at common settings) past) ≡ operate_at common settings past
    operate_is =
        operates_numbered number_of_sample (is_inside_at common settings) (ground_delays common settings) (phase_delays common settings) past inside_none inside_breaks r

  -- the masks of what is measured are those of the samples
  pub inside_is : (past : List Numbered) →
      inside_masks_by common.n settings (formed_at common settings past) (polarising_at common settings past) (is_swing_at common settings past) (is_blown_at common settings past)
      ≡ inside_at common settings past
  unfolding inside_masks_by
  inside_is past = by_ready (is_ready_at common settings past)
    where
      by_ready : (b : Bool) →
          zone_masks (inside_by common.n settings (if b then Some (measured_at common settings past) else None)
          (polarising_at common settings past) (is_swing_at common settings past) (is_blown_at common settings past))
          ≡ zone_masks (λ place lp. b && holds_of (λ zone. is_inside common.n settings zone (measured_at common settings past) (polarising_at common settings past)
          (is_swing_at common settings past) (is_blown_at common settings past) lp) settings.zones place)
      by_ready true = refl
      by_ready false = refl

  pub dead_is : (past : List Numbered) → dead_by common.n settings (formed_at common settings past) ≡ is_dead_at common settings past
  dead_is past = by_ready (is_ready_at common settings past)
    where
      by_ready : (b : Bool) → dead_by common.n settings (if b then Some (measured_at common settings past) else None)
          ≡ (b && is_without_current common.n settings (measured_at common settings past))
      by_ready true = refl
      by_ready false = refl

-- what a guard holds is the same for the same takes
pub swing_moves : (rate : ℕ) (f g : SwingSettings → List SwingTake) → ((s : SwingSettings) → f s ≡ g s) → (table : Option SwingSettings) (swing : Option Swing) →
    SwingStandsFor rate f table swing → SwingStandsFor rate g table swing
swing_moves rate f g same None None stands = stands
swing_moves rate f g same None (Some swing) stands = stands
swing_moves rate f g same (Some s) None stands = stands
swing_moves rate f g same (Some s) (Some swing) stands = subst (λ (takes : List SwingTake). StandsForSwing s rate takes swing) (same s) stands

pub swings_same : (rate : ℕ) (f g : SwingSettings → List SwingTake) → ((s : SwingSettings) → f s ≡ g s) → (table : Option SwingSettings) →
    swings_by rate table f ≡ swings_by rate table g
swings_same rate f g same None = refl
swings_same rate f g same (Some s) = ap (is_swing s rate) (same s)

pub fuse_moves : (rate : ℕ) (f g : FuseSettings → List FuseTake) → ((s : FuseSettings) → f s ≡ g s) → (table : Option FuseSettings) (fuse : Option Fuse) →
    FuseStandsFor rate f table fuse → FuseStandsFor rate g table fuse
fuse_moves rate f g same None None stands = stands
fuse_moves rate f g same None (Some fuse) stands = stands
fuse_moves rate f g same (Some s) None stands = stands
fuse_moves rate f g same (Some s) (Some fuse) stands = subst (λ (takes : List FuseTake). StandsForFuse s rate takes fuse) (same s) stands

pub blows_same : (rate : ℕ) (f g : FuseSettings → List FuseTake) → ((s : FuseSettings) → f s ≡ g s) → (table : Option FuseSettings) →
    blows_by rate table f ≡ blows_by rate table g
blows_same rate f g same None = refl
blows_same rate f g same (Some s) = ap (is_blown s rate) (same s)

pub masks_same : (n : ℕ) (settings : PlainLine) (m m' : Option Measured) (p p' : Option Cx) (s s' b b' : Bool) → m ≡ m' → p ≡ p' → s ≡ s' → b ≡ b' →
    inside_masks_by n settings m p s b ≡ inside_masks_by n settings m' p' s' b'
masks_same n settings m m' p p' s s' b b' e f g h =
    ap (λ x. inside_masks_by n settings x p s b) e ∙ ap (λ x. inside_masks_by n settings m' x s b) f
    ∙ ap (λ x. inside_masks_by n settings m' p' x b) g ∙ ap (inside_masks_by n settings m' p' s') h

pub take_same : (n n' : ℕ) (o o' d d' : Bool) → n ≡ n' → o ≡ o' → d ≡ d' → trip_take_of n o d ≡ trip_take_of n' o' d'
take_same n n' o o' d d' e f g = rw (e, f, g) refl

-- a mask with some loop
any_of : List Bool → Bool
any_of [] = false
any_of (b ∷ bits) = b || any_of bits

mask_some : (bits : List Bool) → not (mask bits == 0) ≡ any_of bits
unfolding any_of
mask_some [] = refl
mask_some (true ∷ bits) = one (mask bits)
  where
    one : (m : ℕ) → not (1 + 2 * m == 0) ≡ true
    one m = grind (arith, nat_tests)
mask_some (false ∷ bits) = ap not (none (mask bits)) ∙ mask_some bits
  where
    none : (m : ℕ) → (0 + 2 * m == 0) ≡ (m == 0)
    none m = grind (arith, nat_tests)

some_bit : (f : ℕ → Bool) → not (loop_mask f == 0) ≡ any_below 6 f
unfolding any_below any_of
some_bit f = mask_some (f 0 ∷ f 1 ∷ f 2 ∷ f 3 ∷ f 4 ∷ f 5 ∷ [])

or_five : (a b c d e : Bool) → ((((a || b) || c) || d) || e) ≡ (a || (b || (c || (d || (e || false)))))
or_five true b c d e = refl
or_five false true c d e = refl
or_five false false true d e = refl
or_five false false false true e = refl
or_five false false false false true = refl
or_five false false false false false = refl

module _ (common : Common) (settings : PlainLine) where
  -- the masks of the zones that operate say whether a zone with trip does
  pub trips_is : (past : List Numbered) → trips_by settings.zones (operate_at common settings past) ≡ trips_at common settings past
  unfolding trips_at any_below
  trips_is past =
      let f : ℕ → ℕ → Bool = λ place lp. operates_at common settings place lp past in
      let in_zone : ℕ → Bool = λ place. (holds_of (λ zone. zone.trip) settings.zones place && any_below 6 (f place)) in
      rw (some_bit (f 0), some_bit (f 1), some_bit (f 2), some_bit (f 3), some_bit (f 4))
      (or_five (in_zone 0) (in_zone 1) (in_zone 2) (in_zone 3) (in_zone 4))

  pub ready_is : (past : List Numbered) → is_some (formed_at common settings past) ≡ is_ready_at common settings past
  ready_is past = by_ready (is_ready_at common settings past)
    where
      by_ready : (b : Bool) → is_some (if b then Some (measured_at common settings past) else None) ≡ b
      by_ready true = refl
      by_ready false = refl

  -- the numbers of what the publisher takes
  pub points_rise : (s : Numbered) (past : List Numbered) → Rises number_of_sample (s ∷ past) →
      RisesTo (points_take common settings (s ∷ past)) (at_each (points_take common settings) past)
  unfolding at_each
  points_rise s past r = Rises-at_each number_of_sample (points_take common settings) (λ t. t.number) (λ x older. refl) (s ∷ past) r

pub facts_same : (a b : Facts) → a.ready ≡ b.ready → a.swing ≡ b.swing → a.fuse ≡ b.fuse → a.inside ≡ b.inside → a.operate ≡ b.operate → a.trip ≡ b.trip → a ≡ b
facts_same a b p q r s t u =
    let fields : Bool → Bool → Bool → List ℕ → List ℕ → Bool → Facts = λ ready swing fuse inside operate trip.
    (record { ready = ready; swing = swing; fuse = fuse; inside = inside; operate = operate; trip = trip }) in
    ap (λ x. fields x a.swing a.fuse a.inside a.operate a.trip) p ∙ ap (λ x. fields b.ready x a.fuse a.inside a.operate a.trip) q
    ∙ ap (λ x. fields b.ready b.swing x a.inside a.operate a.trip) r ∙ ap (λ x. fields b.ready b.swing b.fuse x a.operate a.trip) s
    ∙ ap (λ x. fields b.ready b.swing b.fuse b.inside x a.trip) t ∙ ap (fields b.ready b.swing b.fuse b.inside b.operate) u
