-- What the masks of formed loops say is what each zone asks of each loop.
use Rattle.std.proofs.Common.{◌≡◌, ◌∙◌, ℕ, zero, suc, ◌<◌, arith, Bool, true, false, not, ◌&&◌, refl, sym, ap, List, Option, Some, None, [], ◌∷◌}
use Rattle.std.specs.Prelude.{slice_get, if◌then◌else◌, unwrap_or}
use Rattle.std.specs.Option.{option_map}
use Rattle.std.proofs.lemmas.Nat.Bits.{bit_at-zero}
use Rattle.relay_num.specs.declared.Cx.{Cx}
use Rattle.relay_num.specs.Numbers.{is_at_least}
use Rattle.relay_settings.specs.declared.types.Dir.{Dir}
use Rattle.relay_settings.specs.declared.types.Dir.TheVariants.{Forward, Reverse, Unasked}
use Rattle.relay_settings.specs.declared.types.ZoneSettings.{ZoneSettings}
use Rattle.relay_settings.specs.Settings.{PlainLine}
use Rattle.loop_impedance.specs.Loops.{item}
use Rattle.loop_impedance.specs.Masks.{loop_mask, has_bit}
use Rattle.loop_impedance.proofs.MaskLemmas.{has_bit-loop_mask, loop_mask-same}
use Rattle.zone_timers.specs.ZoneMasks.{zone_masks}
use Rattle.direction.specs.Torques.{direction_of}
use Rattle.direction.specs.declared.Sense.{Sense}
use Rattle.direction.specs.declared.Sense.TheVariants.{Neither}
use Rattle.line_relay.specs.declared.measured.Measured.{Measured}
use Rattle.line_relay.specs.declared.loops.Loops.{Loops}
use Rattle.line_relay.specs.declared.loops.Sides.{Sides}
use Rattle.line_relay.specs.Inside.{is_to_ground, line_impedance, loop_voltage, loop_current, loop_polarising, loop_sense, has_current, has_shape, is_asked, is_forward, is_reverse, is_load_by, is_load_blocked, is_within_zone, is_inside, holds_of}
use Rattle.line_relay.specs.FormedLoops.{AreLoops, AreSides, IsLoopOf, loop_at, sense_by, sense_with, sense_in, sense_of_minus, pols_of, pol_at, currents_with, candidates_of, holds_formed, is_held}
use Rattle.line_relay.specs.Decided.{inside_by, inside_masks_by}

-- a zone by its place
pub holds_of-none : (rule : ZoneSettings → Bool) (zones : List ZoneSettings) (place : ℕ) → ((z : ZoneSettings) → rule z ≡ false) → holds_of rule zones place ≡ false
holds_of-none rule zones place none = found (slice_get zones place)
  where
    found : (z : Option ZoneSettings) → unwrap_or (option_map rule z) false ≡ false
    found None = refl
    found (Some z) = none z

pub holds_of-same : (rule other : ZoneSettings → Bool) (zones : List ZoneSettings) (place : ℕ) → ((z : ZoneSettings) → rule z ≡ other z) → holds_of rule zones place ≡ holds_of other zones place
holds_of-same rule other zones place same = found (slice_get zones place)
  where
    found : (z : Option ZoneSettings) → unwrap_or (option_map rule z) false ≡ unwrap_or (option_map other z) false
    found None = refl
    found (Some z) = same z

-- the masks of all zones
pub zone_masks-same : (f g : ℕ → ℕ → Bool) → ((place lp : ℕ) → lp < 6 → f place lp ≡ g place lp) → zone_masks f ≡ zone_masks g
zone_masks-same f g same =
    rw (
      loop_mask-same (f 0) (g 0) (same 0),
      loop_mask-same (f 1) (g 1) (same 1),
      loop_mask-same (f 2) (g 2) (same 2),
      loop_mask-same (f 3) (g 3) (same 3),
      loop_mask-same (f 4) (g 4) (same 4),
    ) refl

pub zone_masks-none : (f : ℕ → ℕ → Bool) → ((place lp : ℕ) → lp < 6 → f place lp ≡ false) → zone_masks f ≡ 0 ∷ 0 ∷ 0 ∷ 0 ∷ 0 ∷ []
zone_masks-none f none = zone_masks-same f (λ place lp. false) none

pub bit_none : (lp : ℕ) → has_bit lp 0 ≡ false
bit_none lp = rw (bit_at-zero lp) refl

-- the polarising voltage of a loop
pol_same : (polarising : Option Cx) (lp : ℕ) → pol_at (pols_of polarising) lp ≡ loop_polarising polarising lp
unfolding loop_polarising
pol_same None lp = refl
pol_same (Some p) lp = refl

-- the negative sequence decides for ground loops, where it is large enough
minus_same : (line i : Cx) (pol : Option Cx) (ground enough : Bool) (m : Cx × Cx) →
    sense_by line i pol (if ground then sense_of_minus line (if enough then Some m else None) else None)
    ≡ direction_of line i pol (if ground && enough then Some m else None)
minus_same line i pol true true m = refl
minus_same line i pol true false m = refl
minus_same line i pol false true m = refl
minus_same line i pol false false m = refl

reordered : (shape asked current swing load : Bool) →
    (not swing && ((current && asked) && (not load && shape))) ≡ (((((shape && asked) && current) && not false) && not swing) && not load)
reordered true true true true true = refl
reordered true true true true false = refl
reordered true true true false true = refl
reordered true true true false false = refl
reordered true true false true load = refl
reordered true true false false load = refl
reordered true false true true load = refl
reordered true false true false load = refl
reordered true false false true load = refl
reordered true false false false load = refl
reordered false true true true load = refl
reordered false true true false true = refl
reordered false true true false false = refl
reordered false true false true load = refl
reordered false true false false load = refl
reordered false false true true load = refl
reordered false false true false load = refl
reordered false false false true load = refl
reordered false false false false load = refl

load_same : (block ground load : Bool) → ((block && load) && not ground) ≡ ((block && not ground) && load)
load_same true true true = refl
load_same true true false = refl
load_same true false true = refl
load_same true false false = refl
load_same false ground load = refl

outside : (a b c d e : Bool) → ((((a && b) && c) && not true) && d) && e ≡ false
outside true true true d e = refl
outside true true false d e = refl
outside true false c d e = refl
outside false b c d e = refl

without : (a b c d e f : Bool) → c ≡ false → ((((a && b) && c) && d) && e) && f ≡ false
without true true c d e f none = rw none refl
without true false c d e f none = refl
without false b c d e f none = refl

module _ (n : ℕ) (settings : PlainLine) (m : Measured) (polarising : Option Cx) (allowing : ℕ) (loops : Loops) (sides : Sides)
    (are : AreLoops settings m polarising loops) (formed : AreSides n settings m allowing loops sides) (counts : allowing ≡ loop_mask (has_current n settings m)) where
  allowed_is : (lp : ℕ) → lp < 6 → has_bit lp allowing ≡ has_current n settings m lp
  allowed_is lp h = ap (has_bit lp) counts ∙ has_bit-loop_mask (has_current n settings m) lp h

  loop_is : (lp : ℕ) → lp < 6 → IsLoopOf settings m polarising lp (loop_at loops lp)
  loop_is zero h = are.ag
  loop_is (suc zero) h = are.bg
  loop_is (suc (suc zero)) h = are.cg
  loop_is (suc (suc (suc zero))) h = are.ab
  loop_is (suc (suc (suc (suc zero)))) h = are.bc
  loop_is (suc (suc (suc (suc (suc zero))))) h = are.ca
  loop_is (suc (suc (suc (suc (suc (suc lp)))))) h = absurd (omega arith)

  -- the sense of a loop that has the least current
  sense_is : (lp : ℕ) → lp < 6 → has_bit lp allowing ≡ true → sense_in n settings m allowing loops lp ≡ loop_sense n settings m polarising lp
  unfolding sense_with loop_sense loop_current
  sense_is lp h e =
      rw (e, (loop_is lp h).same_i, (loop_is lp h).same_pol, pol_same polarising lp)
      (minus_same (line_impedance settings) (item lp (currents_with settings m)) (loop_polarising polarising lp)
      (is_to_ground lp) (is_at_least m.current.minus n settings.dir_i2) (m.voltage.minus, m.current.minus))

  abbrev sense_of_loop : ℕ → Sense
  sense_of_loop lp = sense_in n settings m allowing loops lp

  side_by : (test : Sense → Bool) → test Neither ≡ false → (lp : ℕ) → lp < 6 → (b : Bool) → has_bit lp allowing ≡ b →
      test (sense_of_loop lp) ≡ (b && test (loop_sense n settings m polarising lp))
  unfolding sense_with
  side_by test never lp h true e = ap test (sense_is lp h e)
  side_by test never lp h false e = rw e never

  side_is : (test : Sense → Bool) → test Neither ≡ false → (lp : ℕ) → lp < 6 →
      test (sense_of_loop lp) ≡ (has_current n settings m lp && test (loop_sense n settings m polarising lp))
  side_is test never lp h = side_by test never lp h (has_current n settings m lp) (allowed_is lp h)

  candidate_is : (dir : Dir) (lp : ℕ) → lp < 6 →
      has_bit lp (candidates_of dir sides) ≡ (has_current n settings m lp && is_asked dir (loop_sense n settings m polarising lp))
  candidate_is Forward lp h = ap (has_bit lp) formed.ahead ∙ has_bit-loop_mask (λ k. is_forward (sense_of_loop k)) lp h ∙ side_is is_forward refl lp h
  candidate_is Reverse lp h = ap (has_bit lp) formed.behind ∙ has_bit-loop_mask (λ k. is_reverse (sense_of_loop k)) lp h ∙ side_is is_reverse refl lp h
  candidate_is Unasked lp h = ap (has_bit lp) formed.with_current ∙ allowed_is lp h ∙ always (has_current n settings m lp)
    where
      always : (b : Bool) → b ≡ (b && true)
      always true = refl
      always false = refl

  -- what is tested is what the zone asks
  pub inside_is : (zone : ZoneSettings) (swing : Bool) (lp : ℕ) → lp < 6 →
      is_held loops sides swing zone lp ≡ is_inside n settings zone m polarising swing false lp
  unfolding is_held holds_formed is_inside loop_voltage loop_current
  inside_is zone swing lp h =
      rw (
        candidate_is zone.dir lp h,
        (loop_is lp h).same_u,
        (loop_is lp h).same_i,
        (loop_is lp h).same_pol,
        formed.is_load,
        pol_same polarising lp,
        load_same zone.load_block (is_to_ground lp) (is_load_by settings.load m),
      )
      (reordered (is_within_zone zone lp (loop_voltage m lp) (loop_current settings m lp) (loop_polarising polarising lp))
      (is_asked zone.dir (loop_sense n settings m polarising lp)) (has_current n settings m lp)
      (zone.swing_block && swing) (is_load_blocked settings zone m lp))

pub masks_none : (n : ℕ) (settings : PlainLine) (polarising : Option Cx) (swing blown : Bool) → inside_masks_by n settings None polarising swing blown ≡ 0 ∷ 0 ∷ 0 ∷ 0 ∷ 0 ∷ []
unfolding inside_masks_by
masks_none n settings polarising swing blown = refl

module _ (n : ℕ) (settings : PlainLine) (m : Measured) (polarising : Option Cx) (swing : Bool) where
  pub masks_blown : inside_masks_by n settings (Some m) polarising swing true ≡ 0 ∷ 0 ∷ 0 ∷ 0 ∷ 0 ∷ []
  unfolding inside_masks_by is_inside
  masks_blown = zone_masks-none (inside_by n settings (Some m) polarising swing true)
      (λ place lp h. holds_of-none _ settings.zones place (λ zone. outside (has_shape settings zone m polarising lp)
      (is_asked zone.dir (loop_sense n settings m polarising lp)) (has_current n settings m lp) (not (zone.swing_block && swing)) (not (is_load_blocked settings zone m lp))))

  pub masks_without : loop_mask (has_current n settings m) ≡ 0 → inside_masks_by n settings (Some m) polarising swing false ≡ 0 ∷ 0 ∷ 0 ∷ 0 ∷ 0 ∷ []
  unfolding inside_masks_by is_inside
  masks_without none = zone_masks-none (inside_by n settings (Some m) polarising swing false)
      (λ place lp h. holds_of-none _ settings.zones place (λ zone. without (has_shape settings zone m polarising lp)
      (is_asked zone.dir (loop_sense n settings m polarising lp)) (has_current n settings m lp) true
      (not (zone.swing_block && swing)) (not (is_load_blocked settings zone m lp))
      (sym (has_bit-loop_mask (has_current n settings m) lp h) ∙ ap (has_bit lp) none ∙ bit_none lp)))

  pub masks_formed : (allowing : ℕ) (loops : Loops) (sides : Sides) → AreLoops settings m polarising loops → AreSides n settings m allowing loops sides → allowing ≡ loop_mask (has_current n settings m) →
      zone_masks (λ place lp. holds_of (λ zone. is_held loops sides swing zone lp) settings.zones place) ≡ inside_masks_by n settings (Some m) polarising swing false
  unfolding inside_masks_by
  masks_formed allowing loops sides are formed counts =
      zone_masks-same _ (inside_by n settings (Some m) polarising swing false)
      (λ place lp h. holds_of-same _ _ settings.zones place (λ zone. inside_is n settings m polarising allowing loops sides are formed counts zone swing lp h))
