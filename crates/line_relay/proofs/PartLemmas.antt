-- The masks of the two parts of a zone, joined, are the mask of its six loops.
use Rattle.std.proofs.Common.{◌≡◌, ◌∙◌, ℕ, suc, ◌+◌, ◌*◌, ◌/◌, ◌==◌, arith, Bool, true, false, not, ◌&&◌, refl, sym, ap, Option, Some, None, [], ◌∷◌}
use Rattle.std.specs.Int.{bit_at}
use Rattle.std.proofs.lemmas.Nat.Bits.{bit_at-suc}
use Rattle.relay_settings.specs.declared.types.ZonePart.{ZonePart}
use Rattle.relay_settings.specs.declared.types.ZoneSettings.{ZoneSettings}
use Rattle.loop_impedance.specs.Masks.{mask, loop_mask, has_bit}
use Rattle.zone_shape.specs.declared.formed.FormedLoop.{FormedLoop}
use Rattle.zone_shape.specs.ZoneParts.{is_reverse, is_in_part}
use Rattle.line_relay.specs.declared.loops.Loops.{Loops}
use Rattle.line_relay.specs.declared.loops.Sides.{Sides}
use Rattle.line_relay.specs.Inside.{is_within_zone}
use Rattle.line_relay.specs.FormedLoops.{loop_at, candidates_of, holds_formed, part_mask}

never : (b : Bool) → (b && false) ≡ false
never true = refl
never false = refl

-- a candidate of three that is within its part
abbrev is_held_in : Option ZonePart → ℕ → Bool → ℕ → FormedLoop → Bool
is_held_in part candidates reversed place formed =
    has_bit place candidates && is_in_part part reversed formed.u formed.i formed.pol

part_is : (part : Option ZonePart) (candidates : ℕ) (reversed : Bool) (a b c : FormedLoop) →
    part_mask part candidates reversed a b c
    ≡ mask (is_held_in part candidates reversed 0 a ∷ is_held_in part candidates reversed 1 b ∷ is_held_in part candidates reversed 2 c ∷ [])
part_is None candidates reversed a b c = rw (never (has_bit 0 candidates), never (has_bit 1 candidates), never (has_bit 2 candidates)) refl
part_is (Some part) candidates reversed a b c = refl

above : (candidates place : ℕ) → has_bit place (candidates / 8) ≡ has_bit (suc (suc (suc place))) candidates
above candidates place =
    let eighth : candidates / 2 / 2 / 2 ≡ candidates / 8 = omega arith in
    ap (λ n. n == 1) (sym (bit_at-suc candidates (suc (suc place)) ∙ bit_at-suc (candidates / 2) (suc place) ∙ bit_at-suc (candidates / 2 / 2) place
    ∙ ap (λ n. bit_at n place) eighth))

joined : (a b c d e f : Bool) →
    mask (a ∷ b ∷ c ∷ []) + 8 * mask (d ∷ e ∷ f ∷ []) ≡ mask (a ∷ b ∷ c ∷ d ∷ e ∷ f ∷ [])
joined a b c d e f = omega arith

low : (a b c : Bool) → mask (a ∷ b ∷ c ∷ []) ≡ mask (a ∷ b ∷ c ∷ false ∷ false ∷ false ∷ [])
low a b c = omega arith

ground_load : (held load within : Bool) → (held && (not (load && false) && within)) ≡ (held && within)
ground_load held true within = refl
ground_load held false within = refl

phase_load : (held within : Bool) → (held && (not (true && true) && within)) ≡ false
phase_load true within = refl
phase_load false within = refl

module _ (zone : ZoneSettings) (loops : Loops) (sides : Sides) (candidates : ℕ) (reversed : Bool)
    (chosen : candidates ≡ candidates_of zone.dir sides) (looks : reversed ≡ is_reverse zone.dir) where
  -- load leaves the loops to ground alone
  pub mask_blocked : part_mask zone.ground candidates reversed loops.ag loops.bg loops.cg
      ≡ loop_mask (λ lp. holds_formed zone (loop_at loops lp) sides true lp)
  unfolding holds_formed is_within_zone
  mask_blocked =
      part_is zone.ground candidates reversed loops.ag loops.bg loops.cg
      ∙ low (is_held_in zone.ground candidates reversed 0 loops.ag) (is_held_in zone.ground candidates reversed 1 loops.bg) (is_held_in zone.ground candidates reversed 2 loops.cg)
      ∙ rw (
        chosen,
        looks,
        phase_load (has_bit 3 (candidates_of zone.dir sides)) (is_in_part zone.phase (is_reverse zone.dir) loops.ab.u loops.ab.i loops.ab.pol),
        phase_load (has_bit 4 (candidates_of zone.dir sides)) (is_in_part zone.phase (is_reverse zone.dir) loops.bc.u loops.bc.i loops.bc.pol),
        phase_load (has_bit 5 (candidates_of zone.dir sides)) (is_in_part zone.phase (is_reverse zone.dir) loops.ca.u loops.ca.i loops.ca.pol),
      ) refl

  pub mask_free : part_mask zone.ground candidates reversed loops.ag loops.bg loops.cg
      + 8 * part_mask zone.phase (candidates / 8) reversed loops.ab loops.bc loops.ca
      ≡ loop_mask (λ lp. holds_formed zone (loop_at loops lp) sides false lp)
  unfolding holds_formed is_within_zone
  mask_free =
      rw (
        part_is zone.ground candidates reversed loops.ag loops.bg loops.cg,
        part_is zone.phase (candidates / 8) reversed loops.ab loops.bc loops.ca,
        above candidates 0,
        above candidates 1,
        above candidates 2,
        chosen,
        looks,
      )
      (joined (is_held_in zone.ground (candidates_of zone.dir sides) (is_reverse zone.dir) 0 loops.ag)
      (is_held_in zone.ground (candidates_of zone.dir sides) (is_reverse zone.dir) 1 loops.bg)
      (is_held_in zone.ground (candidates_of zone.dir sides) (is_reverse zone.dir) 2 loops.cg)
      (is_held_in zone.phase (candidates_of zone.dir sides) (is_reverse zone.dir) 3 loops.ab)
      (is_held_in zone.phase (candidates_of zone.dir sides) (is_reverse zone.dir) 4 loops.bc)
      (is_held_in zone.phase (candidates_of zone.dir sides) (is_reverse zone.dir) 5 loops.ca))
