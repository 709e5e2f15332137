-- Masks of loops, one for each of the five zones: bit 0 for AG, then BG, CG, AB, BC and CA.
use Rattle.std.specs.Prelude.{ℕ, Bool, List, [], ◌∷◌, slice_index}
use Rattle.loop_impedance.specs.Masks.{loop_mask, has_bit}

-- whether the loop's bit stands in the zone's mask
abbrev pub has_loop : ℕ → ℕ → List ℕ → Bool
has_loop zone lp masks = has_bit lp (slice_index masks zone)

-- the masks of the loops at which the test of zone and loop passes
abbrev pub zone_masks : (ℕ → ℕ → Bool) → List ℕ
zone_masks test = loop_mask (test 0) ∷ loop_mask (test 1) ∷ loop_mask (test 2) ∷ loop_mask (test 3) ∷ loop_mask (test 4) ∷ []
