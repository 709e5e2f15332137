-- The loops as they are formed of what is measured, where some loop has the least current.
use Rattle.std.specs.Prelude.{ℕ, zero, suc, ◌≡◌, Bool, not, ◌&&◌, if◌then◌else◌, List, [], ◌∷◌, Option, Some, None}
use Rattle.std.specs.Option.{option_map}
use Rattle.relay_num.specs.declared.Cx.{Cx}
use Rattle.relay_num.specs.Numbers.{is_at_least}
use Rattle.relay_settings.specs.declared.types.Dir.{Dir}
use Rattle.relay_settings.specs.declared.types.Dir.TheVariants.{Forward, Reverse, Unasked}
use Rattle.relay_settings.specs.declared.types.Shape.{Shape}
use Rattle.relay_settings.specs.declared.types.ZonePart.{ZonePart}
use Rattle.relay_settings.specs.declared.types.ZoneSettings.{ZoneSettings}
use Rattle.relay_settings.specs.Settings.{PlainLine}
use Rattle.loop_impedance.specs.Loops.{item, voltages_of, currents_of, polarising_of}
use Rattle.loop_impedance.specs.Masks.{mask, loop_mask, has_bit}
use Rattle.direction.specs.Torques.{sense_by_negative, direction_of}
use Rattle.direction.specs.declared.Sense.{Sense}
use Rattle.direction.specs.declared.Sense.TheVariants.{Neither}
use Rattle.zone_shape.specs.declared.formed.FormedLoop.{FormedLoop}
use Rattle.zone_shape.specs.Shapes.{has_shape}
use Rattle.line_relay.specs.declared.measured.Measured.{Measured}
use Rattle.line_relay.specs.declared.loops.Loops.{Loops}
use Rattle.line_relay.specs.declared.loops.Sides.{Sides}
use Rattle.line_relay.specs.Inside.{is_to_ground, k0_of, line_impedance, is_within_zone, is_forward, is_reverse, is_load_by}

-- each loop's polarising voltage
abbrev pub pols_of : Option Cx → Option (List Cx)
pols_of polarising = option_map polarising_of polarising

abbrev pub pol_at : Option (List Cx) → ℕ → Option Cx
pol_at pols lp = option_map (item lp) pols

-- 3U2 and 3I2, where the latter is large enough
abbrev pub minus_by : ℕ → ℕ → Measured → Option (Cx × Cx)
minus_by n dir_i2 m = if is_at_least m.current.minus n dir_i2 then Some (m.voltage.minus, m.current.minus) else None

-- the sense that the negative sequence gives to every ground loop
abbrev pub sense_of_minus : Cx → Option (Cx × Cx) → Option Sense
sense_of_minus line minus = option_map (λ m. sense_by_negative line m.0 m.1) minus

-- it decides where it is there
abbrev pub sense_by : Cx → Cx → Option Cx → Option Sense → Sense
sense_by line i pol (Some sense) = sense
sense_by line i pol None = direction_of line i pol None

-- the sense of a loop, if it has the least current
unfoldable pub sense_with : Cx → Cx → Option Cx → Option Sense → ℕ → ℕ → Sense
sense_with line i pol by_minus with_current lp =
    if has_bit lp with_current then sense_by line i pol by_minus else Neither

abbrev pub currents_with : PlainLine → Measured → List Cx
currents_with settings m = currents_of (k0_of settings) (item 0 m.currents) (item 1 m.currents) (item 2 m.currents)

-- a loop of this voltage, current and polarising voltage
pub record IsLoop (u i : Cx) (pol : Option Cx) (formed : FormedLoop) : Type 0 where
  pub same_u : formed.u ≡ u
  pub same_i : formed.i ≡ i
  pub same_pol : formed.pol ≡ pol

-- loop 0 to 5 of six
abbrev pub loop_at : Loops → ℕ → FormedLoop
loop_at loops zero = loops.ag
loop_at loops (suc zero) = loops.bg
loop_at loops (suc (suc zero)) = loops.cg
loop_at loops (suc (suc (suc zero))) = loops.ab
loop_at loops (suc (suc (suc (suc zero)))) = loops.bc
loop_at loops (suc (suc (suc (suc (suc lp))))) = loops.ca

abbrev pub IsLoopOf : PlainLine → Measured → Option Cx → ℕ → FormedLoop → Type 0
IsLoopOf settings m polarising lp formed =
    IsLoop (item lp (voltages_of (item 0 m.voltages) (item 1 m.voltages) (item 2 m.voltages))) (item lp (currents_with settings m)) (pol_at (pols_of polarising) lp) formed

pub record AreLoops (settings : PlainLine) (m : Measured) (polarising : Option Cx) (loops : Loops) : Type 0 where
  pub ag : IsLoopOf settings m polarising 0 loops.ag
  pub bg : IsLoopOf settings m polarising 1 loops.bg
  pub cg : IsLoopOf settings m polarising 2 loops.cg
  pub ab : IsLoopOf settings m polarising 3 loops.ab
  pub bc : IsLoopOf settings m polarising 4 loops.bc
  pub ca : IsLoopOf settings m polarising 5 loops.ca

-- the sense of one of six loops; between phases the negative sequence has no say
abbrev pub sense_at : Cx → Loops → Option Sense → ℕ → ℕ → Sense
sense_at line loops by_minus with_current lp =
    sense_with line (loop_at loops lp).i (loop_at loops lp).pol (if is_to_ground lp then by_minus else None) with_current lp

abbrev pub sense_in : ℕ → PlainLine → Measured → ℕ → Loops → ℕ → Sense
sense_in n settings m allowing loops lp =
    sense_at (line_impedance settings) loops (sense_of_minus (line_impedance settings) (minus_by n settings.dir_i2 m)) allowing lp

pub record AreSides (n : ℕ) (settings : PlainLine) (m : Measured) (allowing : ℕ) (loops : Loops) (sides : Sides) : Type 0 where
  pub with_current : sides.with_current ≡ allowing
  pub ahead : sides.ahead ≡ loop_mask (λ lp. is_forward (sense_in n settings m allowing loops lp))
  pub behind : sides.behind ≡ loop_mask (λ lp. is_reverse (sense_in n settings m allowing loops lp))
  pub is_load : sides.is_load ≡ is_load_by settings.load m

-- the loops that a zone may hold, by its direction
abbrev pub candidates_of : Dir → Sides → ℕ
candidates_of Forward sides = sides.ahead
candidates_of Reverse sides = sides.behind
candidates_of Unasked sides = sides.with_current

-- whether a loop, one of the candidates, is within a shape
abbrev pub shape_holds : Shape → ℕ → Bool → ℕ → FormedLoop → Bool
shape_holds shape candidates reversed place formed =
    has_bit place candidates && has_shape shape reversed formed.u formed.i formed.pol

-- the mask of those of three loops that are
abbrev pub shape_mask : Shape → ℕ → Bool → FormedLoop → FormedLoop → FormedLoop → ℕ
shape_mask shape candidates reversed a b c =
    mask (
    shape_holds shape candidates reversed 0 a
    ∷ shape_holds shape candidates reversed 1 b
    ∷ shape_holds shape candidates reversed 2 c
    ∷ [])

-- without the part there is none
abbrev pub part_mask : Option ZonePart → ℕ → Bool → FormedLoop → FormedLoop → FormedLoop → ℕ
part_mask None candidates reversed a b c = 0
part_mask (Some part) candidates reversed a b c = shape_mask part.shape candidates reversed a b c

-- whether a zone holds a loop of those that it may hold
unfoldable pub holds_formed : ZoneSettings → FormedLoop → Sides → Bool → ℕ → Bool
holds_formed zone formed sides load_blocks lp =
    has_bit lp (candidates_of zone.dir sides)
    && (not (load_blocks && not (is_to_ground lp))
    && is_within_zone zone lp formed.u formed.i formed.pol)

-- and no power swing blocks it
unfoldable pub is_held : Loops → Sides → Bool → ZoneSettings → ℕ → Bool
is_held loops sides swing zone lp = not (zone.swing_block && swing) && holds_formed zone (loop_at loops lp) sides (zone.load_block && sides.is_load) lp
