-- All that a zone asks of a loop at a ready sample (Phadke and Thorp, Computer Relaying for Power Systems): distance (ANSI 21
-- between phases, 21N to ground), direction (67), current (50), and no block by power swing (68), fuse failure (60FL) or load.
use Rattle.std.specs.Prelude.{ℕ, Bool, true, false, not, ◌&&◌, nat_lt, if◌then◌else◌, List, Option, Some, None, slice_get, slice_index_or, unwrap_or}
use Rattle.std.specs.Option.{option_map}
use Rattle.relay_num.specs.declared.Cx.{Cx}
use Rattle.relay_num.specs.Numbers.{is_at_least}
use Rattle.relay_settings.specs.declared.types.Dir.{Dir}
use Rattle.relay_settings.specs.declared.types.Dir.TheVariants.{Forward, Reverse, Unasked}
use Rattle.relay_settings.specs.declared.types.LoadSettings.{LoadSettings}
use Rattle.relay_settings.specs.declared.types.ZoneSettings.{ZoneSettings}
use Rattle.relay_settings.specs.Settings.{PlainLine}
use Rattle.loop_impedance.specs.Loops.{item, voltages_of, currents_of, polarising_of}
use Rattle.zone_shape.specs.ZoneParts.{is_in_zone}
use Rattle.direction.specs.Torques.{direction_of}
use Rattle.direction.specs.declared.Sense.{Sense}
use Rattle.direction.specs.declared.Sense.TheVariants as senses
use Rattle.supervise.specs.Current.{allowed}
use Rattle.supervise.specs.Load.{is_load}
use Rattle.line_relay.specs.declared.measured.Measured.{Measured}

-- loops 0 to 2 are AG, BG and CG, and loops 3 to 5 AB, BC and CA
abbrev pub is_to_ground : ℕ → Bool
is_to_ground lp = nat_lt lp 3

abbrev pub k0_of : PlainLine → Cx
k0_of settings = record { re = settings.k0_re; im = settings.k0_im }

abbrev pub line_impedance : PlainLine → Cx
line_impedance settings = record { re = settings.line_r; im = settings.line_x }

-- the voltage, the compensated current and the polarising voltage of a loop
unfoldable pub loop_voltage : Measured → ℕ → Cx
loop_voltage m lp = item lp (voltages_of (item 0 m.voltages) (item 1 m.voltages) (item 2 m.voltages))

unfoldable pub loop_current : PlainLine → Measured → ℕ → Cx
loop_current settings m lp = item lp (currents_of (k0_of settings) (item 0 m.currents) (item 1 m.currents) (item 2 m.currents))

unfoldable pub loop_polarising : Option Cx → ℕ → Option Cx
loop_polarising polarising lp = option_map (λ p. item lp (polarising_of p)) polarising

-- a zone's characteristic, mho or quadrilateral, of the loop's part of the zone; a zone that looks backwards takes the opposite
-- current, and without the part or, for a mho, without a polarising voltage it holds none
unfoldable pub is_within_zone : ZoneSettings → ℕ → Cx → Cx → Option Cx → Bool
is_within_zone zone lp u i polarising = is_in_zone zone lp u i polarising

abbrev pub has_shape : PlainLine → ZoneSettings → Measured → Option Cx → ℕ → Bool
has_shape settings zone m polarising lp =
    is_within_zone zone lp (loop_voltage m lp) (loop_current settings m lp) (loop_polarising polarising lp)

-- The side of a loop's fault: of a ground loop by 3U2 and 3I2 where 3I2 is large enough, and otherwise by the loop's current
-- against its polarising voltage.
unfoldable pub loop_sense : ℕ → PlainLine → Measured → Option Cx → ℕ → Sense
loop_sense n settings m polarising lp = direction_of (line_impedance settings) (loop_current settings m lp) (loop_polarising polarising lp)
    (if is_to_ground lp && is_at_least m.current.minus n settings.dir_i2 then Some (m.voltage.minus, m.current.minus) else None)

abbrev pub is_forward : Sense → Bool
is_forward senses.Forward = true
is_forward senses.Reverse = false
is_forward senses.Neither = false

abbrev pub is_reverse : Sense → Bool
is_reverse senses.Forward = false
is_reverse senses.Reverse = true
is_reverse senses.Neither = false

abbrev pub is_asked : Dir → Sense → Bool
is_asked Forward sense = is_forward sense
is_asked Reverse sense = is_reverse sense
is_asked Unasked sense = true

-- the least current
unfoldable pub has_current : ℕ → PlainLine → Measured → ℕ → Bool
has_current n settings m lp =
    slice_index_or (allowed (item 0 m.currents) (item 1 m.currents) (item 2 m.currents) m.current.zero n settings.i_min settings.i0_min) lp false

-- the impedance of the positive sequence is that of load; never without its table
abbrev pub is_load_by : Option LoadSettings → Measured → Bool
is_load_by None m = false
is_load_by (Some s) m = is_load s m.voltage.plus m.current.plus

-- load blocks the loops between phases, of zones that ask for it
abbrev pub is_load_blocked : PlainLine → ZoneSettings → Measured → ℕ → Bool
is_load_blocked settings zone m lp = zone.load_block && not (is_to_ground lp) && is_load_by settings.load m

-- a loop is inside a zone, by what is measured and the guards
unfoldable pub is_inside : ℕ → PlainLine → ZoneSettings → Measured → Option Cx → Bool → Bool → ℕ → Bool
is_inside n settings zone m polarising swing blown lp =
    has_shape settings zone m polarising lp
    && is_asked zone.dir (loop_sense n settings m polarising lp)
    && has_current n settings m lp
    && not blown
    && not (zone.swing_block && swing)
    && not (is_load_blocked settings zone m lp)

-- what holds of the zone at this place, from 0; of none where there is no such zone
abbrev pub holds_of : (ZoneSettings → Bool) → List ZoneSettings → ℕ → Bool
holds_of rule zones place = unwrap_or (option_map rule (slice_get zones place)) false
