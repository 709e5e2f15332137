-- The publishing schedule of GOOSE (stNum, sqNum and timeAllowedtoLive of IEC 61850-8-1), over the list of takes,
-- the newest first.
use Rattle.std.specs.Prelude.{ℕ, suc, ◌+◌, ◌-◌, ◌*◌, nat_lt, nat_le, ◌==◌, Bool, false, true, not, ◌&&◌, ◌||◌, if◌then◌else◌, List, [], ◌∷◌, Option, Some, None}
use Rattle.std.specs.Bool.{beq}
use Rattle.sample_windows.specs.Below.{any_below, greatest_below}
use Rattle.sample_windows.specs.Numbered.{newest_number, Rises}
use Rattle.sample_windows.specs.Windows.{newest_where}
use Rattle.relay_settings.specs.declared.types.Common.{Common}
use Rattle.relay_settings.specs.Times.{samples}
use Rattle.goose_publish.specs.declared.points.Points.{Points}
use Rattle.goose_publish.specs.declared.points.Send.{Send}
use Rattle.goose_publish.specs.Offsets.{offset_ms}

-- what a take says: a sample's number and the points there
pub record PointsTake : Type 0 where
  pub number : ℕ
  pub points : Points

abbrev pub take_of : ℕ → Points → PointsTake
take_of number points = record { number = number; points = points }

-- the numbers rise up to the newest take
abbrev pub RisesTo : PointsTake → List PointsTake → Type 0
RisesTo newest takes = Rises (λ t. t.number) (newest ∷ takes)

abbrev pub number_now : List PointsTake → ℕ
number_now takes = newest_number (λ t. t.number) takes

abbrev pub same_points : Points → Points → Bool
same_points a b =
    beq a.trip b.trip && (beq a.start b.start && (beq a.swing b.swing
    && (beq a.fuse b.fuse && (a.zones == b.zones && beq a.ready b.ready))))

-- whether the newest take is the first, or its points differ from those of the take before
abbrev pub changes_now : List PointsTake → Bool
changes_now [] = false
changes_now (t ∷ []) = true
changes_now (t ∷ u ∷ older) = not (same_points t.points u.points)

-- the greatest number at which the points changed
abbrev pub change_number : List PointsTake → ℕ
change_number takes = number_now (newest_where changes_now takes)

-- the number at which the offset k after the last change falls
abbrev pub falls_at : Common → List PointsTake → ℕ → ℕ
falls_at common takes k = change_number takes + samples common.rate (offset_ms common k)

-- Whether some offset falls after the take before and not after the newest. The offset k falls at the number k or
-- later, so those up to the newest number are all that can.
unfoldable pub is_due : Common → List PointsTake → Bool
is_due common [] = false
is_due common (t ∷ older) =
    any_below (t.number + 1) (λ k.
    nat_lt (number_now older) (falls_at common (t ∷ older) k) && nat_le (falls_at common (t ∷ older) k) t.number)

-- the greatest offset that doesn't fall after the newest take
unfoldable pub last_offset : Common → List PointsTake → ℕ
last_offset common takes =
    greatest_below (number_now takes + 1) (λ k. nat_le (falls_at common takes k) (number_now takes))

-- three times the step that follows that offset
abbrev pub live_ms : Common → List PointsTake → ℕ
live_ms common takes =
    let k = last_offset common takes in 3 * (offset_ms common (suc k) - offset_ms common k)

-- the count after this one: a count has 32 bits, and 0 doesn't come again
abbrev pub next_count : ℕ → ℕ
next_count count = if count == 4294967295 then 1 else count + 1

-- the count of changes
unfoldable pub state : List PointsTake → ℕ
state [] = 0
state (t ∷ older) = if changes_now (t ∷ older) then next_count (state older) else state older

abbrev pub sends_now : Common → List PointsTake → Bool
sends_now common takes = changes_now takes || is_due common takes

-- the count of the last frame since the change, whose own has 0
unfoldable pub sequence : Common → List PointsTake → ℕ
sequence common [] = 0
sequence common (t ∷ older) =
    if changes_now (t ∷ older) then 0
    else if is_due common (t ∷ older) then next_count (sequence common older)
    else sequence common older

-- the frame that is sent at the newest take, if one is
abbrev pub sent : Common → PointsTake → List PointsTake → Send
sent common newest older = record {
  number = newest.number;
  change = change_number (newest ∷ older);
  state = state (newest ∷ older);
  sequence = sequence common (newest ∷ older);
  live_ms = live_ms common (newest ∷ older);
  points = newest.points;
}

-- what is sent at the newest take
abbrev pub send_of : Common → PointsTake → List PointsTake → Option Send
send_of common newest older = if sends_now common (newest ∷ older) then Some (sent common newest older) else None
