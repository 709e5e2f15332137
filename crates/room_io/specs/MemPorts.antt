-- What one call on a slot of a room in memory does: how it is counted, whether it fails, and how much it takes.
use Rattle.std.specs.Prelude.{ℕ, ◌+◌, ◌-◌, ◌^◌, min, Bool, ◌==◌, if◌then◌else◌}
use Rattle.std.specs.List.{list_any}
use Rattle.room_io.specs.MemParts.{Trial}

-- a count that stays at the end of its type
abbrev pub next_count : ℕ → ℕ
next_count count = min (count + 1) (2 ^ 64 - 1)

-- the count after a call that failed, or went well
abbrev pub counted_if : Bool → ℕ → ℕ
counted_if failed count = if failed then next_count count else count

-- one call more
abbrev pub call_counted : Trial → Trial
call_counted old = record old { calls = next_count old.calls }

-- the next call is one that is to fail
abbrev pub is_next_noted : Trial → Bool
is_next_noted trial = list_any (λ call. call == next_count trial.calls) trial.failing

-- how many bytes a read or a write takes, of those wanted and those left
abbrev pub piece : ℕ → ℕ → ℕ → ℕ
piece most wanted left = min (min most wanted) left
