-- Sample numbering: the outcome of each counter (smpCnt of IEC 61850-9-2), over the list of all counters, the newest first.
use Rattle.std.specs.Prelude.{ℕ, ◌≡◌, ◌≢◌, ◌<◌, ◌≤◌, ◌+◌, ◌-◌, ◌%◌, ◌==◌, nat_le, Bool, if◌then◌else◌, List, [], ◌∷◌, Option, Some, None}
use Rattle.sample_windows.specs.Below.{any_below, least_below}
use Rattle.sample_stream.specs.Taken.{number_of}
use Rattle.sample_stream.specs.declared.numberer.Taken.{Taken}
use Rattle.sample_stream.specs.declared.numberer.Taken.TheVariants.{First, Next, Jump, Repeat, Late, Wild}
use Rattle.sample_stream.specs.declared.numberer.Numberer.{Numberer}

-- the same counter of a second
abbrev pub is_congruent : ℕ → ℕ → ℕ → Bool
is_congruent rate a b = a % rate == b % rate

-- by how many the counter is behind the last number, from 1 to 64, less one; or 64
unfoldable pub behind : ℕ → ℕ → ℕ → ℕ
behind rate last counter = least_below 64 (λ b. is_congruent rate (counter + (b + 1)) last)

-- the one number after the last that is congruent to the counter and isn't too far ahead
unfoldable pub next_number : ℕ → ℕ → ℕ → ℕ
next_number rate last counter = last + 1 + least_below (rate - 65) (λ j. is_congruent rate (last + 1 + j) counter)

-- with the number behind the last one, or after a gap
abbrev pub taken_as : ℕ → ℕ → Taken
taken_as last number = if number == last + 1 then Next number else Jump number (number - last - 1)

-- What becomes of a counter below the rate after the last number: the same again, one of the 64 before, or the next one ahead.
unfoldable pub outcome_after : ℕ → ℕ → ℕ → Taken
outcome_after rate last counter =
    if is_congruent rate counter last then Repeat
    else if any_below 64 (λ b. is_congruent rate (counter + (b + 1)) last) then Late (behind rate last counter + 1)
    else taken_as last (next_number rate last counter)

-- what becomes of a counter below the rate: the first is its own number
abbrev pub outcome_below : ℕ → Option ℕ → ℕ → Taken
outcome_below rate None counter = First counter
outcome_below rate (Some last) counter = outcome_after rate last counter

-- what becomes of a counter after the last number, if there is one
abbrev pub outcome : ℕ → Option ℕ → ℕ → Taken
outcome rate last counter = if nat_le rate counter then Wild else outcome_below rate last counter

-- the newer of two numbers, where there is one
abbrev pub newer_or : Option ℕ → Option ℕ → Option ℕ
newer_or None before = before
newer_or (Some number) before = Some number

-- the newest number that was taken
abbrev pub last_number : List Taken → Option ℕ
last_number [] = None
last_number (o ∷ older) = newer_or (number_of o) (last_number older)

-- the outcome of each counter
abbrev pub outcomes : ℕ → List ℕ → List Taken
outcomes rate [] = []
outcomes rate (counter ∷ older) = outcome rate (last_number (outcomes rate older)) counter ∷ outcomes rate older

-- the last number of a numberer, and its rate
abbrev pub last_of : Numberer → Option ℕ
last_of numberer = numberer.last

abbrev pub rate_of : Numberer → ℕ
rate_of numberer = numberer.rate

-- the numberer after these counters
pub record StandsFor (rate : ℕ) (counters : List ℕ) (numberer : Numberer) : Type 0 where
  pub same_rate : rate_of numberer ≡ rate
  pub last : last_of numberer ≡ last_number (outcomes rate counters)

-- how an outcome follows the last number
abbrev pub Follows : Option ℕ → Taken → Type 0
Follows None (First number) = Unit {0}
Follows None (Next number) = ⊥
Follows None (Jump number missing) = ⊥
Follows (Some last) (First number) = ⊥
Follows (Some last) (Next number) = number ≡ last + 1
Follows (Some last) (Jump number missing) = (number ≡ last + 1 + missing) × (0 < missing)
Follows last Repeat = Unit {0}
Follows last (Late b) = Unit {0}
Follows last Wild = Unit {0}

-- the number is after the last, less than the rate without 64 ahead of it, and congruent to the counter
pub record IsNextNumber (rate last counter number : ℕ) : Type 0 where
  pub after : last < number
  pub near : number + 64 < last + rate
  pub congruent : number % rate ≡ counter

-- A counter that neither repeats nor is late is taken with a number, and no other number would do.
abbrev pub NumbersAreUnique : Type 0
NumbersAreUnique = (rate last counter : ℕ) → 65 < rate → counter < rate →
    (last % rate ≢ counter) → ((b : ℕ) → 1 ≤ b → b ≤ 64 → last % rate ≢ (counter + b) % rate) →
    (outcome_after rate last counter ≡ taken_as last (next_number rate last counter))
    × IsNextNumber rate last counter (next_number rate last counter)
    × ((number : ℕ) → IsNextNumber rate last counter number → number ≡ next_number rate last counter)
