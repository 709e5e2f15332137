-- Blocking by power swing (Phadke and Thorp, Computer Relaying for Power Systems), over the takes since the last clear,
-- the newest first. A take is one ready sample.
use Rattle.std.specs.Prelude.{ℕ, nat_lt, Bool, true, false, not, ◌&&◌, List, [], ◌∷◌, drop}
use Rattle.std.specs.List.{prefix_len}
use Rattle.sample_windows.specs.Below.{any_below, greatest_below}
use Rattle.sample_windows.specs.Windows.{each_of_last}
use Rattle.relay_settings.specs.declared.types.SwingSettings.{SwingSettings}
use Rattle.relay_settings.specs.Times.{samples}
use Rattle.swing_block.specs.declared.blinders.SwingPlace.{SwingPlace}
use Rattle.swing_block.specs.declared.blinders.SwingPlace.TheVariants.{Outside, Between, Inner}

-- what a take says: where the impedance lies, and whether the line is unbalanced
pub record SwingTake : Type 0 where
  pub place : SwingPlace
  pub unbalanced : Bool

abbrev pub take_of : SwingPlace → Bool → SwingTake
take_of place unbalanced = record { place = place; unbalanced = unbalanced }

abbrev pub is_between : SwingPlace → Bool
is_between Outside = false
is_between Between = true
is_between Inner = false

-- within the outer blinder
abbrev pub is_within : SwingPlace → Bool
is_within Outside = false
is_within Between = true
is_within Inner = true

-- A swing is declared at the newest take where the last `pass` takes were all between.
abbrev pub is_declared : ℕ → List SwingTake → Bool
is_declared pass takes = each_of_last pass (λ t. is_between t.place) takes

-- how many takes in a row, ending at the newest, are within the outer blinder
abbrev pub run : List SwingTake → ℕ
run takes = prefix_len (λ t. is_within t.place) takes

-- whether a swing was declared at some take of the run
unfoldable pub was_declared : ℕ → List SwingTake → Bool
was_declared pass takes = any_below (run takes) (λ back. is_declared pass (drop back takes))

-- how many takes back in the run it was first declared
unfoldable pub first_declared : ℕ → List SwingTake → ℕ
first_declared pass takes = greatest_below (run takes) (λ back. is_declared pass (drop back takes))

abbrev pub unbalanced_now : List SwingTake → Bool
unbalanced_now [] = false
unbalanced_now (t ∷ older) = t.unbalanced

-- There is a swing at the newest take where one was declared in the run, first less than `most` takes ago, and the line
-- isn't unbalanced.
abbrev pub blocks : ℕ → ℕ → List SwingTake → Bool
blocks pass most takes =
    (was_declared pass takes && nat_lt (first_declared pass takes) most) && not (unbalanced_now takes)

-- the same by the settings, at so many samples a second
abbrev pub is_swing : SwingSettings → ℕ → List SwingTake → Bool
is_swing s rate takes = blocks (samples rate s.pass_ms) (samples rate s.max_ms) takes
