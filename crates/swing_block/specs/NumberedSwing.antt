-- Blocking by power swing over numbered samples, the newest first, whose numbers may have gaps. Each fact is of the
-- samples up to one of them; a swing takes the samples of the run of ready ones that ends at the newest.
use Rattle.std.specs.Prelude.{ℕ, ◌≡◌, ◌-◌, nat_lt, Bool, false, not, ◌&&◌, List, []}
use Rattle.sample_windows.specs.Below.{any_below, greatest_below}
use Rattle.sample_windows.specs.Numbered.{newest_number, up_to, Rises, held_for, run_of, of_run}
use Rattle.relay_settings.specs.declared.types.SwingSettings.{SwingSettings}
use Rattle.relay_settings.specs.Times.{samples}
use Rattle.swing_block.specs.declared.blinders.SwingPlace.{SwingPlace}
use Rattle.swing_block.specs.Swinging.{SwingTake, take_of, is_between, is_within, is_swing}

module _ {X : Type 0} (number : X → ℕ) (ready unbalanced : List X → Bool) (place : List X → SwingPlace) where
  -- how many numbers in a row, ending at the newest, are ready and within the outer blinder
  abbrev pub run_at : List X → ℕ
  run_at past = run_of number (λ s. ready s && is_within (place s)) past

  -- whether a swing was declared so many numbers back: the last `pass` numbers up to that one are ready and between
  abbrev pub declared_at : ℕ → List X → ℕ → Bool
  declared_at pass past back =
      held_for number pass (λ s. ready s && is_between (place s)) (up_to number (newest_number number past - back) past)

  abbrev pub blocks_at : ℕ → ℕ → List X → Bool
  blocks_at pass most past =
      ready past && not (unbalanced past)
      && any_below (run_at past) (declared_at pass past)
      && nat_lt (greatest_below (run_at past) (declared_at pass past)) most

  -- the same by the settings, at so many samples a second
  abbrev pub is_swing_at : SwingSettings → ℕ → List X → Bool
  is_swing_at s rate past = blocks_at (samples rate s.pass_ms) (samples rate s.max_ms) past

  -- what a swing takes at the newest sample
  abbrev pub swing_take : List X → SwingTake
  swing_take past = take_of (place past) (unbalanced past)

-- The law: a swing that takes each ready sample and is cleared at any other answers the rule over numbers. Of no
-- samples, none is ready.
abbrev pub SwingsByNumber : Type 0 → Type 0
SwingsByNumber X =
    (number : X → ℕ) (ready unbalanced : List X → Bool) (place : List X → SwingPlace)
    (s : SwingSettings) (rate : ℕ) (past : List X) →
    ready [] ≡ false → Rises number past →
    is_swing s rate (of_run number ready (swing_take number ready unbalanced place) past)
    ≡ is_swing_at number ready unbalanced place s rate past
