-- What a swing holds after the takes since the last clear.
use Rattle.std.specs.Prelude.{ℕ, ◌≡◌, min, List, Option, Some, None, if◌then◌else◌}
use Rattle.std.specs.List.{prefix_len}
use Rattle.relay_settings.specs.declared.types.SwingSettings.{SwingSettings}
use Rattle.relay_settings.specs.Times.{samples}
use Rattle.swing_block.specs.Swinging.{SwingTake, is_between, was_declared, first_declared}
use Rattle.swing_block.specs.declared.swing.Swing.{Swing}

-- how many takes in a row, ending at the newest, are between
abbrev pub between_run : List SwingTake → ℕ
between_run takes = prefix_len (λ t. is_between t.place) takes

-- how many takes ago a swing was first declared in the run, counted up to `most`
abbrev pub age_of : ℕ → ℕ → List SwingTake → Option ℕ
age_of pass most takes = if was_declared pass takes then Some (min (first_declared pass takes) most) else None

-- the swing after these takes, with these settings and so many samples a second
pub record StandsFor (s : SwingSettings) (rate : ℕ) (takes : List SwingTake) (swing : Swing) : Type 0 where
  pub pass : swing.pass ≡ samples rate s.pass_ms
  pub most : swing.most ≡ samples rate s.max_ms
  pub between : swing.between ≡ min (between_run takes) swing.pass
  pub age : swing.age ≡ age_of swing.pass swing.most takes
