-- What the element of a phase holds: it has added the excesses of the run of picked up samples that ends at the newest.
use Rattle.std.specs.Prelude.{ℕ, ◌≡◌, Bool, true, false, ◌&&◌, nat_le, if◌then◌else◌, List, [], ◌∷◌, Option, Some, None}
use Rattle.std.specs.List.{sum}
use Rattle.relay_num.specs.declared.Cx.{Cx}
use Rattle.inverse_time.specs.declared.curve.Dial.{Dial}
use Rattle.inverse_time.specs.declared.element.Element.{Element}
use Rattle.inverse_time.specs.Multiples.{multiple_of}
use Rattle.inverse_time.specs.InverseCurves.{excess_of, is_enough}

abbrev pub has_any : List ℕ → Bool
has_any [] = false
has_any (x ∷ run) = true

-- what a current adds where it picks up; there is none where the sample isn't ready
abbrev pub excess_by : Dial → ℕ → Option Cx → Option ℕ
excess_by dial n None = None
excess_by dial n (Some p) =
    if nat_le 1000000 (multiple_of p n dial.pickup) then Some (excess_of dial.curve (multiple_of p n dial.pickup)) else None

-- the element after this run, at so many samples a second; it adds nothing once it is done
pub record StandsFor (dial : Dial) (rate : ℕ) (run : List ℕ) (element : Element) : Type 0 where
  pub picked : element.facts.picked ≡ has_any run
  pub done : element.facts.done ≡ (has_any run && is_enough dial.curve dial.tms rate (sum run))
  pub added : element.facts.done ≡ false → element.sum ≡ sum run
