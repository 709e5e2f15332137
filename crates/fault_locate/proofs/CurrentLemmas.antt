-- What a lookback answers is no larger than what it was given.
use Rattle.std.proofs.Common.{◌≡◌, ◌∙◌, zero, Bool, true, false, ap, sym, subst, arith, List, [], ◌∷◌}
use Rattle.std.specs.Prelude.{Option, None, slice_get, if◌then◌else◌, All}
use Rattle.std.specs.Option.{option_flatten}
use Rattle.relay_num.specs.declared.Cx.{Cx}
use Rattle.fault_locate.specs.KeptCurrents.{AreCurrents}

none_currents : AreCurrents None
none_currents i e = cc

first_currents : (items : List (Option (List Cx))) → All AreCurrents items → AreCurrents (option_flatten (slice_get items 0))
first_currents [] all = none_currents
first_currents (i ∷ items) all = all zero i (omega arith)

left_currents : (items : List (Option (List Cx))) (b : Bool) → All AreCurrents items → AreCurrents (option_flatten (if b then None else slice_get items 0))
left_currents items true all = none_currents
left_currents items false all = first_currents items all

pub oldest_currents : (items : List (Option (List Cx))) (b : Bool) (oldest : Option (Option (List Cx))) (before : Option (List Cx)) → All AreCurrents items →
    oldest ≡ (if b then None else slice_get items 0) → before ≡ option_flatten oldest → AreCurrents before
oldest_currents items b oldest before all is flat = subst AreCurrents (sym (flat ∙ ap option_flatten is)) (left_currents items b all)
