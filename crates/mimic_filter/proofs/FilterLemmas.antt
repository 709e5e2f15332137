-- The filter, lane by lane or a whole vector at a time.
use Rattle.std.proofs.Common.{◌≡◌, List, [], ◌∷◌, map, ℤ, pos, neg_ℤ, refl, ap}
use Rattle.std.specs.Int.{int_min, int_max}
use Rattle.relay_num.specs.Numbers.{floor_div}
use Rattle.lanes.specs.Lanes.{differences, multiples}
use Rattle.mimic_filter.specs.Mimic.{filtered, filtered_lanes}

-- the filter, lane by lane or a whole vector at a time
pub filter_by_lane : (a b : ℤ) (now before : List ℤ)
    → map (λ x. int_max x (neg_ℤ (pos 268435455))) (map (λ x. int_min x (pos 268435455)) (map (λ x. floor_div x 1024) (differences (multiples now a) (multiples before b)))) ≡ filtered_lanes a b now before
filter_by_lane a b [] before = refl
filter_by_lane a b (x ∷ xs) [] = refl
filter_by_lane a b (x ∷ xs) (y ∷ ys) = ap (λ zs. filtered a b x y ∷ zs) (filter_by_lane a b xs ys)
