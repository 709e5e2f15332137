-- When a sample is good, and its values: the data set of a merging unit is IA, IB, IC, IN, UA, UB, UC, UN (IEC 61850-9-2).
use Rattle.std.specs.Prelude.{ℕ, ◌==◌, nat_le, nat_lt, Bool, ◌&&◌, true, false, if◌then◌else◌, List, [], ◌∷◌, ℤ, pos, replicate, slice_index_or}
use Rattle.std.specs.List.{list_all}
use Rattle.std.specs.Int.Bits.{bit_and}
use Rattle.std.specs.Int.RustNames.{unsigned_abs}
use Rattle.relay_num.specs.Bounds.{value_bound}
use Rattle.sv_frame.specs.declared.channel.Channel.{Channel}
use Rattle.sample_stream.specs.declared.sample.Sample.{Sample}

abbrev pub channel : ℕ → List Channel → Channel
channel k channels = slice_index_or channels k (record { value = pos 0; quality = 0 })

-- the quality has no bit of the mask, and the value is below 2 ^ 28 in size
abbrev pub is_fit : ℕ → Channel → Bool
is_fit mask c = (bit_and c.quality mask == 0) && nat_lt (unsigned_abs c.value) value_bound

-- the channels IA, IB, IC, UA, UB and UC are fit, and the clock is
abbrev pub is_good : ℕ → ℕ → ℕ → List Channel → Bool
is_good mask synch_min synch channels =
    nat_le synch_min synch && list_all (λ k. is_fit mask (channel k channels)) (0 ∷ 1 ∷ 2 ∷ 4 ∷ 5 ∷ 6 ∷ [])

-- the values of the channels that are used
abbrev pub used_values : List Channel → List ℤ
used_values channels =
    let value : ℕ → ℤ = λ k. (channel k channels).value in
    value 0 ∷ value 1 ∷ value 2 ∷ pos 0 ∷ value 4 ∷ value 5 ∷ value 6 ∷ pos 0 ∷ []

abbrev pub sample_from : ℕ → ℕ → ℕ → List Channel → Sample
sample_from mask synch_min synch channels =
    if is_good mask synch_min synch channels then record { values = used_values channels; good = true }
    else record { values = replicate 8 (pos 0); good = false }
