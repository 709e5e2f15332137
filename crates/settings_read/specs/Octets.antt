-- The text of a MAC address: six pairs of hexadecimal digits of either case, joined by `-`.
use Rattle.std.specs.Prelude.{ℕ, ◌+◌, ◌-◌, ◌*◌, nat_le, Bool, ◌&&◌, ◌||◌, ◌==◌, if◌then◌else◌, List, [], ◌∷◌, length, slice_index, Option, Some, None, codes}
use Rattle.std.specs.List.{list_all, zip}

-- `0` to `9`, `A` to `F` and `a` to `f`
abbrev pub is_hex : ℕ → Bool
is_hex b = (nat_le 48 b && nat_le b 57) || (nat_le 65 b && nat_le b 70) || (nat_le 97 b && nat_le b 102)

-- the digit's value
abbrev pub hex_value : ℕ → ℕ
hex_value b =
    if nat_le 48 b && nat_le b 57 then b - 48
    else if nat_le 65 b && nat_le b 70 then b - 55
    else if nat_le 97 b && nat_le b 102 then b - 87
    else 0

-- a digit where the form has `0`, and the form's own byte elsewhere
abbrev pub fits_octets : ℕ × ℕ → Bool
fits_octets p = if p.0 == 48 then is_hex p.1 else (p.0 == p.1)

abbrev pub octets_form : List ℕ
octets_form = codes "00-00-00-00-00-00"

abbrev pub has_octets_form : List ℕ → Bool
has_octets_form text = (length text == 17) && list_all fits_octets (zip octets_form text)

-- the octet of two digits from a place on
abbrev pub octet : List ℕ → ℕ → ℕ
octet text at = hex_value (slice_index text at) * 16 + hex_value (slice_index text (at + 1))

unfoldable pub octets_of_word : List ℕ → Option (List ℕ)
octets_of_word text =
    if has_octets_form text
    then Some (octet text 0 ∷ octet text 3 ∷ octet text 6 ∷ octet text 9 ∷ octet text 12 ∷ octet text 15 ∷ [])
    else None
