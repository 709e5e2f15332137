-- The lines of a configuration that are the same in each.
use Rattle.std.specs.Prelude.{ℕ, List, [], ◌∷◌, ◌++◌, codes}
use Rattle.std.specs.List.{concat}
use Rattle.comtrade_read.specs.Numbers.{line_end, with_ends}

-- without their ends: how many channels, six analogue ones with unit, factor and range, and two status ones
abbrev pub channel_lines : List (List ℕ)
channel_lines =
    codes "8,6A,2D"
    ∷ codes "1,IA,A,,mA,1,0,0,-268435455,268435455,1,1,P"
    ∷ codes "2,IB,B,,mA,1,0,0,-268435455,268435455,1,1,P"
    ∷ codes "3,IC,C,,mA,1,0,0,-268435455,268435455,1,1,P"
    ∷ codes "4,UA,A,,mV,10,0,0,-268435455,268435455,1,1,P"
    ∷ codes "5,UB,B,,mV,10,0,0,-268435455,268435455,1,1,P"
    ∷ codes "6,UC,C,,mV,10,0,0,-268435455,268435455,1,1,P"
    ∷ codes "1,GOOD,,,0"
    ∷ codes "2,TRIP,,,0"
    ∷ []

-- behind the name's comma: the device, the year of the standard, and the channels
unfoldable pub channels_text : List ℕ
channels_text = codes "relay,1999" ++ line_end ++ concat (with_ends channel_lines)

-- the form of the data, and a factor of 1 for its times
unfoldable pub form_text : List ℕ
form_text = codes "ASCII" ++ line_end ++ codes "1" ++ line_end
