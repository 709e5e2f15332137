-- The data set of a merging unit (IEC 61850-9-2): IA, IB, IC, IN, UA, UB, UC and UN, each a value and a quality word.
use Rattle.std.specs.Prelude.{ℕ, ◌+◌, ◌==◌, if◌then◌else◌, List, [], ◌∷◌, length, drop, Option, Some, None}
use Rattle.std.specs.Int.{w32, cast_signed}
use Rattle.byteorder.specs.Endian.{big_number}
use Rattle.sv_frame.specs.declared.channel.Channel.{Channel}

-- a signed value of four bytes, and a word of four, the most significant byte first
unfoldable pub channel_at : List ℕ → ℕ → Channel
channel_at bytes place = record { value = cast_signed w32 (big_number 4 (drop place bytes)); quality = big_number 4 (drop (place + 4) bytes) }

-- the eight channels, where the data has 64 bytes
abbrev pub channels_of : List ℕ → Option (List Channel)
channels_of bytes = if length bytes == 64
    then Some (channel_at bytes 0 ∷ channel_at bytes 8 ∷ channel_at bytes 16 ∷ channel_at bytes 24 ∷ channel_at bytes 32 ∷ channel_at bytes 40 ∷ channel_at bytes 48 ∷ channel_at bytes 56 ∷ [])
    else None
