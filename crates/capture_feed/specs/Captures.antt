-- The records of a capture, in the format that its first 24 bytes show.
use Rattle.std.specs.Prelude.{ℕ, Bool, nat_lt, if◌then◌else◌, List, length, drop, Option, None, Some}
use Rattle.std.specs.Option.{option_map}
use Rattle.capture_feed.specs.Records.{Records, records_from}
use Rattle.capture_feed.specs.Pcap.{pcap_order, first_record}
use Rattle.capture_feed.specs.Pcapng.{is_pcapng_header, no_section, first_block}

-- a pcap file, with its byte order, or a pcapng file
pub data Format : Type 0 where
  Pcap : Bool → Format
  Pcapng : Format

-- the format that these 24 bytes of header show; none where they are none
abbrev pub header_format : List ℕ → Option Format
header_format bytes = if is_pcapng_header bytes then Some Pcapng else option_map Pcap (pcap_order bytes)

-- the format of the file that begins so; none where it has no header
abbrev pub format : List ℕ → Option Format
format bytes = if nat_lt (length bytes) 24 then None else header_format bytes

-- the records of a file of this format
abbrev pub records_in : Format → ℕ → List ℕ → Records
records_in (Pcap is_big) limit bytes = records_from first_record limit is_big 24 (drop 24 bytes)
records_in Pcapng limit bytes = records_from first_block limit no_section 0 bytes

-- the records of a file, in which no piece begins at `limit` or later; none where it has no header
abbrev pub records : List ℕ → ℕ → Option Records
records bytes limit = option_map (λ format. records_in format limit bytes) (format bytes)
