-- A section as plain data.
use Rattle.std.specs.Prelude.{ℕ, ◌+◌, ◌≤◌, ◌<◌}
use Rattle.capture_feed.specs.Pcapng.{PlainSection}
use Rattle.capture_feed.specs.declared.section.Section.{Section}
use Rattle.capture_feed.specs.declared.content.Content.{Content}
use Rattle.capture_feed.specs.declared.content.Content.TheVariants.{Description, Packet, Passed}

abbrev pub plain_section : Section → PlainSection
plain_section section = record { is_big = section.is_big; interfaces = section.interfaces.items }

-- a packet is within its block, and an interface finds room behind so many
abbrev pub IsWithin : ℕ → ℕ → Content → Type 0
IsWithin total count (Packet from captured) = (12 ≤ from) × (from ≤ 28) × (from + 4 + captured ≤ total)
IsWithin total count (Description interface) = count < 256
IsWithin total count Passed = Unit {0}

abbrev pub IsRoomFor : ℕ → Content → Type 0
IsRoomFor count (Description interface) = count < 256
IsRoomFor count (Packet from captured) = Unit {0}
IsRoomFor count Passed = Unit {0}
