-- The published data set at each taken sample, and the frame that is sent there (IEC 61850-8-1).
use Rattle.std.specs.Prelude.{ℕ, Bool, not, ◌==◌, ◌||◌, List, [], ◌∷◌, slice_index, Option, None}
use Rattle.sample_windows.specs.Windows.{at_each}
use Rattle.sample_windows.specs.Numbered.{newest_number}
use Rattle.relay_settings.specs.declared.types.Common.{Common}
use Rattle.relay_settings.specs.Settings.{PlainLine}
use Rattle.loop_impedance.specs.Masks.{mask}
use Rattle.goose_publish.specs.declared.points.Points.{Points}
use Rattle.goose_publish.specs.declared.points.Send.{Send}
use Rattle.goose_publish.specs.Publishing.{PointsTake, take_of, send_of}
use Rattle.line_relay.specs.LineSamples.{Numbered, number_of_sample}
use Rattle.line_relay.specs.Facts.{Facts, facts_of}

-- whether a zone's mask has some loop
abbrev pub has_some : List ℕ → ℕ → Bool
has_some masks place = not (slice_index masks place == 0)

-- some zone has a loop inside
abbrev pub starts : List ℕ → Bool
starts masks = has_some masks 0 || has_some masks 1 || has_some masks 2 || has_some masks 3 || has_some masks 4

-- the mask of the zones that operate in some loop, the lowest bit for the first
abbrev pub zones_mask : List ℕ → ℕ
zones_mask masks = mask (has_some masks 0 ∷ has_some masks 1 ∷ has_some masks 2 ∷ has_some masks 3 ∷ has_some masks 4 ∷ [])

abbrev pub points_of : Facts → Points
points_of facts = record {
  trip = facts.trip;
  start = starts facts.inside;
  swing = facts.swing;
  fuse = facts.fuse;
  zones = zones_mask facts.operate;
  ready = facts.ready;
}

module _ (common : Common) (settings : PlainLine) where
  -- what the publisher takes at the newest sample
  abbrev pub points_take : List Numbered → PointsTake
  points_take past = take_of (newest_number number_of_sample past) (points_of (facts_of common settings past))

  -- the frame that is sent at the newest sample, if one is
  abbrev pub send_at : List Numbered → Option Send
  send_at [] = None
  send_at (s ∷ older) = send_of common (points_take (s ∷ older)) (at_each points_take older)
