-- What is told of a sample set: how it came, and each fact that isn't as it was.
use Rattle.std.specs.Prelude.{ℕ, zero, suc, ◌+◌, Bool, true, false, List, [], ◌∷◌, ◌++◌, slice_index, Option, map}
use Rattle.sample_stream.specs.declared.numberer.Taken.TheVariants as taken
use Rattle.event_record.specs.declared.time.At.{At}
use Rattle.event_record.specs.declared.event.What.{What}
use Rattle.event_record.specs.declared.event.What.TheVariants.{First, Jump, Ready, Lost, SwingOn, SwingOff, FuseOn, FuseOff, Entered, Left, Operate, Trip, Reset, ConfRev, Length, Wild, Repeat, Late}
use Rattle.event_record.specs.declared.event.Event.{Event}
use Rattle.event_record.specs.declared.event.Event.TheVariants.{Line}
use Rattle.line_relay.specs.declared.front.Outcome.{Outcome}
use Rattle.line_relay.specs.declared.front.Outcome.TheVariants as outcomes
use Rattle.line_relay.specs.declared.events.LoopFact.{LoopFact}
use Rattle.line_relay.specs.declared.events.LoopFact.TheVariants.{Inside, Operates}
use Rattle.loop_impedance.specs.Masks.{has_bit}
use Rattle.line_relay.specs.Facts.{Facts}

-- how a sample set with this counter came; a next one is not told
abbrev pub arrival : ℕ → Outcome → List What
arrival counter (outcomes.ConfRev got) = ConfRev got ∷ []
arrival counter (outcomes.Length got) = Length got ∷ []
arrival counter (outcomes.Counter (taken.First number)) = First ∷ []
arrival counter (outcomes.Counter (taken.Next number)) = []
arrival counter (outcomes.Counter (taken.Jump number missing)) = Jump missing ∷ []
arrival counter (outcomes.Counter taken.Repeat) = Repeat counter ∷ []
arrival counter (outcomes.Counter (taken.Late behind)) = Late counter behind ∷ []
arrival counter (outcomes.Counter taken.Wild) = Wild counter ∷ []

-- a fact that begins, or ends
abbrev pub edge : What → What → Bool → Bool → List What
edge on off false true = on ∷ []
edge on off true false = off ∷ []
edge on off false false = []
edge on off true true = []

-- a fact that begins
abbrev pub begins : What → Bool → Bool → List What
begins on false true = on ∷ []
begins on false false = []
begins on true now = []

-- f 0 and then f 1 and so on, before f n
unfoldable pub concat_below : {X : Type 0} → ℕ → (ℕ → List X) → List X
concat_below zero f = []
concat_below (suc n) f = concat_below n f ++ f n

-- a fact of a loop in a zone of this number: inside is told as it begins and as it ends, operating as it begins
abbrev pub loop_edge : LoopFact → ℕ → ℕ → Bool → Bool → List What
loop_edge Inside zone lp before now = edge (Entered zone lp) (Left zone lp) before now
loop_edge Operates zone lp before now = begins (Operate zone lp) before now

-- of a zone's loops, in their order
unfoldable pub loop_edges : LoopFact → ℕ → ℕ → ℕ → List What
loop_edges fact zone before now = concat_below 6 (λ lp. loop_edge fact zone lp (has_bit lp before) (has_bit lp now))

-- of the five zones, in their order, numbered from 1
unfoldable pub zone_edges : LoopFact → List ℕ → List ℕ → List What
zone_edges fact before now = concat_below 5 (λ place. loop_edges fact (place + 1) (slice_index before place) (slice_index now place))

-- what is told where the facts were one and are the other
abbrev pub changes : Facts → Facts → List What
changes before now =
    edge Ready Lost before.ready now.ready
    ++ edge SwingOn SwingOff before.swing now.swing
    ++ edge FuseOn FuseOff before.fuse now.fuse
    ++ zone_edges Inside before.inside now.inside
    ++ zone_edges Operates before.operate now.operate
    ++ edge Trip Reset before.trip now.trip

-- each as an event at this moment
abbrev pub told : Option At → List What → List Event
told at whats = map (λ what. Line at what) whats
