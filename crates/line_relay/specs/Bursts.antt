-- What a line brings at each of its sample sets, over the list of all of them, the newest first.
use Rattle.std.specs.Prelude.{ℕ, ◌≡◌, List, [], ◌∷◌, ◌++◌, Option, Some, None}
use Rattle.std.specs.Option.{option_map}
use Rattle.relay_settings.specs.declared.types.Common.{Common}
use Rattle.relay_settings.specs.Settings.{PlainLine}
use Rattle.sv_frame.specs.Asdu.{PlainAsdu}
use Rattle.event_record.specs.declared.time.At.{At}
use Rattle.event_record.specs.declared.event.Event.{Event}
use Rattle.event_record.specs.Time.{time_of}
use Rattle.goose_publish.specs.declared.points.Send.{Send}
use Rattle.line_relay.specs.declared.burst.Burst.{Burst}
use Rattle.line_relay.specs.LineSamples.{Numbered}
use Rattle.line_relay.specs.Facts.{Facts, facts_of}
use Rattle.line_relay.specs.Outcomes.{number_taken, taken_samples, taken_number, outcome_of}
use Rattle.line_relay.specs.Events.{arrival, changes, told}
use Rattle.line_relay.specs.Points.{send_at}

-- events in the order in which they are told, and the frame that is sent behind them
pub record PlainBurst : Type 0 where
  pub events : List Event
  pub send : Option Send

abbrev pub plain_burst : Burst → PlainBurst
plain_burst burst = record { events = burst.events.items; send = burst.send }

module _ (common : Common) (settings : PlainLine) where
  -- what holds at the newest taken sample, formed anew from all of them
  abbrev pub facts : List PlainAsdu → Facts
  facts asdus = facts_of common settings (taken_samples common settings asdus)

  -- the moment of the newest taken sample
  abbrev pub moment : List PlainAsdu → Option At
  moment asdus = option_map (time_of common) (taken_number common settings asdus)

  -- the frame is sent at the sample of a sample set that is taken
  abbrev pub sent_by : Option ℕ → List Numbered → Option Send
  sent_by None past = None
  sent_by (Some number) past = send_at common settings past

  -- The burst of the newest sample set: how it came, and what changes by it, at the newest taken sample by then.
  abbrev pub burst : List PlainAsdu → PlainBurst
  burst [] = record { events = []; send = None }
  burst (a ∷ older) = record {
    events = told (moment (a ∷ older)) (arrival a.counter (outcome_of common settings a older) ++ changes (facts older) (facts (a ∷ older)));
    send = sent_by (number_taken (outcome_of common settings a older)) (taken_samples common settings (a ∷ older));
  }

-- what later sample sets bring is the same where one that isn't taken is left out
abbrev pub UntakenKeeps : Type 0
UntakenKeeps = (common : Common) (settings : PlainLine) (later : List PlainAsdu) (next a : PlainAsdu) (older : List PlainAsdu) →
    number_taken (outcome_of common settings a older) ≡ None →
    burst common settings (next ∷ (later ++ a ∷ older)) ≡ burst common settings (next ∷ (later ++ older))
