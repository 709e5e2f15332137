-- What a drill counts, sample set by sample set.
use Rattle.std.proofs.Common.{◌≡◌, ◌∙◌, ℕ, ◌+◌, List, [], ◌∷◌, length, sym, ap, arith}
use Rattle.std.specs.Prelude.{Option, None, Some, is_some, if◌then◌else◌}
use Rattle.std.specs.Option.{option_map}
use Rattle.std.specs.List.{count_by}
use Rattle.sv_frame.specs.Asdu.{PlainAsdu}
use Rattle.relay_settings.specs.Settings.{PlainSettings}
use Rattle.line_relay.specs.Bursts.{PlainBurst}
use Rattle.line_bank.specs.Owners.{owner}
use Rattle.line_bank.specs.Banks.{told_by}
use Rattle.station.specs.Told.{Told, told, tells_by}
use Rattle.station.specs.KeptStation.{IsTold}
use Rattle.relay_tool.specs.Tallies.{told_sum, count_of, events_of, sends_of, trips_of, is_trip}
use Rattle.relay_tool.specs.KeptTally.{Counts}
use Rattle.relay_tool.specs.declared.tally.Count.{Count}

sum-next : (count : Told → ℕ) (settings : PlainSettings) (past : List PlainAsdu) (a : PlainAsdu) (o : Option Told) → told settings (a ∷ past) ≡ o → told_sum count settings (a ∷ past) ≡ told_sum count settings past + count_of count o
unfolding told_sum
sum-next count settings past a o is = ap (λ t. told_sum count settings past + count_of count t) is

-- the owner's burst was counted
pub counts-told : (settings : PlainSettings) (past : List PlainAsdu) (a : PlainAsdu) (place : ℕ) (burst : PlainBurst) (old new : Count) → IsTold settings (a ∷ past) place burst → Counts settings past old →
    new.events ≡ old.events + length burst.events → new.sends ≡ old.sends + (if is_some burst.send then 1 else 0) → new.trips ≡ old.trips + count_by is_trip burst.events → Counts settings (a ∷ past) new
counts-told settings past a place burst old new is counts events sends trips =
    let told_is : Told = record { line = is.line; told = burst } in
    record {
      events = events ∙ (ap (λ n. n + length burst.events) counts.events ∙ sym (sum-next events_of settings past a (Some told_is) is.is));
      sends = sends ∙ (ap (λ n. n + (if is_some burst.send then 1 else 0)) counts.sends ∙ sym (sum-next sends_of settings past a (Some told_is) is.is));
      trips = trips ∙ (ap (λ n. n + count_by is_trip burst.events) counts.trips ∙ sym (sum-next trips_of settings past a (Some told_is) is.is));
    }

-- no line owns the sample set
pub counts-none : (settings : PlainSettings) (past : List PlainAsdu) (a : PlainAsdu) (count : Count) → owner a settings.lines ≡ None → Counts settings past count → Counts settings (a ∷ past) count
counts-none settings past a count none counts =
    let nothing : told settings (a ∷ past) ≡ None = ap (option_map (told_by (tells_by settings) a past)) none in
    record {
      events = counts.events ∙ sym (sum-next events_of settings past a None nothing ∙ add-none (told_sum events_of settings past));
      sends = counts.sends ∙ sym (sum-next sends_of settings past a None nothing ∙ add-none (told_sum sends_of settings past));
      trips = counts.trips ∙ sym (sum-next trips_of settings past a None nothing ∙ add-none (told_sum trips_of settings past));
    }
  where
    add-none : (n : ℕ) → n + 0 ≡ n
    add-none n = omega arith

pub counts-begin : (settings : PlainSettings) (count : Count) → count.events ≡ 0 → count.sends ≡ 0 → count.trips ≡ 0 → Counts settings [] count
unfolding told_sum
counts-begin settings count events sends trips = record { events = events; sends = sends; trips = trips }
