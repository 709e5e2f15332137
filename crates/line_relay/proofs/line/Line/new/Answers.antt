use Rattle.std.proofs.Common.{ℕ, ◌^◌, ◌∙◌, ap, refl, sym, subst, List, []}
use Rattle.std.proofs.lemmas.Grind.{merely}
use Rattle.sample_windows.specs.Windows.{at_each}
use Rattle.sample_windows.specs.Numbered.{run_of}
use Rattle.relay_settings.specs.declared.types.LineSettings.{LineSettings}
use Rattle.relay_settings.specs.Ranges.{IsLine}
use Rattle.relay_settings.specs.Settings.{plain_line}
use Rattle.relay_settings.specs.Times.{samples}
use Rattle.memory_volt.specs.KeptMemory.{StandsFor as MemoryStandsFor}
use Rattle.zone_timers.specs.KeptTimers.{StandsFor as TimersStandFor}
use Rattle.trip_logic.specs.KeptTrip.{StandsFor as TripStandsFor}
use Rattle.line_relay.specs.declared.shown.Shown.{Shown}
use Rattle.line_relay.specs.Operate.{delays_of, phase_delays, is_tripped_at}
use Rattle.line_relay.specs.Shown.{facts_shown}
use Rattle.line_relay.proofs.FrontLemmas.{two_cycle, common_rated, common_cycle}
use Rattle.line_relay.proofs.FactLemmas.{facts_none}
use Rattle.line_relay.proofs.line.Line.new.Goals as goal

pub returns : goal.returns
unfolding run_of at_each
returns c =
    let common = c.args.common.now in
    let settings = plain_line c.args.s.now in
    let zones = c.as_slice-zones.ensures.value in (
      record {
        same_common = refl;
        same_settings = ap plain_line c.copy.ensures;
        front = c.in_ok-front.ensures.stands;
        parts = record {
          memory = subst (λ (hold : ℕ). MemoryStandsFor common.n hold [] c.in_ok-memory.memory) c.samples_of.ensures c.in_ok-memory.ensures.stands;
          swing = c.new_swing.ensures;
          fuse = c.new_fuse.ensures;
          timers =
              subst (λ (ground : List ℕ). TimersStandFor ground (phase_delays common settings) [] c.new-3.result)
              (c.ground_delays.ensures.delays ∙ ap (delays_of (λ zone. zone.ground) common.rate) zones)
              (subst (λ (phase : List ℕ). TimersStandFor c.ground_delays.result phase [] c.new-3.result)
              (c.phase_delays.ensures.delays ∙ ap (delays_of (λ zone. zone.phase) common.rate) zones) c.new-3.ensures);
          trip =
              subst (λ (least : ℕ). TripStandsFor least (samples common.rate settings.open_ms) [] c.new-4.result) c.samples_of-2.ensures
              (subst (λ (open_run : ℕ). TripStandsFor c.samples_of-2.result open_run [] c.new-4.result) c.samples_of-3.ensures c.new-4.ensures);
          publisher = c.new-5.ensures;
          shown = ap (λ (shown : Shown). facts_shown shown (is_tripped_at common settings [])) c.new-6.ensures
              ∙ facts_none common settings (two_cycle common c.requires.common);
        };
      },
      c.in_ok-front.ensures.none,
    )

pub invariant_of-result : goal.invariant_of-result
invariant_of-result c = record {
  rated = common_rated c.args.common.now c.requires.common;
  cycle = common_cycle c.args.common.now c.requires.common;
  ranges = subst (λ (l : LineSettings). ∥ IsLine l ∥₁) (sym c.copy.ensures) (merely c.requires.settings);
  remembered = c.in_ok-memory.ensures.small (2 ^ 32);
}
