use Rattle.std.proofs.Common.{◌≡◌, ◌∙◌, ℕ, ◌≤◌, ap, ap₂, sym, subst, List, ◌∷◌, ◌++◌, Option, Some, None, refl}
use Rattle.std.specs.Prelude.{is_some, IfSome}
use Rattle.std.specs.Option.{option_map}
use Rattle.std.specs.List.{All}
use Rattle.std.proofs.lemmas.List.Elements.{All-append}
use Rattle.sample_windows.specs.Windows.{at_each}
use Rattle.relay_settings.specs.Settings.{PlainLine, plain_line}
use Rattle.relay_settings.specs.Times.{samples}
use Rattle.relay_settings.specs.Ranges.{IsSwing, IsFuse}
use Rattle.relay_settings.specs.declared.types.Common.{Common}
use Rattle.relay_settings.specs.declared.types.SwingSettings.{SwingSettings}
use Rattle.relay_settings.specs.declared.types.FuseSettings.{FuseSettings}
use Rattle.memory_volt.specs.Polarising.{VoltTake, polarising}
use Rattle.memory_volt.specs.KeptMemory.{StandsFor as MemoryStandsFor}
use Rattle.zone_timers.specs.Operate.{operated_masks}
use Rattle.zone_timers.specs.KeptTimers.{StandsFor as TimersStandFor}
use Rattle.trip_logic.specs.declared.TripState.{TripState}
use Rattle.trip_logic.specs.Takes.{TripTake, take_of, Follows, state_of, changed}
use Rattle.trip_logic.specs.KeptTrip.{StandsFor as TripStandsFor}
use Rattle.trip_logic.proofs.NumberedTripLemmas.{state_numbered, follows_numbered}
use Rattle.event_record.specs.Time.{time_of}
use Rattle.goose_publish.specs.Publishing.{PointsTake, take_of as points_take_of, RisesTo, send_of}
use Rattle.goose_publish.specs.Publishers.{StandsFor as PublisherStandsFor}
use Rattle.event_record.specs.Printable.{IsPrintable}
use Rattle.line_relay.specs.declared.measured.Measured.{Measured}
use Rattle.line_relay.specs.Measured.{measured}
use Rattle.line_relay.specs.declared.shown.Shown.{Shown}
use Rattle.line_relay.specs.LineSamples.{Numbered, number_of_sample}
use Rattle.line_relay.specs.Guards.{is_ready_at, polarising_at, is_swing_at, is_blown_at}
use Rattle.line_relay.specs.Operate.{ground_delays, phase_delays, trips_at, is_dead_at, is_tripped_at}
use Rattle.line_relay.specs.Facts.{facts_of, inside_at, operate_at}
use Rattle.line_relay.specs.Points.{points_of, points_take}
use Rattle.line_relay.specs.Events.{told, changes}
use Rattle.line_relay.specs.Shown.{facts_shown}
use Rattle.line_relay.specs.KeptGuards.{next_run, volt_take, swing_take, fuse_take}
use Rattle.line_relay.specs.Decided.{trips_by, dead_by}
use Rattle.line_relay.specs.KeptLine.{kept_by, volt_takes, swing_takes, fuse_takes, trip_take}
use Rattle.line_relay.specs.Noted.{IsNext}
use Rattle.line_relay.proofs.FrontLemmas.{cycle_two}
use Rattle.line_relay.proofs.RangeProps.{ranges_of}
use Rattle.line_relay.specs.Published.{shown_take, IsNextTake}
use Rattle.line_relay.proofs.NextLemmas
use Rattle.line_relay.proofs.PublishedLemmas.{still, same_points}
use Rattle.line_relay.proofs.EventLemmas.{shown_changes-are, changes-printable, told-printable, time-printable}
use Rattle.line_relay.proofs.line.Line.note.Given as given
use Rattle.line_relay.proofs.line.Line.note.Goals as goal

pub take_swing-swing-requires-clause-settings : goal.take_swing-swing-requires-clause-settings
take_swing-swing-requires-clause-settings g c x e =
    subst (λ (o : Option SwingSettings). IfSome o IsSwing) e (ranges_of c.args.self.now.settings c.args.self.now.ranges).swing

pub take_fuse-fuse-requires-clause-settings : goal.take_fuse-fuse-requires-clause-settings
take_fuse-fuse-requires-clause-settings g c x e =
    subst (λ (o : Option FuseSettings). IfSome o IsFuse) e (ranges_of c.args.self.now.settings c.args.self.now.ranges).fuse

pub inside_masks-inside-requires-clause-settings : goal.inside_masks-inside-requires-clause-settings
inside_masks-inside-requires-clause-settings g c = ranges_of c.args.self.now.settings c.args.self.now.ranges

pub inside_masks-inside-requires-clause-polarising : goal.inside_masks-inside-requires-clause-polarising
inside_masks-inside-requires-clause-polarising g c = (c.polarise-polarising.ensures.small c.args.self.now.remembered).0

pub is_dead-dead-requires-clause-settings : goal.is_dead-dead-requires-clause-settings
is_dead-dead-requires-clause-settings g c = ranges_of c.args.self.now.settings c.args.self.now.ranges

some_same : {X Y : Type 0} (f : X → Y) (o : Option X) → is_some o ≡ is_some (option_map f o)
some_same f None = refl
some_same f (Some x) = refl

abbrev shown_now : (g : given.Over) → goal.After-self-1 g → Shown
shown_now g c = record {
  ready = c.is_some.result;
  swing = c.take_swing-swing.result;
  fuse = c.take_fuse-fuse.result;
  inside = c.inside_masks-inside.result;
  operate = c.take-operate.result;
}

module _ (g : given.Over) (c : goal.After-self-1 g) (s : Numbered) (past : List Numbered) (next : IsNext c.args.self.now.common (plain_line c.args.self.now.settings) s past (kept_by c.args.self.now) c.args.number (option_map measured c.args.phasors.now)) where
  abbrev common : Common
  common = c.args.self.now.common

  abbrev settings : PlainLine
  settings = plain_line c.args.self.now.settings

  abbrev longer : List Numbered
  longer = s ∷ past

  abbrev hold : ℕ
  hold = samples common.rate settings.mem_ms

  cycle : 2 ≤ common.n
  cycle = cycle_two common.n c.args.self.now.cycle

  -- what the guards have taken
  volts : next_run (option_map (volt_take common.n settings.mem_u) (option_map measured c.args.phasors.now)) (volt_takes common settings past) ≡ volt_takes common settings longer
  volts = ap (λ (m : Option Measured). next_run (option_map (volt_take common.n settings.mem_u) m) (volt_takes common settings past)) next.formed
      ∙ NextLemmas.run_next common settings cycle (volt_take common.n settings.mem_u) s past next.rises

  swings : (w : SwingSettings) → next_run (option_map (swing_take w) (option_map measured c.args.phasors.now)) (swing_takes common settings w past) ≡ swing_takes common settings w longer
  swings w = ap (λ (m : Option Measured). next_run (option_map (swing_take w) m) (swing_takes common settings w past)) next.formed
      ∙ NextLemmas.run_next common settings cycle (swing_take w) s past next.rises

  fuses : (f : FuseSettings) → next_run (option_map (fuse_take common.n f) (option_map measured c.args.phasors.now)) (fuse_takes common settings f past) ≡ fuse_takes common settings f longer
  fuses f = ap (λ (m : Option Measured). next_run (option_map (fuse_take common.n f) m) (fuse_takes common settings f past)) next.formed
      ∙ NextLemmas.run_next common settings cycle (fuse_take common.n f) s past next.rises

  -- what the guards say
  polarises : c.polarise-polarising.result ≡ polarising_at common settings longer
  polarises = c.polarise-polarising.ensures.voltage common.n hold (volt_takes common settings past) next.holds.memory
      ∙ ap (polarising common.n hold) volts ∙ NextLemmas.polarising_is common settings cycle longer next.rises

  swing : c.take_swing-swing.result ≡ is_swing_at common settings longer
  swing = c.take_swing-swing.ensures.blocks common.rate (λ w. swing_takes common settings w past) next.holds.swing
      ∙ NextLemmas.swings_same common.rate _ (λ w. swing_takes common settings w longer) swings settings.swing
      ∙ NextLemmas.swing_is common settings cycle longer next.rises settings.swing

  blown : c.take_fuse-fuse.result ≡ is_blown_at common settings longer
  blown = c.take_fuse-fuse.ensures.blows common.rate (λ f. fuse_takes common settings f past) next.holds.fuse
      ∙ NextLemmas.blows_same common.rate _ (λ f. fuse_takes common settings f longer) fuses settings.fuse
      ∙ NextLemmas.blown_is common settings cycle longer next.rises settings.fuse

  -- the loops inside, and those that operate
  inside : c.inside_masks-inside.result ≡ inside_at common settings longer
  inside = c.inside_masks-inside.ensures.masks
      ∙ NextLemmas.masks_same common.n settings _ _ _ _ _ _ _ _ next.formed polarises swing blown
      ∙ NextLemmas.inside_is common settings cycle longer

  abbrev inside_takes : List (List ℕ)
  inside_takes = at_each (inside_at common settings) past

  operate : c.take-operate.result ≡ operate_at common settings longer
  unfolding at_each
  operate = c.take-operate.ensures.operated (ground_delays common settings) (phase_delays common settings) inside_takes next.holds.timers
      ∙ ap (λ (masks : List ℕ). operated_masks (ground_delays common settings) (phase_delays common settings) (masks ∷ inside_takes)) inside
      ∙ NextLemmas.operate_is common settings cycle longer next.rises

  operated : c.trips-operated.result ≡ trips_at common settings longer
  operated = c.trips-operated.ensures ∙ ap (λ zones. trips_by zones c.take-operate.result) c.as_slice.ensures.value
      ∙ ap (trips_by settings.zones) operate ∙ NextLemmas.trips_is common settings longer

  dead : c.is_dead-dead.result ≡ is_dead_at common settings longer
  dead = c.is_dead-dead.ensures ∙ ap (dead_by common.n settings) next.formed ∙ NextLemmas.dead_is common settings cycle longer

  -- the trip
  abbrev least : ℕ
  least = samples common.rate settings.trip_min_ms

  abbrev open_run : ℕ
  open_run = samples common.rate settings.open_ms

  taken : take_of c.args.number c.trips-operated.result c.is_dead-dead.result ≡ trip_take common settings longer
  taken = NextLemmas.take_same _ _ _ _ _ _ next.same_number operated dead

  abbrev trip_takes : List TripTake
  trip_takes = at_each (trip_take common settings) past

  follows : Follows (take_of c.args.number c.trips-operated.result c.is_dead-dead.result) trip_takes
  follows = subst (λ (t : TripTake). Follows t trip_takes) (sym taken)
      (follows_numbered number_of_sample (trips_at common settings) (is_dead_at common settings) (NextLemmas.dead_breaks common settings cycle) s past next.rises)

  trip : c.take-trip.result ≡ changed (is_tripped_at common settings past) (is_tripped_at common settings longer)
  unfolding at_each
  trip = c.take-trip.ensures.state least open_run trip_takes next.holds.trip follows
      ∙ ap (λ (t : TripTake). state_of least open_run (t ∷ trip_takes)) taken
      ∙ state_numbered number_of_sample (trips_at common settings) (is_dead_at common settings) (NextLemmas.trips_none common settings cycle)
      (NextLemmas.dead_none common settings cycle) least open_run longer

  on : c.take-trip.result.on ≡ is_tripped_at common settings longer
  on = ap (λ (t : TripState). t.on) trip

  -- what is shown
  shown : facts_shown (shown_now g c) c.take-trip.result.on ≡ facts_of common settings longer
  shown = NextLemmas.facts_same _ _ ready swing blown inside operate on
    where
      ready : c.is_some.result ≡ is_ready_at common settings longer
      ready = c.is_some.ensures ∙ some_same measured c.args.phasors.now ∙ ap is_some next.formed ∙ NextLemmas.ready_is common settings longer

  abbrev points_takes : List PointsTake
  points_takes = at_each (points_take common settings) past

  point : shown_take c.args.number (shown_now g c) c.take-trip.result.on ≡ points_take common settings longer
  point = ap (λ n. points_take_of n (points_of (facts_shown (shown_now g c) c.take-trip.result.on))) next.same_number
      ∙ ap (λ facts. points_take_of s.number (points_of facts)) shown

  follows_points : IsNextTake (shown_take c.args.number (shown_now g c) c.take-trip.result.on) c.note_changes-changed.result points_takes
  follows_points = record {
    rises = subst (λ (t : PointsTake). RisesTo t points_takes) (sym point) (NextLemmas.points_rise common settings s past next.rises);
    same = λ unchanged.
        let same = c.note_changes-changed.ensures.changed.0 unchanged in
        let was = is_tripped_at common settings past in
        let moved = trip ∙ ap (changed was) (sym on) in
        same_points common settings c.args.self.now.shown (shown_now g c) was c.take-trip.result.on past same.2
        (still was c.take-trip.result.on (sym (ap (λ (t : TripState). t.rose) moved) ∙ same.0) (sym (ap (λ (t : TripState). t.fell) moved) ∙ same.1))
        next.holds.shown;
  }

pub returns-clause-after : goal.returns-clause-after
unfolding at_each
returns-clause-after g c s past next =
    let common = c.args.self.now.common in
    let settings = plain_line c.args.self.now.settings in
    record {
      memory = subst (λ (takes : List VoltTake). MemoryStandsFor common.n (hold g c s past next) takes c.polarise-polarising.new.memory) (volts g c s past next)
          (c.polarise-polarising.ensures.after common.n (hold g c s past next) (volt_takes common settings past) next.holds.memory);
      swing = NextLemmas.swing_moves common.rate _ (λ w. swing_takes common settings w (s ∷ past)) (swings g c s past next) settings.swing _
          (c.take_swing-swing.ensures.after common.rate (λ w. swing_takes common settings w past) next.holds.swing);
      fuse = NextLemmas.fuse_moves common.rate _ (λ f. fuse_takes common settings f (s ∷ past)) (fuses g c s past next) settings.fuse _
          (c.take_fuse-fuse.ensures.after common.rate (λ f. fuse_takes common settings f past) next.holds.fuse);
      timers = subst (λ (masks : List ℕ). TimersStandFor (ground_delays common settings) (phase_delays common settings) (masks ∷ inside_takes g c s past next) c.take-operate.new.self)
          (inside g c s past next)
          (c.take-operate.ensures.after (ground_delays common settings) (phase_delays common settings) (inside_takes g c s past next) next.holds.timers);
      trip = subst (λ (t : TripTake). TripStandsFor (least g c s past next) (open_run g c s past next) (t ∷ trip_takes g c s past next) c.take-trip.new.self) (taken g c s past next)
          (c.take-trip.ensures.after (least g c s past next) (open_run g c s past next) (trip_takes g c s past next) next.holds.trip (follows g c s past next));
      publisher = subst (λ (t : PointsTake). PublisherStandsFor common settings.goose (t ∷ points_takes g c s past next) c.publish.new.publisher) (point g c s past next)
          (c.publish.ensures.after common settings.goose (points_takes g c s past next) next.holds.publisher (follows_points g c s past next));
      shown = ap (λ (told : Shown). facts_shown told (is_tripped_at common settings (s ∷ past))) c.note_changes-changed.ensures.shown
          ∙ ap (facts_shown (shown_now g c)) (sym (on g c s past next)) ∙ shown g c s past next;
    }

pub returns-clause-events : goal.returns-clause-events
returns-clause-events g c s past next =
    let common = c.args.self.now.common in
    let settings = plain_line c.args.self.now.settings in
    let was = is_tripped_at common settings past in
    c.note_changes-changed.ensures.events
    ∙ ap (λ whats. c.args.burst.now.events.items ++ told (option_map (time_of common) (Some c.args.number)) whats)
    (shown_changes-are c.args.self.now.shown (shown_now g c) c.take-trip.result was (trip g c s past next ∙ ap (changed was) (sym (on g c s past next)))
    ∙ ap₂ changes next.holds.shown (shown g c s past next))

pub returns-clause-printable : goal.returns-clause-printable
returns-clause-printable g c before =
    subst (All IsPrintable) (sym c.note_changes-changed.ensures.events) (All-append IsPrintable _ _ before
    (told-printable (option_map (time_of c.args.self.now.common) (Some c.args.number)) _ (time-printable c.args.self.now.common (Some c.args.number) c.args.self.now.rated)
    (changes-printable c.args.self.now.shown (shown_now g c) c.take-trip.result)))

pub returns-clause-send : goal.returns-clause-send
returns-clause-send g c s past next =
    let common = c.args.self.now.common in
    let settings = plain_line c.args.self.now.settings in
    c.publish.ensures.send common settings.goose (points_takes g c s past next) next.holds.publisher (follows_points g c s past next)
    ∙ ap (λ t. send_of common t (points_takes g c s past next)) (point g c s past next)
