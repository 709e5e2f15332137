use Rattle.std.proofs.Common.{◌<◌, ◌≤◌, subst, ◌≡◌, ◌∙◌, ◌+◌, ◌==◌, true, refl, sym, ap, ap₂, arith, length, List, [], ◌∷◌, Some, unwrap_or}
use Rattle.std.proofs.lemmas.Bool.{eq-eqb}
use Rattle.sample_windows.specs.Numbered.{Rises}
use Rattle.relay_settings.specs.declared.types.Common.{Common}
use Rattle.relay_settings.specs.Settings.{PlainLine}
use Rattle.sv_frame.specs.Asdu.{PlainAsdu, plain_asdu}
use Rattle.sv_frame.specs.Channels.{channels_of}
use Rattle.sample_stream.specs.Taken.{number_of}
use Rattle.sample_stream.specs.Numbering.{newer_or}
use Rattle.cycle_phasor.specs.Window.{IsSliding}
use Rattle.line_relay.specs.declared.front.Outcome.TheVariants.{Counter}
use Rattle.line_relay.specs.LineSamples.{newest_of, Numbered, number_of_sample}
use Rattle.line_relay.specs.Phasors.{phasors_of}
use Rattle.relay_num.specs.Bounds.{is_cycle}
use Rattle.line_relay.specs.KeptSamples.{next_after, window, lanes_after, kept_now}
use Rattle.line_relay.specs.Outcomes.{number_taken, sample_in, with_sample, taken_samples, taken_number, outcome_of}
use Rattle.line_relay.specs.Steps.{step_by, step_of}
use Rattle.line_relay.specs.Fronts.{StandsFor}
use Rattle.line_relay.proofs.FilterLemmas.{kept_without}
use Rattle.line_relay.proofs.CycleLemmas.{AllEight, window_next, phasors_are, phasors_small}
use Rattle.line_relay.proofs.FrontLemmas.{rises, eights, cycle_some, cycle_few, channels_some, step_taken}
use Rattle.relay_num.specs.WeightedSums.{real_weight, imaginary_weight}
use Rattle.relay_num.proofs.WaveLemmas.{real_weight_bound, imaginary_weight_bound}
use Rattle.cycle_phasor.proofs.WindowLemmas.{totals_below}
use Rattle.line_relay.proofs.front.Front.take.Given as given
use Rattle.line_relay.proofs.front.Front.take.Goals as goal
use Rattle.line_relay.proofs.front.Front.take.Goals.{in-Some-last, in-None}

module _ (g : given.Over) (c : goal.After-phasors g) where
  next : c.match-last.next ≡ next_after c.args.self.now.numberer.last
  next = elim c.match-last.branch [
    | in-Some-last w ↦ w.next-is ∙ ap next_after w.in-Some-last.ensures
    | in-None w ↦ w.next-is ∙ ap next_after w.in-None.ensures
  ]

  channels : ((length c.args.a.now.samples.now == 64) ≡ true) × (unwrap_or (channels_of c.args.a.now.samples.now) [] ≡ c.in-Some.channels)
  channels = channels_some c.args.a.now.samples.now c.in-Some.channels (sym c.channels.ensures ∙ c.in-Some.is)

  number : number_of c.take-taken.result ≡ Some c.in-Some-number.number
  number = sym c.number.ensures ∙ c.in-Some-number.is

  module _ (common : Common) (settings : PlainLine) (asdus : List PlainAsdu) (stands : StandsFor common settings asdus c.args.self.now) where
    abbrev a : PlainAsdu
    a = plain_asdu c.args.a.now

    abbrev older : List Numbered
    older = taken_samples common settings asdus

    revision : (c.args.a.now.conf_rev == settings.conf_rev) ≡ true
    revision = eq-eqb _ _ (c.if-a-self.false ∙ stands.same_conf_rev)

    came : outcome_of common settings a asdus ≡ Counter c.take-taken.result
    came = rw (revision, channels.0) (ap Counter (sym (rw (stands.same_rate, stands.last) at c.take-taken.ensures.from_last)))

    sample : c.sample_of-sample.result ≡ sample_in common settings a
    sample = c.sample_of-sample.ensures.sample ∙ rw (stands.same_mask, stands.same_synch, channels.1) refl

    abbrev newest : Numbered
    newest = record { number = c.in-Some-number.number; sample = sample_in common settings a }

    newer : taken_samples common settings (a ∷ asdus) ≡ newest ∷ older
    newer = ap (λ o. with_sample common settings (number_taken o) a older) came
        ∙ ap (λ n. with_sample common settings n a older) number

    rising : Rises number_of_sample (newest ∷ older)
    rising = subst (Rises number_of_sample) newer (rises common settings (a ∷ asdus))

    cycle : c.args.self.now.slider.n ≡ common.n
    cycle = c.args.self.now.sliding.cycle ∙ stands.same_n

    values : c.filtered-values.result ≡ lanes_after settings.mimic (kept_now settings.mimic older) (c.in-Some-number.number == next_after (newest_of older)) (sample_in common settings a)
    values = c.filtered-values.ensures.lanes ∙ rw (next, stands.last, sample, stands.same_mimic, stands.before) refl

    items : c.take_values.new.ring.items ≡ window common.n settings.mimic (newest ∷ older)
    items = c.take_values.ensures.items
        ∙ rw (values, cycle, next, stands.last, stands.items) refl
        ∙ sym (window_next common.n settings.mimic newest older)

    some : 0 < common.n
    some = cycle_some common.n (subst (λ n. is_cycle n ≡ true) stands.same_n c.args.self.now.cycle)

    kept : c.keep.new.before ≡ kept_now settings.mimic (newest ∷ older)
    kept = c.keep.ensures.kept (λ none. stands.before ∙ ap (λ mimic. kept_now mimic older) (sym stands.same_mimic ∙ none) ∙ kept_without older)
        ∙ rw (sample, stands.same_mimic) refl

    sliding : IsSliding common.n (c.in-Some-number.number + 1) c.take_values.new.ring c.take_values.new.slider
    sliding = subst (λ n. IsSliding n (c.in-Some-number.number + 1) c.take_values.new.ring c.take_values.new.slider) cycle c.take_values.ensures.state

    phasors : c.phasors.result ≡ phasors_of common.n settings.mimic (newest ∷ older)
    phasors = phasors_are common.n settings.mimic (newest ∷ older) c.take_values.new.ring c.take_values.new.slider rising (subst AllEight newer (eights common settings (a ∷ asdus))) some sliding items
        c.phasors.result c.phasors.ensures.lanes_re c.phasors.ensures.lanes_im c.phasors.ensures.none c.phasors.ensures.some

    told : step_of common settings a asdus ≡ step_by common settings (Counter c.take-taken.result) (Some c.in-Some-number.number) a (newest ∷ older)
    told = ap (λ o. step_by common settings o (number_taken o) a (taken_samples common settings (a ∷ asdus))) came
        ∙ ap (λ n. step_by common settings (Counter c.take-taken.result) n a (taken_samples common settings (a ∷ asdus))) number
        ∙ ap (step_by common settings (Counter c.take-taken.result) (Some c.in-Some-number.number) a) newer

    last : c.take-taken.new.self.last ≡ taken_number common settings (a ∷ asdus)
    last = c.take-taken.ensures.last ∙ ap (λ n. newer_or n c.args.self.now.numberer.last) number ∙ sym (ap newest_of newer)

pub returns-clause-step : goal.returns-clause-step
returns-clause-step g c common settings asdus stands =
    ap₂ (λ s p. step_taken (Counter c.take-taken.result) s p) (sample g c common settings asdus stands) (phasors g c common settings asdus stands) ∙ sym (told g c common settings asdus stands)

pub returns-clause-after : goal.returns-clause-after
returns-clause-after g c common settings asdus stands = record {
  same_rate = c.take-taken.ensures.same_rate ∙ stands.same_rate;
  same_n = stands.same_n;
  same_conf_rev = stands.same_conf_rev;
  same_mask = stands.same_mask;
  same_synch = stands.same_synch;
  same_mimic = stands.same_mimic;
  last = last g c common settings asdus stands;
  before = kept g c common settings asdus stands ∙ ap (kept_now settings.mimic) (sym (newer g c common settings asdus stands));
  items = items g c common settings asdus stands ∙ ap (window common.n settings.mimic) (sym (newer g c common settings asdus stands));
}

pub returns-clause-small : goal.returns-clause-small
returns-clause-small g c =
    let state = c.take_values.ensures.state in
    let few : length c.take_values.new.ring.items ≤ 96 = omega (arith, state.few, cycle_few c.args.self.now.slider.n (subst (λ n. is_cycle n ≡ true) (sym c.args.self.now.sliding.cycle) c.args.self.now.cycle)) in
    let re = totals_below c.take_values.new.slider.re (real_weight c.args.self.now.slider.n) _ c.take_values.new.ring.items (real_weight_bound c.args.self.now.slider.n) few state.samples c.phasors.ensures.lanes_re state.re in
    let im = totals_below c.take_values.new.slider.im (imaginary_weight c.args.self.now.slider.n) _ c.take_values.new.ring.items (imaginary_weight_bound c.args.self.now.slider.n) few state.samples c.phasors.ensures.lanes_im state.im in
    phasors_small c.phasors.result c.take_values.new.slider.re c.take_values.new.slider.im c.phasors.ensures.some c.phasors.ensures.lanes_re c.phasors.ensures.lanes_im re im
