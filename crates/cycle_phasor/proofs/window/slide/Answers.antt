use Rattle.std.proofs.Common.{◌<◌, ◌∙◌, arith, ℕ, refl}
use Rattle.cycle_phasor.specs.Window.{IsSample}
use Rattle.relay_num.specs.WeightedSums.{real_weight, imaginary_weight}
use Rattle.relay_num.proofs.WaveLemmas.{real_weight-repeats, imaginary_weight-repeats, real_weight_bound, imaginary_weight_bound}
use Rattle.cycle_phasor.proofs.WindowLemmas.{moves, length-keep_last, samples_kept}
use Rattle.cycle_phasor.proofs.window.slide.Goals as goal

pub slide-requires-clause-re : goal.slide-requires-clause-re
slide-requires-clause-re g c =
    let n : ℕ = c.args.slider.now.n in
    let some : 0 < n = omega (arith, c.requires.n) in
    let moved = moves (real_weight n) n c.args.number c.args.slider.now.re c.args.ring.now.items c.args.values.now (λ j. real_weight-repeats n j some) (real_weight_bound n) some (omega (arith, c.requires.n)) c.requires.state.few c.requires.state.started (omega arith) c.requires.state.samples (record { eight = omega arith; small = c.requires.values }) c.requires.state.re in
    rw (c.place_of-place.ensures.value, c.as_ref.ensures.value, c.push-old.ensures.oldest, c.requires.state.capacity) moved.small

pub slide-requires-clause-im : goal.slide-requires-clause-im
slide-requires-clause-im g c =
    let n : ℕ = c.args.slider.now.n in
    let some : 0 < n = omega (arith, c.requires.n) in
    let moved = moves (imaginary_weight n) n c.args.number c.args.slider.now.im c.args.ring.now.items c.args.values.now (λ j. imaginary_weight-repeats n j some) (imaginary_weight_bound n) some (omega (arith, c.requires.n)) c.requires.state.few c.requires.state.started (omega arith) c.requires.state.samples (record { eight = omega arith; small = c.requires.values }) c.requires.state.im in
    rw (c.place_of-place.ensures.value, c.as_ref.ensures.value, c.push-old.ensures.oldest, c.requires.state.capacity) moved.small

pub returns-clause-state : goal.returns-clause-state
returns-clause-state g c =
    let n : ℕ = c.args.slider.now.n in
    let some : 0 < n = omega (arith, c.requires.n) in
    let sample : IsSample c.args.values.now = record { eight = omega arith; small = c.requires.values } in
    let re = moves (real_weight n) n c.args.number c.args.slider.now.re c.args.ring.now.items c.args.values.now (λ j. real_weight-repeats n j some) (real_weight_bound n) some (omega (arith, c.requires.n)) c.requires.state.few c.requires.state.started (omega arith) c.requires.state.samples sample c.requires.state.re in
    let im = moves (imaginary_weight n) n c.args.number c.args.slider.now.im c.args.ring.now.items c.args.values.now (λ j. imaginary_weight-repeats n j some) (imaginary_weight_bound n) some (omega (arith, c.requires.n)) c.requires.state.few c.requires.state.started (omega arith) c.requires.state.samples sample c.requires.state.im in
    let long = length-keep_last n c.args.ring.now.items c.args.values.now in
    rw (c.push-old.ensures.items, c.requires.state.capacity) (record {
      cycle = c.slide.ensures.n;
      capacity = refl;
      few = omega (arith, long);
      count = c.slide.ensures.count ∙ omega (arith, long, c.requires.state.count);
      started = omega (arith, long, c.requires.state.started);
      samples = samples_kept n c.args.ring.now.items c.args.values.now c.requires.state.samples sample;
      re = rw (c.slide.ensures.re, c.place_of-place.ensures.value, c.as_ref.ensures.value, c.push-old.ensures.oldest, c.requires.state.capacity) re.sums;
      im = rw (c.slide.ensures.im, c.place_of-place.ensures.value, c.as_ref.ensures.value, c.push-old.ensures.oldest, c.requires.state.capacity) im.sums;
    })
