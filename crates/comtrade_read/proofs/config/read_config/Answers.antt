use Rattle.std.proofs.Common.{◌∙◌}
use Rattle.comtrade_read.specs.Channels.{form_text}
use Rattle.comtrade_read.proofs.MomentLemmas.{told, refuted}
use Rattle.comtrade_read.proofs.ConfigLemmas.{configuration_parts, behind_station, behind_nominal, behind_samples, behind_first, configuration_of}
use Rattle.comtrade_read.proofs.config.read_config.Goals as goal

pub returns-in_err-nominal-clause-complete : goal.returns-in_err-nominal-clause-complete
returns-in_err-nominal-clause-complete c k of is =
    absurd (c.in_err-nominal.ensures.complete k.name (behind_station k) of.name (is ∙ configuration_parts k))

pub returns-in_err-rate-clause-complete : goal.returns-in_err-rate-clause-complete
returns-in_err-rate-clause-complete c k of is =
    let a0 = c.in_ok-nominal.ensures.complete k.name (behind_station k) of.name (is ∙ configuration_parts k) in
    absurd (c.in_err-rate.ensures.complete k.nominal (behind_nominal k) of.nominal a0)

pub returns-in_err-samples-clause-complete : goal.returns-in_err-samples-clause-complete
returns-in_err-samples-clause-complete c k of is =
    let a0 = c.in_ok-nominal.ensures.complete k.name (behind_station k) of.name (is ∙ configuration_parts k) in
    let a1 = c.in_ok-rate.ensures.complete k.nominal (behind_nominal k) of.nominal a0 in
    absurd (c.in_err-samples.ensures.complete k.rate k.count (behind_samples k) of.rate of.count a1)

pub returns-in_err-trip-clause-complete : goal.returns-in_err-trip-clause-complete
returns-in_err-trip-clause-complete c k of is =
    let a0 = c.in_ok-nominal.ensures.complete k.name (behind_station k) of.name (is ∙ configuration_parts k) in
    let a1 = c.in_ok-rate.ensures.complete k.nominal (behind_nominal k) of.nominal a0 in
    let a2 = c.in_ok-samples.ensures.complete k.rate k.count (behind_samples k) of.rate of.count a1 in
    absurd (c.in_err-trip.ensures.complete k.first (behind_first k) of.first a2.2)

pub returns-in_err-form-clause-complete : goal.returns-in_err-form-clause-complete
returns-in_err-form-clause-complete c k of is =
    let a0 = c.in_ok-nominal.ensures.complete k.name (behind_station k) of.name (is ∙ configuration_parts k) in
    let a1 = c.in_ok-rate.ensures.complete k.nominal (behind_nominal k) of.nominal a0 in
    let a2 = c.in_ok-samples.ensures.complete k.rate k.count (behind_samples k) of.rate of.count a1 in
    let a3 = c.in_ok-trip.ensures.complete k.first (behind_first k) of.first a2.2 in
    absurd (c.in_err-form.ensures.complete k.trip form_text of.trip a3)

pub returns-then-is_form-clause-complete : goal.returns-then-is_form-clause-complete
returns-then-is_form-clause-complete c k of is =
    let a0 = c.in_ok-nominal.ensures.complete k.name (behind_station k) of.name (is ∙ configuration_parts k) in
    let a1 = c.in_ok-rate.ensures.complete k.nominal (behind_nominal k) of.nominal a0 in
    let a2 = c.in_ok-samples.ensures.complete k.rate k.count (behind_samples k) of.rate of.count a1 in
    (a2.0, a2.1)

pub returns-else-is_form-clause-complete : goal.returns-else-is_form-clause-complete
returns-else-is_form-clause-complete c k of is =
    let a0 = c.in_ok-nominal.ensures.complete k.name (behind_station k) of.name (is ∙ configuration_parts k) in
    let a1 = c.in_ok-rate.ensures.complete k.nominal (behind_nominal k) of.nominal a0 in
    let a2 = c.in_ok-samples.ensures.complete k.rate k.count (behind_samples k) of.rate of.count a1 in
    let a3 = c.in_ok-trip.ensures.complete k.first (behind_first k) of.first a2.2 in
    let a4 = c.in_ok-form.ensures.complete k.trip form_text of.trip a3 in
    refuted c.is_form.result c.if-is_form.false c.is_form.ensures a4

pub returns-then-is_form-clause-sound : goal.returns-then-is_form-clause-sound
returns-then-is_form-clause-sound c =
    configuration_of c.args.text.now c.in_ok-nominal.nominal.now c.in_ok-rate.rate.now c.in_ok-samples.samples.rate c.in_ok-samples.samples.count c.in_ok-samples.first.now c.in_ok-trip.trip.now c.in_ok-form.form.now
    c.in_ok-nominal.ensures.sound c.in_ok-rate.ensures.sound c.in_ok-samples.ensures.sound c.in_ok-trip.ensures.sound c.in_ok-form.ensures.sound (told c.is_form.result c.if-is_form.true c.is_form.ensures)
