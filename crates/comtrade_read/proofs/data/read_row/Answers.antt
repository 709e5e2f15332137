use Rattle.std.proofs.Common.{◌∙◌}
use Rattle.comtrade_read.proofs.DigitLemmas.{kept}
use Rattle.comtrade_read.proofs.RowLemmas.{are_six, three, behind_values, row_said, row_same, row_sound}
use Rattle.comtrade_read.proofs.data.read_row.Goals as goal

pub returns-in_err-micros-clause-complete : goal.returns-in_err-micros-clause-complete
returns-in_err-micros-clause-complete c s rest low of is =
    let six = are_six s.values of.six of.values in
    absurd (c.in_err-micros.ensures.complete s.micros (three six.a six.b six.c (three six.d six.e six.f (behind_values s.good s.trip rest))) low of.micros (is ∙ row_said c.args.i s rest six))

pub returns-in_err-current-clause-complete : goal.returns-in_err-current-clause-complete
returns-in_err-current-clause-complete c s rest low of is =
    let six = are_six s.values of.six of.values in
    let a0 = c.in_ok-micros.ensures.complete s.micros (three six.a six.b six.c (three six.d six.e six.f (behind_values s.good s.trip rest))) low of.micros (is ∙ row_said c.args.i s rest six) in
    absurd (c.in_err-current.ensures.complete six.a six.b six.c (three six.d six.e six.f (behind_values s.good s.trip rest)) six.each.0 six.each.1.0 six.each.1.1.0 a0.1)

pub returns-in_err-voltage-clause-complete : goal.returns-in_err-voltage-clause-complete
returns-in_err-voltage-clause-complete c s rest low of is =
    let six = are_six s.values of.six of.values in
    let a0 = c.in_ok-micros.ensures.complete s.micros (three six.a six.b six.c (three six.d six.e six.f (behind_values s.good s.trip rest))) low of.micros (is ∙ row_said c.args.i s rest six) in
    let a1 = c.in_ok-current.ensures.complete six.a six.b six.c (three six.d six.e six.f (behind_values s.good s.trip rest)) six.each.0 six.each.1.0 six.each.1.1.0 a0.1 in
    absurd (c.in_err-voltage.ensures.complete six.d six.e six.f (behind_values s.good s.trip rest) six.each.1.1.1.0 six.each.1.1.1.1.0 six.each.1.1.1.1.1.0 a1.3)

pub returns-in_err-flags-clause-complete : goal.returns-in_err-flags-clause-complete
returns-in_err-flags-clause-complete c s rest low of is =
    let six = are_six s.values of.six of.values in
    let a0 = c.in_ok-micros.ensures.complete s.micros (three six.a six.b six.c (three six.d six.e six.f (behind_values s.good s.trip rest))) low of.micros (is ∙ row_said c.args.i s rest six) in
    let a1 = c.in_ok-current.ensures.complete six.a six.b six.c (three six.d six.e six.f (behind_values s.good s.trip rest)) six.each.0 six.each.1.0 six.each.1.1.0 a0.1 in
    let a2 = c.in_ok-voltage.ensures.complete six.d six.e six.f (behind_values s.good s.trip rest) six.each.1.1.1.0 six.each.1.1.1.1.0 six.each.1.1.1.1.1.0 a1.3 in
    absurd (c.in_err-flags.ensures.complete s.good s.trip rest a2.3)

pub returns-clause-sound : goal.returns-clause-sound
returns-clause-sound c =
    row_sound c.args.text.now c.in_ok-micros.values.now c.in_ok-current.voltages.now c.in_ok-voltage.words.now c.in_ok-flags.rest.now c.args.i c.args.least c.in_ok-micros.micros
    c.in_ok-current.current.a c.in_ok-current.current.b c.in_ok-current.current.c c.in_ok-voltage.voltage.a c.in_ok-voltage.voltage.b c.in_ok-voltage.voltage.c _ _ _ _ _ _ c.in_ok-flags.flags.good c.in_ok-flags.flags.trip
    (kept c.in_ok-current.current.a c.in_ok-current.ensures.sound.1) (kept c.in_ok-current.current.b c.in_ok-current.ensures.sound.2) (kept c.in_ok-current.current.c c.in_ok-current.ensures.sound.3) (kept c.in_ok-voltage.voltage.a c.in_ok-voltage.ensures.sound.1) (kept c.in_ok-voltage.voltage.b c.in_ok-voltage.ensures.sound.2) (kept c.in_ok-voltage.voltage.c c.in_ok-voltage.ensures.sound.3)
    c.in_ok-micros.ensures.sound c.in_ok-current.ensures.sound c.in_ok-voltage.ensures.sound c.in_ok-flags.ensures.sound

pub returns-clause-complete : goal.returns-clause-complete
returns-clause-complete c s rest low of is =
    let six = are_six s.values of.six of.values in
    let a0 = c.in_ok-micros.ensures.complete s.micros (three six.a six.b six.c (three six.d six.e six.f (behind_values s.good s.trip rest))) low of.micros (is ∙ row_said c.args.i s rest six) in
    let a1 = c.in_ok-current.ensures.complete six.a six.b six.c (three six.d six.e six.f (behind_values s.good s.trip rest)) six.each.0 six.each.1.0 six.each.1.1.0 a0.1 in
    let a2 = c.in_ok-voltage.ensures.complete six.d six.e six.f (behind_values s.good s.trip rest) six.each.1.1.1.0 six.each.1.1.1.1.0 six.each.1.1.1.1.1.0 a1.3 in
    let a3 = c.in_ok-flags.ensures.complete s.good s.trip rest a2.3 in (
      row_same s six c.in_ok-micros.micros _ _ _ _ _ _ c.in_ok-flags.flags.good c.in_ok-flags.flags.trip
          a0.0 ((kept c.in_ok-current.current.a c.in_ok-current.ensures.sound.1) ∙ a1.0) ((kept c.in_ok-current.current.b c.in_ok-current.ensures.sound.2) ∙ a1.1) ((kept c.in_ok-current.current.c c.in_ok-current.ensures.sound.3) ∙ a1.2) ((kept c.in_ok-voltage.voltage.a c.in_ok-voltage.ensures.sound.1) ∙ a2.0) ((kept c.in_ok-voltage.voltage.b c.in_ok-voltage.ensures.sound.2) ∙ a2.1) ((kept c.in_ok-voltage.voltage.c c.in_ok-voltage.ensures.sound.3) ∙ a2.2) a3.0 a3.1,
      a3.2,
    )
