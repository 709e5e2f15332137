use Rattle.std.proofs.Common.{◌∷◌, ◌++◌, ◌∙◌, ap}
use Rattle.comtrade_read.specs.Numbers.{fixed}
use Rattle.comtrade_read.specs.Moments.{IsClock}
use Rattle.comtrade_read.proofs.MomentLemmas.{clock_small, told, refuted}
use Rattle.comtrade_read.proofs.moment.read_clock.Goals as goal

pub returns-in_err-hour-clause-complete : goal.returns-in_err-hour-clause-complete
returns-in_err-hour-clause-complete c hour minute second micros rest is_clock is =
    let small = clock_small hour minute second micros is_clock in
    absurd (c.in_err-hour.ensures.complete hour (fixed 2 minute ++ 58 ∷ (fixed 2 second ++ 46 ∷ (fixed 6 micros ++ 13 ∷ rest))) small.0 is)

pub returns-in_err-minute-clause-complete : goal.returns-in_err-minute-clause-complete
returns-in_err-minute-clause-complete c hour minute second micros rest is_clock is =
    let small = clock_small hour minute second micros is_clock in
    let a0 = c.in_ok-hour.ensures.complete hour (fixed 2 minute ++ 58 ∷ (fixed 2 second ++ 46 ∷ (fixed 6 micros ++ 13 ∷ rest))) small.0 is in
    absurd (c.in_err-minute.ensures.complete minute (fixed 2 second ++ 46 ∷ (fixed 6 micros ++ 13 ∷ rest)) small.1 a0.1)

pub returns-in_err-second-clause-complete : goal.returns-in_err-second-clause-complete
returns-in_err-second-clause-complete c hour minute second micros rest is_clock is =
    let small = clock_small hour minute second micros is_clock in
    let a0 = c.in_ok-hour.ensures.complete hour (fixed 2 minute ++ 58 ∷ (fixed 2 second ++ 46 ∷ (fixed 6 micros ++ 13 ∷ rest))) small.0 is in
    let a1 = c.in_ok-minute.ensures.complete minute (fixed 2 second ++ 46 ∷ (fixed 6 micros ++ 13 ∷ rest)) small.1 a0.1 in
    absurd (c.in_err-second.ensures.complete second (fixed 6 micros ++ 13 ∷ rest) small.2 a1.1)

pub returns-in_err-micros-clause-complete : goal.returns-in_err-micros-clause-complete
returns-in_err-micros-clause-complete c hour minute second micros rest is_clock is =
    let small = clock_small hour minute second micros is_clock in
    let a0 = c.in_ok-hour.ensures.complete hour (fixed 2 minute ++ 58 ∷ (fixed 2 second ++ 46 ∷ (fixed 6 micros ++ 13 ∷ rest))) small.0 is in
    let a1 = c.in_ok-minute.ensures.complete minute (fixed 2 second ++ 46 ∷ (fixed 6 micros ++ 13 ∷ rest)) small.1 a0.1 in
    let a2 = c.in_ok-second.ensures.complete second (fixed 6 micros ++ 13 ∷ rest) small.2 a1.1 in
    absurd (c.in_err-micros.ensures.complete micros rest small.3 a2.1)

pub returns-then-is_clock-clause-sound : goal.returns-then-is_clock-clause-sound
returns-then-is_clock-clause-sound c = (
  c.in_ok-hour.hour,
  c.in_ok-minute.minute,
  c.in_ok-second.second,
  c.in_ok-micros.micros,
  told c.is_clock.result c.if-is_clock.true c.is_clock.ensures,
  c.in_ok-hour.ensures.sound.0 ∙ ap (λ r. fixed 2 c.in_ok-hour.hour ++ 58 ∷ r) (c.in_ok-minute.ensures.sound.0 ∙ ap (λ r. fixed 2 c.in_ok-minute.minute ++ 58 ∷ r) (c.in_ok-second.ensures.sound.0 ∙ ap (λ r. fixed 2 c.in_ok-second.second ++ 46 ∷ r) (c.in_ok-micros.ensures.sound.0))),
)

pub returns-then-is_clock-clause-complete : goal.returns-then-is_clock-clause-complete
returns-then-is_clock-clause-complete c hour minute second micros rest is_clock is =
    let small = clock_small hour minute second micros is_clock in
    let a0 = c.in_ok-hour.ensures.complete hour (fixed 2 minute ++ 58 ∷ (fixed 2 second ++ 46 ∷ (fixed 6 micros ++ 13 ∷ rest))) small.0 is in
    let a1 = c.in_ok-minute.ensures.complete minute (fixed 2 second ++ 46 ∷ (fixed 6 micros ++ 13 ∷ rest)) small.1 a0.1 in
    let a2 = c.in_ok-second.ensures.complete second (fixed 6 micros ++ 13 ∷ rest) small.2 a1.1 in
    (c.in_ok-micros.ensures.complete micros rest small.3 a2.1).1

pub returns-else-is_clock-clause-complete : goal.returns-else-is_clock-clause-complete
returns-else-is_clock-clause-complete c hour minute second micros rest is_clock is =
    let small = clock_small hour minute second micros is_clock in
    let a0 = c.in_ok-hour.ensures.complete hour (fixed 2 minute ++ 58 ∷ (fixed 2 second ++ 46 ∷ (fixed 6 micros ++ 13 ∷ rest))) small.0 is in
    let a1 = c.in_ok-minute.ensures.complete minute (fixed 2 second ++ 46 ∷ (fixed 6 micros ++ 13 ∷ rest)) small.1 a0.1 in
    let a2 = c.in_ok-second.ensures.complete second (fixed 6 micros ++ 13 ∷ rest) small.2 a1.1 in
    let a3 = c.in_ok-micros.ensures.complete micros rest small.3 a2.1 in
    let here : IsClock c.in_ok-hour.hour c.in_ok-minute.minute c.in_ok-second.second c.in_ok-micros.micros = rw (a3.0, a2.0, a1.0, a0.0) is_clock in
    refuted c.is_clock.result c.if-is_clock.false c.is_clock.ensures here
