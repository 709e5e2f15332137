use Rattle.std.proofs.Common.{◌≡◌, ◌∷◌, ◌++◌, List, ℕ, Bor}
use Rattle.comtrade_read.specs.Moments.{Moment, IsMoment, moment_text, clock_text}
use Rattle.comtrade_read.proofs.DigitLemmas.{some_map}
use Rattle.comtrade_read.proofs.MomentLemmas.{moment_of}
use Rattle.comtrade_read.proofs.moment.read_moment.Goals as goal

pub returns-in_err-clock-clause-complete : goal.returns-in_err-clock-clause-complete
returns-in_err-clock-clause-complete c m rest of is =
    absurd (c.in_err-clock.ensures.complete m.year m.month m.day (clock_text m.hour m.minute m.second m.micros ++ 13 ∷ 10 ∷ rest) of.date is)

pub returns-in_err-end-clause-complete : goal.returns-in_err-end-clause-complete
returns-in_err-end-clause-complete c m rest of is =
    let a = c.in_ok-clock.ensures.complete m.year m.month m.day (clock_text m.hour m.minute m.second m.micros ++ 13 ∷ 10 ∷ rest) of.date is in
    absurd (c.in_err-end.ensures.complete m.hour m.minute m.second m.micros (10 ∷ rest) of.clock a)

pub returns-clause-sound : goal.returns-clause-sound
returns-clause-sound c =
    let P : Bor (List ℕ) → Type 0 = λ left. (m : Moment) × IsMoment m × (c.args.text.now ≡ moment_text m ++ 13 ∷ 10 ∷ left.now) in
    let each : (left : Bor (List ℕ)) → c.in_ok-end.end.now ≡ 10 ∷ left.now → P left = λ left e. moment_of c.args.text.now c.in_ok-clock.clock.now c.in_ok-end.end.now left.now c.in_ok-clock.ensures.sound c.in_ok-end.ensures.sound e in
    some_map c.after.result (λ left. c.in_ok-end.end.now ≡ 10 ∷ left.now) P each c.after.ensures.sound

pub returns-clause-complete : goal.returns-clause-complete
returns-clause-complete c m rest of is =
    let a = c.in_ok-clock.ensures.complete m.year m.month m.day (clock_text m.hour m.minute m.second m.micros ++ 13 ∷ 10 ∷ rest) of.date is in
    c.after.ensures.complete rest (c.in_ok-end.ensures.complete m.hour m.minute m.second m.micros (10 ∷ rest) of.clock a)
