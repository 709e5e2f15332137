use Rattle.std.proofs.Common.{◌∙◌, arith, length, ap}
use Rattle.comtrade_read.specs.Numbers.{fixed}
use Rattle.comtrade_read.proofs.DigitLemmas.{fixed-free, fixed_is, fixed-sound, IsFixedOf}
use Rattle.comtrade_read.proofs.number.read_fixed.Goals as goal

pub returns-in_err-bytes-clause-complete : goal.returns-in_err-bytes-clause-complete
returns-in_err-bytes-clause-complete c n rest small is =
    absurd (c.in_err-bytes.ensures.complete (fixed c.args.width n) rest (fixed-free c.args.end c.args.width n small c.requires.end) is)

pub returns-then-bytes-width-clause-complete : goal.returns-then-bytes-width-clause-complete
returns-then-bytes-width-clause-complete c n rest small is =
    let parts = c.in_ok-bytes.ensures.complete (fixed c.args.width n) rest (fixed-free c.args.end c.args.width n small c.requires.end) is in
    c.if-bytes-width.true (ap length parts.0 ∙ (fixed_is c.args.width n small).long)

pub returns-in_err-number-clause-complete : goal.returns-in_err-number-clause-complete
returns-in_err-number-clause-complete c n rest small is =
    let parts = c.in_ok-bytes.ensures.complete (fixed c.args.width n) rest (fixed-free c.args.end c.args.width n small c.requires.end) is in
    let of : IsFixedOf c.args.width c.in_ok-bytes.bytes.now n = rw parts.0 (fixed_is c.args.width n small) in
    let none = c.in_err-number.ensures.complete of.all (omega (arith, of.long)) in absurd (cc)

pub returns-clause-sound : goal.returns-clause-sound
returns-clause-sound c =
    let read = c.in_ok-number.ensures.sound in
    fixed-sound c.args.text.now c.in_ok-bytes.bytes.now c.in_ok-bytes.rest.now c.args.end c.args.width c.in_ok-number.number c.in_ok-bytes.ensures.sound read.0 c.if-bytes-width.false read.2

pub returns-clause-complete : goal.returns-clause-complete
returns-clause-complete c n rest small is =
    let parts = c.in_ok-bytes.ensures.complete (fixed c.args.width n) rest (fixed-free c.args.end c.args.width n small c.requires.end) is in
    let of : IsFixedOf c.args.width c.in_ok-bytes.bytes.now n = rw parts.0 (fixed_is c.args.width n small) in
    let some = c.in_ok-number.ensures.complete of.all (omega (arith, of.long)) in ((cc), parts.1)
