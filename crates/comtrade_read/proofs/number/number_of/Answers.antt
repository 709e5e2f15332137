use Rattle.std.proofs.Common.{◌≡◌, ◌<◌, length, get_or, arith, rules}
use Rattle.comtrade_read.proofs.DigitLemmas.{numeral_of, number-sound, number-complete}
use Rattle.comtrade_read.proofs.number.number_of.Goals as goal
use Rattle.comtrade_read.proofs.number.number_of.Goals.{else-bytes-eq-NEEDLESS-via-then-bytes-eq-NEEDLESS+else-bytes-gt1, else-bytes-eq-NEEDLESS-via-else-bytes-eq-NEEDLESS}

pub returns-then-is_empty-clause-complete : goal.returns-then-is_empty-clause-complete
returns-then-is_empty-clause-complete c n small is =
    let some = (numeral_of n c.args.bytes.now small is).some in
    let none : length c.args.bytes.now ≡ 0 = search rules in absurd (omega arith)

pub returns-then-bytes-gt1-clause-complete : goal.returns-then-bytes-gt1-clause-complete
returns-then-bytes-gt1-clause-complete c n small is =
    let plain = (numeral_of n c.args.bytes.now small is).plain c.if-bytes-eq-NEEDLESS.true in absurd (omega arith)

pub returns-clause-sound : goal.returns-clause-sound
returns-clause-sound c =
    let some : 0 < length c.args.bytes.now = search rules in
    let plain : get_or c.args.bytes.now 0 0 ≡ 48 → length c.args.bytes.now ≡ 1 = λ zero. elim c.else-bytes-eq-NEEDLESS.branch [
      | else-bytes-eq-NEEDLESS-via-then-bytes-eq-NEEDLESS+else-bytes-gt1 w ↦ omega arith
      | else-bytes-eq-NEEDLESS-via-else-bytes-eq-NEEDLESS w ↦ absurd (w.if-bytes-eq-NEEDLESS.false zero)
    ] in
    number-sound c.args.bytes.now c.digits.result c.digits.ensures.sound some plain

pub returns-clause-complete : goal.returns-clause-complete
returns-clause-complete c = number-complete c.args.bytes.now c.digits.result c.digits.ensures.complete
