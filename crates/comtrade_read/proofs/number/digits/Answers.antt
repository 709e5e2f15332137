use Rattle.std.proofs.Common.{◌≡◌, ℕ, get_or, take, arith, length-take, ◌∙◌, sym}
use Rattle.std.proofs.lemmas.List.{take_more}
use Rattle.std.specs.Char.{digit_value}
use Rattle.std.proofs.lemmas.Str.Parse.{digit_at}
use Rattle.std.proofs.lemmas.Int.Digits.{digits_value_more}
use Rattle.comtrade_read.proofs.DigitLemmas.{all-push, short_value, value_of_digit, digit_yes, digit_no}
use Rattle.comtrade_read.proofs.number.digits.Goals as goal

pub returns-then-not-is_ascii_digit-clause-complete : goal.returns-then-not-is_ascii_digit-clause-complete
returns-then-not-is_ascii_digit-clause-complete c all short =
    absurd (digit_no (get_or c.args.bytes.now c.loop-byte.byte-index 0) (sym c.is_ascii_digit.ensures.value ∙ c.if-not-is_ascii_digit.true) (digit_at c.args.bytes.now c.loop-byte.byte-index all (omega arith)))

pub overflow_mul-value : goal.overflow_mul-value
overflow_mul-value c =
    let small = short_value (take c.loop-byte.byte-index c.args.bytes.now) 9 c.loop-byte.invariant.all (omega (arith, length-take {A = ℕ})) in
    omega (arith, small, c.loop-byte.invariant)

pub overflow_add-value : goal.overflow_add-value
overflow_add-value c =
    let small = short_value (take c.loop-byte.byte-index c.args.bytes.now) 9 c.loop-byte.invariant.all (omega (arith, length-take {A = ℕ})) in
    let digit = digit_yes (get_or c.args.bytes.now c.loop-byte.byte-index 0) (sym c.is_ascii_digit.ensures.value ∙ c.if-not-is_ascii_digit.false) in
    omega (arith, small, digit, c.loop-byte.invariant, c.from.ensures)

pub loop-byte-preserved : goal.loop-byte-preserved
loop-byte-preserved c =
    let byte = get_or c.args.bytes.now c.loop-byte.byte-index 0 in
    let digit = digit_yes byte (sym c.is_ascii_digit.ensures.value ∙ c.if-not-is_ascii_digit.false) in
    let value : c.from.result ≡ digit_value byte = c.from.ensures ∙ sym (value_of_digit byte digit.0 digit.1) in
    record {
      all = rw (take_more c.args.bytes.now c.loop-byte.byte-index 0 c.loop-byte-test.true) (all-push (take c.loop-byte.byte-index c.args.bytes.now) byte c.loop-byte.invariant.all digit.0 digit.1);
      value = rw (value, c.loop-byte.invariant.value) (sym (digits_value_more 10 c.args.bytes.now c.loop-byte.byte-index c.loop-byte-test.true));
      short = c.loop-byte.invariant.short;
    }
