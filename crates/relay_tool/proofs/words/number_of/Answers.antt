use Rattle.std.proofs.Common.{◌≡◌, ◌∙◌, sym, ap}
use Rattle.std.specs.Prelude.{Ok}
use Rattle.std.specs.Fmt.{decimal}
use Rattle.std.proofs.lemmas.Fmt.{parse-decimal}
use Rattle.std.proofs.lemmas.Slice.Eq.{bytes_eq-Decides}
use Rattle.relay_tool.proofs.Spelling.{number-is, number-none}
use Rattle.relay_tool.proofs.words.number_of.Goals as goal

pub returns-in-Err : goal.returns-in-Err
returns-in-Err c =
    sym (number-none c.args.word.now (λ n small is.
    let e : c.parse.result ≡ Ok n = parse-decimal 64 n c.args.word.now c.parse.result small small (sym is) c.parse.ensures.value.0 in
    let err = c.in-Err.is in cc))

pub returns-then-are_equal : goal.returns-then-are_equal
returns-then-are_equal c =
    sym (number-is c.args.word.now c.in-Ok.number c.digits_of.ensures.small
    (sym (c.as_slice.ensures.value ∙ c.digits_of.ensures.digits) ∙ (bytes_eq-Decides c.as_slice.result.now c.as_bytes.result.now).0 (sym c.are_equal.ensures ∙ c.if-are_equal.true) ∙ c.as_bytes.ensures.value))

pub returns-else-are_equal : goal.returns-else-are_equal
returns-else-are_equal c =
    sym (number-none c.args.word.now (λ n small is.
    let e : c.parse.result ≡ Ok n = parse-decimal 64 n c.args.word.now c.parse.result small small (sym is) c.parse.ensures.value.0 in
    let ok = c.in-Ok.is in
    let same : c.in-Ok.number ≡ n = cc in
    let equal = (bytes_eq-Decides c.as_slice.result.now c.as_bytes.result.now).1 (c.as_slice.ensures.value ∙ c.digits_of.ensures.digits ∙ ap decimal same ∙ is ∙ sym c.as_bytes.ensures.value) in
    let differ = sym c.are_equal.ensures ∙ c.if-are_equal.false in cc))
