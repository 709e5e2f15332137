use Rattle.std.proofs.Common.{length, ◌<◌, ◌≤◌, drop, sym, ◌∙◌, arith}
use Rattle.std.proofs.lemmas.List.{drop_all, length-drop}
use Rattle.sv_frame.proofs.PduLemmas.{parts_none, parts_one, parts_two, parts_cut, parts_more, parts_three, parts_other}
use Rattle.sv_frame.proofs.pdu.parts_in.Goals as goal
use Rattle.sv_frame.proofs.pdu.parts_in.Goals.{then-second-via-then-second, then-second-via-else-second+then-third-bytes}

pub returns-in_default-clause-exact : goal.returns-in_default-clause-exact
returns-in_default-clause-exact g c = sym (parts_none c.args.bytes.now c.in_default.ensures.exact)

pub returns-in_default-head-clause-exact : goal.returns-in_default-head-clause-exact
returns-in_default-head-clause-exact g c = sym (parts_one c.args.bytes.now _ _ c.in-Ok.ensures.exact c.in_default-head.ensures.exact)

pub returns-then-second-bytes-clause-exact : goal.returns-then-second-bytes-clause-exact
returns-then-second-bytes-clause-exact g c =
    let here : length c.args.bytes.now ≤ c.in-Ok-head.second.end = omega arith in
    c.counted.ensures.exact ∙ sym (parts_two c.args.bytes.now _ _ _ _ c.in-Ok.ensures.exact c.in-Ok-head.ensures.exact (drop_all c.in-Ok-head.second.end c.args.bytes.now here))

pub returns-in_default-head-2-clause-exact : goal.returns-in_default-head-2-clause-exact
returns-in_default-head-2-clause-exact g c =
    let some : 0 < length (drop c.in-Ok-head.second.end c.args.bytes.now) = omega (arith, length-drop c.in-Ok-head.second.end c.args.bytes.now, c.in-Ok-head.ensures.within) in
    sym (parts_cut c.args.bytes.now _ _ _ _ c.in-Ok.ensures.exact c.in-Ok-head.ensures.exact some c.in_default-head-2.ensures.exact)

pub returns-then-second-clause-exact : goal.returns-then-second-clause-exact
returns-then-second-clause-exact g c =
    elim c.then-second.branch [
      | then-second-via-then-second w ↦ sym (parts_other c.args.bytes.now _ _ _ _ _ _ c.in-Ok.ensures.exact c.in-Ok-head.ensures.exact c.in-Ok-head-2.ensures.exact w.if-second.true)
      | then-second-via-else-second+then-third-bytes w ↦
          let some : 0 < length (drop c.in-Ok-head-2.third.end c.args.bytes.now) = omega (arith, length-drop c.in-Ok-head-2.third.end c.args.bytes.now, w.if-third-bytes.true) in
          sym (parts_more c.args.bytes.now _ _ _ _ _ _ c.in-Ok.ensures.exact c.in-Ok-head.ensures.exact c.in-Ok-head-2.ensures.exact some)
    ]

pub returns-clause-exact : goal.returns-clause-exact
returns-clause-exact g c =
    c.counted-2.ensures.exact ∙ sym (parts_three c.args.bytes.now _ _ _ _ _ _ c.in-Ok.ensures.exact c.in-Ok-head.ensures.exact c.in-Ok-head-2.ensures.exact (drop_all c.in-Ok-head-2.third.end c.args.bytes.now c.if-third-bytes.false) c.if-second.false)
