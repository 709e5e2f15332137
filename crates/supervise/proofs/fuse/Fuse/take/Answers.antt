use Rattle.std.proofs.Common.{ap, sym, ◌∙◌, ◌&&◌, ◌∷◌}
use Rattle.std.specs.Prelude.{nat_lt}
use Rattle.supervise.specs.Fusing.{take_of, counts_as_blown}
use Rattle.supervise.proofs.FuseLemmas.{left_is, blown_is}
use Rattle.supervise.proofs.fuse.Fuse.take.Goals as goal

pub returns-clause-blown : goal.returns-clause-blown
returns-clause-blown c s rate takes stands =
    let old = c.args.self.now in
    let t = take_of c.args.u2_high c.args.i2_low in
    ap (λ n. c.args.i2_low && nat_lt 0 n) (left_is old.hold old.left t takes _ stands.left c.left_after-self.ensures)
    ∙ sym (blown_is old.hold t takes)
    ∙ ap (λ hold. counts_as_blown hold (t ∷ takes)) stands.hold

pub returns-clause-after : goal.returns-clause-after
returns-clause-after c s rate takes stands =
    let old = c.args.self.now in
    let t = take_of c.args.u2_high c.args.i2_low in
    record {
      hold = stands.hold;
      left = left_is old.hold old.left t takes _ stands.left c.left_after-self.ensures;
    }
