use Rattle.std.proofs.Common.{◌≤◌, ◌+◌, ◌*◌, arith}
use Rattle.line_bank.specs.Owners.{own}
use Rattle.comtrade_write.proofs.recorder.Recorder.hear.Goals as goal

pub invariant_of-self : goal.invariant_of-self
invariant_of-self g c = record {
  rated = c.args.self.now.rated;
  slow = c.args.self.now.slow;
  nominal = c.args.self.now.nominal;
  line_near = λ x e. (let near : x ≤ 4800 * c.args.self.now.heard + 4800 = c.hear.ensures.line (4800 * c.args.self.now.heard) c.args.self.now.line_near x e in omega arith);
  front_near = λ x e. (let near : x ≤ 4800 * c.args.self.now.heard + 4800 = c.hear.ensures.front (4800 * c.args.self.now.heard) c.args.self.now.front_near x e in omega arith);
  few = omega (arith, c.hear.ensures.trips, c.args.self.now.few);
}

pub returns-clause-after : goal.returns-clause-after
returns-clause-after g c common settings k past stands = record {
  same_common = stands.same_common;
  watch = c.hear.ensures.after common settings k (own settings past) stands.watch;
}
