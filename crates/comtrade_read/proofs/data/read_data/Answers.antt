use Rattle.std.proofs.Common.{◌≡◌, ◌+◌, ◌++◌, ◌∷◌, []}
use Rattle.comtrade_read.specs.Rows.{rows_text}
use Rattle.comtrade_read.proofs.DataLemmas.{Read, next_line, more}
use Rattle.comtrade_read.proofs.data.read_data.Goals as goal

pub returns-in_default-clause-complete : goal.returns-in_default-clause-complete
returns-in_default-clause-complete c samples long times is =
    let n = next_line c.args.text.now c.args.count c.loop-i.samples.items c.loop-i.i c.loop-i.least c.loop-i.left.now c.loop-i.invariant c.loop-i-test.true samples times is long in
    absurd (c.in_default.ensures.complete n.next (rows_text (c.loop-i.i + 1 + 1) n.later ++ 26 ∷ []) n.late n.sample n.text)

pub loop-i-preserved : goal.loop-i-preserved
loop-i-preserved c =
    let items : c.push.new.self.items ≡ c.loop-i.samples.items ++ c.in-Some.sample ∷ [] = c.in-Ok.ensures.items in
    let line : Read c.loop-i.left.now (c.loop-i.i + 1) c.loop-i.least c.in-Some.sample c.in-Some.rest.now = record {
      text = c.in-Some.ensures.sound.0;
      late = c.in-Some.ensures.sound.1;
      sample = c.in-Some.ensures.sound.2;
      only = c.in-Some.ensures.complete;
    } in
    rw items (more c.args.text.now c.args.count c.loop-i.samples.items c.loop-i.i c.loop-i.least c.loop-i.left.now c.in-Some.sample c.in-Some.rest.now c.loop-i.invariant c.loop-i-test.true line)
