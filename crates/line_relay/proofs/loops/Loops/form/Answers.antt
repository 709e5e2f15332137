use Rattle.line_relay.proofs.loops.Loops.form.Goals as goal

pub returns : goal.returns
returns c settings m polarising are =
    record {
      ag = c.form_if.ensures _ _ _ are.ag;
      bg = c.form_if-2.ensures _ _ _ are.bg;
      cg = c.form_if-3.ensures _ _ _ are.cg;
      ab = c.form_if-4.ensures _ _ _ are.ab;
      bc = c.form_if-5.ensures _ _ _ are.bc;
      ca = c.form_if-6.ensures _ _ _ are.ca;
    }
