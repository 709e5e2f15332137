use Rattle.inverse_time.proofs.element.Element.take.Goals as goal

pub returns-in_default : goal.returns-in_default
returns-in_default c run stands = rw c.in_default.is (c.new.ensures c.args.dial c.args.rate)
