use Rattle.std.proofs.Common.{refl, sym, subst}
use Rattle.std.specs.Prelude.{Some, Option, Ok}
use Rattle.room_io.specs.declared.room.Slot.TheVariants.{Log}
use Rattle.breaker_guard.specs.declared.event.GuardEvent.{GuardEvent}
use Rattle.breaker_guard.specs.Guarding.{listed}
use Rattle.relay_tool.specs.Output.{guard_items}
use Rattle.relay_tool.specs.Making.{Makes}
use Rattle.relay_tool.proofs.Writing.{Makes-nothing, put-made}
use Rattle.relay_tool.proofs.guards.GuardStudied.put.Goals as goal

pub returns-in-Some : goal.returns-in-Some
returns-in-Some g c =
    subst (λ (x : Option GuardEvent). Makes (guard_items c.args.name.now (listed x)) (g.R.Room.state c.args.room.now) (g.R.Room.state c.put_guard.new.room) c.put_guard.result) (sym c.in-Some.is)
    (put-made Log (Some c.args.name.now) c.put_guard.result refl c.put_guard.ensures)

pub returns-in-None : goal.returns-in-None
returns-in-None g c =
    subst (λ (x : Option GuardEvent). Makes (guard_items c.args.name.now (listed x)) (g.R.Room.state c.args.room.now) (g.R.Room.state c.args.room.now) (Ok tt)) (sym c.in-None.is) (Makes-nothing _)
