use Rattle.std.proofs.Common.{refl, sym, subst}
use Rattle.std.specs.Prelude.{Some, Option, Ok}
use Rattle.room_io.specs.declared.room.Slot.TheVariants.{Log}
use Rattle.fault_locate.specs.declared.located.Located.{Located}
use Rattle.relay_tool.specs.Output.{located_items}
use Rattle.relay_tool.specs.Making.{Makes}
use Rattle.relay_tool.proofs.Writing.{Makes-nothing, put-made}
use Rattle.relay_tool.proofs.locators.LocatorStudied.put.Goals as goal

pub returns-in-Some : goal.returns-in-Some
returns-in-Some g c =
    subst (λ (x : Option Located). Makes (located_items c.args.name.now x) (g.R.Room.state c.args.room.now) (g.R.Room.state c.put_located.new.room) c.put_located.result) (sym c.in-Some.is)
    (put-made Log (Some c.args.name.now) c.put_located.result refl c.put_located.ensures)

pub returns-in-None : goal.returns-in-None
returns-in-None g c =
    subst (λ (x : Option Located). Makes (located_items c.args.name.now x) (g.R.Room.state c.args.room.now) (g.R.Room.state c.args.room.now) (Ok tt)) (sym c.in-None.is) (Makes-nothing _)
