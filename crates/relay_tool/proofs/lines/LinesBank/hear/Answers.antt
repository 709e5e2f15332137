use Rattle.std.proofs.Common.{◌∷◌, refl, sym, subst, List}
use Rattle.std.specs.Prelude.{Ok}
use Rattle.sv_frame.specs.Asdu.{plain_asdu}
use Rattle.room_io.specs.declared.room.Slot.TheVariants.{Goose, Log}
use Rattle.line_relay.specs.Bursts.{plain_burst}
use Rattle.relay_tool.specs.Output.{Item}
use Rattle.relay_tool.specs.Making.{Makes}
use Rattle.relay_tool.proofs.Writing.{Makes-nothing}
use Rattle.relay_tool.proofs.Telling.{told-made, none-heard, line-stands}
use Rattle.relay_tool.proofs.lines.LinesBank.hear.Goals as goal

pub returns-in_default-clause-made : goal.returns-in_default-clause-made
returns-in_default-clause-made g c tells past stands =
    subst (λ t. Makes (t (plain_asdu c.args.a.now ∷ past)) (g.R.Room.state c.args.room.now) (g.R.Room.state c.args.room.now) (Ok tt)) stands.is
    (subst (λ (items : List Item). Makes items (g.R.Room.state c.args.room.now) (g.R.Room.state c.args.room.now) (Ok tt))
    (sym (none-heard stands.settings past (plain_asdu c.args.a.now) (rw c.in_default.is at c.hear_into.ensures.none stands.settings past stands.stands))) (Makes-nothing _))

pub returns-in_default-clause-after : goal.returns-in_default-clause-after
returns-in_default-clause-after g c tells past stands = record {
  settings = stands.settings;
  is = stands.is;
  stands = c.hear_into.ensures.after stands.settings past stands.stands;
}

pub put_burst-requires-clause-goose : goal.put_burst-requires-clause-goose
put_burst-requires-clause-goose g c = c.requires.open Goose refl

pub put_burst-requires-clause-log : goal.put_burst-requires-clause-log
put_burst-requires-clause-log g c = c.requires.open Log refl

pub returns-clause-made : goal.returns-clause-made
returns-clause-made g c tells past stands =
    let told = c.in-Some.ensures.told stands.settings past stands.stands in
    subst (λ t. Makes (t (plain_asdu c.args.a.now ∷ past)) (g.R.Room.state c.args.room.now) (g.R.Room.state c.put_burst.new.room) c.put_burst.result) stands.is
    (told-made stands.settings past (plain_asdu c.args.a.now) c.in-Some.place (plain_burst c.hear_into.new.burst) told
    (c.put_burst.ensures.made stands.settings.common told.line _ (line-stands stands.settings (plain_asdu c.args.a.now ∷ past) c.hear_into.new.self c.in-Some.place told.line c.line.result.now
    (c.hear_into.ensures.after stands.settings past stands.stands) told.within told.at_place c.line.ensures)))

pub returns-clause-after : goal.returns-clause-after
returns-clause-after g c tells past stands = record {
  settings = stands.settings;
  is = stands.is;
  stands = c.hear_into.ensures.after stands.settings past stands.stands;
}
