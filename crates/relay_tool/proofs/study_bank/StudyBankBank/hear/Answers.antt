use Rattle.std.proofs.Common.{◌∷◌, ◌∙◌, ◌<◌, refl, sym, subst, arith, length, List}
use Rattle.std.specs.Prelude.{Ok}
use Rattle.sv_frame.specs.Asdu.{plain_asdu}
use Rattle.room_io.specs.declared.room.Slot.TheVariants.{Log}
use Rattle.relay_settings.specs.Settings.{plain_settings}
use Rattle.relay_tool.specs.Output.{Item}
use Rattle.relay_tool.specs.Making.{Makes}
use Rattle.relay_tool.proofs.Writing.{Makes-nothing}
use Rattle.relay_tool.proofs.Studying.{name-at, none-studied, studied-made}
use Rattle.relay_tool.proofs.study_bank.StudyBankBank.hear.Goals as goal

pub returns-in_default-clause-made : goal.returns-in_default-clause-made
returns-in_default-clause-made g c tells past stands =
    let s = plain_settings c.args.self.now.settings in
    subst (λ t. Makes (t (plain_asdu c.args.a.now ∷ past)) (g.R.Room.state c.args.room.now) (g.R.Room.state c.args.room.now) (Ok tt)) stands.is
    (subst (λ (items : List Item). Makes items (g.R.Room.state c.args.room.now) (g.R.Room.state c.args.room.now) (Ok tt))
    (sym (none-studied stands.lines (g.E.LineElement.tells s.common stands.asked) s.lines past (plain_asdu c.args.a.now) (rw c.in_default.is at c.hear.ensures.none s stands.asked past stands.stands))) (Makes-nothing _))

pub returns-in_default-clause-after : goal.returns-in_default-clause-after
returns-in_default-clause-after g c tells past stands = record {
  asked = stands.asked;
  lines = stands.lines;
  agree = stands.agree;
  is = stands.is;
  stands = c.hear.ensures.after (plain_settings c.args.self.now.settings) stands.asked past stands.stands;
}

pub put-requires-clause-log : goal.put-requires-clause-log
put-requires-clause-log g c = c.requires.open Log refl

pub returns-clause-made : goal.returns-clause-made
returns-clause-made g c tells past stands =
    let s = plain_settings c.args.self.now.settings in
    let told = c.in-Some.ensures.told s stands.asked past stands.stands in
    let within : c.in-Some.place < length c.args.self.now.settings.lines.items = omega (arith, c.in-Some.ensures.within, c.hear.ensures.same_count, c.args.self.now.same) in
    subst (λ t. Makes (t (plain_asdu c.args.a.now ∷ past)) (g.R.Room.state c.args.room.now) (g.R.Room.state c.put.new.room) c.put.result) stands.is
    (studied-made stands.lines (g.E.LineElement.tells s.common stands.asked) s.lines (plain_asdu c.args.a.now ∷ past) c.in-Some.place c.as_slice.result.now (g.E.LineElement.said c.in-Some.told) told
    (c.as_slice.ensures.value ∙ name-at c.args.self.now.settings c.in-Some.place told.line c.index.result.now within told.at_place c.index.ensures)
    (subst (λ (items : List Item). Makes items (g.R.Room.state c.args.room.now) (g.R.Room.state c.put.new.room) c.put.result) (stands.agree c.as_slice.result.now c.in-Some.told) c.put.ensures))

pub returns-clause-after : goal.returns-clause-after
returns-clause-after g c tells past stands = record {
  asked = stands.asked;
  lines = stands.lines;
  agree = stands.agree;
  is = stands.is;
  stands = c.hear.ensures.after (plain_settings c.args.self.now.settings) stands.asked past stands.stands;
}
