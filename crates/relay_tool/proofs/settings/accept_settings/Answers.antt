use Rattle.std.proofs.Common.{◌∙◌, arith, refl, sym, ap, subst}
use Rattle.room_io.proofs.Rooms.{OnlyAt-trans}
use Rattle.settings_read.specs.Accepted.{accepted}
use Rattle.relay_tool.specs.Accepting.{SettingsEnd}
use Rattle.relay_tool.specs.declared.settings.SettingsStop.{SettingsStop}
use Rattle.relay_tool.proofs.Slots.{told_at}
use Rattle.relay_tool.proofs.Accepting.{accepts, leaves-rest, settings-error}
use Rattle.relay_tool.proofs.settings.accept_settings.Goals as goal

pub returns-in-Ok-read_settings : goal.returns-in-Ok-read_settings
returns-in-Ok-read_settings g c =
    record {
      only = OnlyAt-trans c.in-Ok.ensures.only c.read_up_to.ensures.only;
      named = c.read_up_to.ensures.stays.name ∙ c.in-Ok.ensures.name;
      later = let a = c.in-Ok.ensures.cause.later in let b = c.read_up_to.ensures.later in omega arith;
      accepted = (
        c.in-Ok-read_settings.ensures.ranges,
        λ told.
            accepts 1048577 (g.R.Room.state c.args.room.now).contents c.args.name.now (g.R.Room.state c.open_in.new.self).settings.bytes c.in-Ok-read_up_to.text.items refl (c.in-Ok.ensures.bytes told)
            (c.in-Ok-read_up_to.ensures.bytes (told_at c.in-Ok.ensures.only told))
            ∙ (ap accepted (sym c.as_slice.ensures.value) ∙ sym c.in-Ok-read_settings.ensures.exact),
      );
      end = tt;
    }

pub returns : goal.returns
returns g c =
    record {
      only = OnlyAt-trans c.in-Ok.ensures.only c.read_up_to.ensures.only;
      named = c.read_up_to.ensures.stays.name ∙ c.in-Ok.ensures.name;
      later = let a = c.in-Ok.ensures.cause.later in let b = c.read_up_to.ensures.later in omega arith;
      accepted = tt;
      end = subst (λ (stop : SettingsStop). SettingsEnd c.args.name.now (g.R.Room.state c.args.room.now) (g.R.Room.state c.read_up_to.new.room) stop) (sym c.stop_of.ensures)
          (settings-error c.args.name.now (g.R.Room.state c.args.room.now) (g.R.Room.state c.read_up_to.new.room) c.in-Err-read_settings.error c.as_slice.result.now
          (λ told. accepts 1048577 (g.R.Room.state c.args.room.now).contents c.args.name.now (g.R.Room.state c.open_in.new.self).settings.bytes c.in-Ok-read_up_to.text.items refl (c.in-Ok.ensures.bytes told)
          (c.in-Ok-read_up_to.ensures.bytes (told_at c.in-Ok.ensures.only told)) ∙ ap accepted (sym c.as_slice.ensures.value))
          c.in-Err-read_settings.ensures.exact
          (λ told. leaves-rest (g.R.Room.state c.args.room.now).contents c.args.name.now (g.R.Room.state c.open_in.new.self).settings.bytes (g.R.Room.state c.read_up_to.new.room).settings.bytes (c.in-Ok.ensures.bytes told)
          (c.in-Ok-read_up_to.ensures.left (told_at c.in-Ok.ensures.only told))));
    }
