use Rattle.std.proofs.Common.{[], lit≤, rules}
use Rattle.std.proofs.lemmas.List.Elements.{All-cons}
use Rattle.relay_settings.specs.Ranges.{IsZone}
use Rattle.drill.proofs.SettingsLemmas.{name_text, name_not_frame, sv_id_text}
use Rattle.drill.proofs.settings.line.Goals as goal

pub returns-clause-ranges : goal.returns-clause-ranges
returns-clause-ranges c = record {
  name = rw (c.copy_of.ensures, c.name.ensures.value) (name_text c.args.line);
  not_frame = rw (c.copy_of.ensures, c.name.ensures.value) (name_not_frame c.args.line);
  sv_id = rw (c.copy_of-2.ensures, c.sv_id.ensures.value) (sv_id_text c.args.line);
  synch_min = lit≤ tt;
  impedance = search rules;
  limits = search rules;
  mimic = tt;
  swing = tt;
  fuse = tt;
  load = tt;
  goose = c.goose.ensures.ranges;
  zones = rw (c.push.ensures.items, c.new-zones.ensures) (All-cons IsZone c.zone.result [] c.zone.ensures.ranges (search rules));
}
