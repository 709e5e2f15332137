use Rattle.std.proofs.Common.{◌∙◌, refl}
use Rattle.relay_settings.specs.Settings.{plain_line}
use Rattle.line_relay.proofs.FrontLemmas.{common_rated}
use Rattle.breaker_guard.proofs.GuardLemmas.{some-waits, new-watch}
use Rattle.breaker_guard.proofs.guard.GuardLineElement.new.Goals as goal

pub returns-clause-stands : goal.returns-clause-stands
returns-clause-stands c = record {
  same_common = refl;
  same_sv_id = c.copy_of.ensures ∙ c.as_slice.ensures.value;
  same_open_i = refl;
  line = c.in_ok-line.ensures.0;
  front = c.in_ok-front.ensures.stands;
  waits = some-waits c.args.common.now.rate c.args.times (common_rated c.args.common.now c.requires.common) c.requires.asked;
  watch = new-watch c.args.common.now (plain_line c.args.s.now) c.args.times c.waits_of.result _ c.waits_of.ensures c.new-4.ensures;
}
