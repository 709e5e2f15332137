use Rattle.std.proofs.Common.{refl, ◌∙◌}
use Rattle.relay_settings.specs.Settings.{plain_line}
use Rattle.inverse_time.proofs.BackupLemmas.{none_added}
use Rattle.inverse_time.proofs.backup.BackupLineElement.new.Goals as goal

pub returns-clause-stands : goal.returns-clause-stands
returns-clause-stands c =
    let common = c.args.common.now in
    let settings = plain_line c.args.s.now in
    let dial = c.args.dial in
    record {
      same_common = refl;
      same_sv_id = c.copy_of.ensures ∙ c.as_slice.ensures.value;
      same_dial = refl;
      front = c.in_ok-front.ensures.stands;
      elements = record {
        phase_a = none_added common settings dial 0 c.new-2.result (c.new-2.ensures dial common.rate);
        phase_b = none_added common settings dial 1 c.new-3.result (c.new-3.ensures dial common.rate);
        phase_c = none_added common settings dial 2 c.new-4.result (c.new-4.ensures dial common.rate);
      };
    }
