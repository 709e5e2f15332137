use Rattle.std.proofs.Common.{ap, refl, sym, subst}
use Rattle.relay_settings.specs.declared.types.LineSettings.{LineSettings}
use Rattle.relay_settings.specs.Settings.{plain_line}
use Rattle.fault_locate.specs.KeptWaiting.{IsModest}
use Rattle.fault_locate.proofs.LocatorLemmas.{modest, none-held}
use Rattle.fault_locate.proofs.locator.LocatorLineElement.new.Goals as goal

pub invariant_of-result-clause-modest : goal.invariant_of-result-clause-modest
invariant_of-result-clause-modest c =
    subst (λ (s : LineSettings). IsModest (plain_line s)) (sym c.copy.ensures) (modest c.args.s.now c.requires.settings.impedance)

pub returns-clause-stands : goal.returns-clause-stands
returns-clause-stands c = record {
  same_common = refl;
  same_settings = ap plain_line c.copy.ensures;
  line = c.in_ok-line.ensures.0;
  front = c.in_ok-front.ensures.stands;
  holds = none-held c.args.common.now (plain_line c.args.s.now) c.in_ok-lookback.lookback c.in_ok-lookback.ensures;
}
