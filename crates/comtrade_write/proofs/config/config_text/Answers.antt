use Rattle.std.proofs.Common.{◌∙◌, ◌-◌, ap, sym, Some}
use Rattle.comtrade_read.specs.Configurations.{configuration_lines}
use Rattle.comtrade_write.specs.ConfigTexts.{config_lines, configuration_of}
use Rattle.comtrade_write.proofs.LineLemmas.{line-at}
use Rattle.comtrade_write.proofs.config.config_text.Goals as goal

pub returns : goal.returns
unfolding config_lines
returns c = line-at (configuration_lines (configuration_of c.args.name.now c.args.common.now c.args.span.now)) (c.args.i - 1) c.put_text.new.out.items c.put_text.ensures.text ∙ ap Some (sym c.put_bytes.ensures.bytes)
