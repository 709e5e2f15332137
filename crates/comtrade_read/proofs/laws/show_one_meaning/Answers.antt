use Rattle.std.proofs.Common.{◌∙◌, sym, ◌∷◌, [], arith}
use Rattle.comtrade_read.proofs.OneMeaning.{configuration_same, rows_same}
use Rattle.comtrade_read.proofs.laws.show_one_meaning.Goals as goal

pub returns : goal.returns
returns c config_bytes data_bytes rate other samples others pair again =
    let same = configuration_same pair.configuration again.configuration pair.ranges again.ranges (sym pair.config ∙ again.config) in (
      sym pair.same_rate ∙ same.0 ∙ again.same_rate,
      rows_same 1 0 0 samples others (26 ∷ []) (26 ∷ []) (sym pair.same_count ∙ same.1 ∙ again.same_count) (omega (arith, pair.same_count, pair.ranges.count)) pair.times again.times (sym pair.rows ∙ again.rows),
    )
