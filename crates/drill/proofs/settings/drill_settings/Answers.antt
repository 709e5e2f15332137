use Rattle.std.proofs.Common.{◌≡◌, [], ◌∷◌, rules}
use Rattle.drill.proofs.SettingsLemmas.{both_in_range}
use Rattle.drill.proofs.settings.drill_settings.Goals as goal

pub returns-clause-ranges : goal.returns-clause-ranges
returns-clause-ranges c =
    let both : c.push-2.new.self.items ≡ c.line.result ∷ c.line-2.result ∷ [] = search rules in
    both_in_range _ c.line.result c.line-2.result c.common.ensures both c.line.ensures.ranges c.line-2.ensures.ranges
    c.line.ensures.value c.line-2.ensures.value
