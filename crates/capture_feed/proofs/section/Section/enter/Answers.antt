use Rattle.std.proofs.Common.{rules}
use Rattle.capture_feed.proofs.section.Section.enter.Goals as goal

pub returns-then-eq-clause-section : goal.returns-then-eq-clause-section
returns-then-eq-clause-section c = search rules
