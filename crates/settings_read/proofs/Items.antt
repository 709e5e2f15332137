-- The facts on items that several functions use.
use Rattle.settings_read.proofs.MemberKeys.{are_tables-view, item_count-view}

pub ruleset on_items = (are_tables-view, item_count-view)
