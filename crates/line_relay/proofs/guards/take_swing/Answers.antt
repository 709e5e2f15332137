use Rattle.line_relay.proofs.guards.take_swing.Goals as goal

pub swing_after-requires-clause-settings : goal.swing_after-requires-clause-settings
swing_after-requires-clause-settings c = c.requires.settings c.in-Some.s c.in-Some.is
