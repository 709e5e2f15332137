use Rattle.comtrade_read.specs.Channels.{channels_text}
use Rattle.comtrade_read.proofs.config.read_channels.Goals as goal

pub returns-clause-sound : goal.returns-clause-sound
unfolding channels_text
returns-clause-sound c = c.after.ensures.sound

pub returns-clause-complete : goal.returns-clause-complete
unfolding channels_text
returns-clause-complete c = c.after.ensures.complete
