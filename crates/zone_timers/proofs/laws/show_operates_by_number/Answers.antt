use Rattle.zone_timers.proofs.OperateLemmas.{operates_numbered}
use Rattle.zone_timers.proofs.laws.show_operates_by_number.Goals as goal

pub returns : goal.returns
returns g c number inside ground_delays phase_delays samples never breaks rises =
    operates_numbered number inside ground_delays phase_delays samples never breaks rises
