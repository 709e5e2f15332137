use Rattle.std.proofs.Common.{ℕ, ◌+◌, ◌-◌, ◌*◌, ◌<◌, length, arith, List, Option, Some, None}
use Rattle.std.specs.List.{concat}
use Rattle.relay_settings.specs.declared.types.Common.{Common}
use Rattle.relay_settings.specs.Ranges.{IsCommon, IsText}
use Rattle.sample_windows.specs.Numbered.{Rises}
use Rattle.line_relay.specs.Outcomes.{taken_samples}
use Rattle.line_relay.proofs.FrontLemmas.{rises, some_cycle}
use Rattle.line_bank.specs.Owners.{own}
use Rattle.comtrade_read.specs.Pairs.{IsPair}
use Rattle.comtrade_write.specs.declared.covered.Recorded.{Recorded}
use Rattle.comtrade_write.specs.Covered.{trip_number, covered_at, number_of_recorded}
use Rattle.comtrade_write.specs.DataTexts.{data_lines}
use Rattle.comtrade_write.specs.Recordings.{recorded_of, covered_by, config_by, first_number}
use Rattle.comtrade_write.specs.Said.{all_said}
use Rattle.comtrade_write.proofs.WatchLemmas.{rises-recorded}
use Rattle.comtrade_write.proofs.CoverLemmas.{AreFine, covers-window, fine-recorded}
use Rattle.comtrade_write.proofs.SaidLemmas.{pair_of}
use Rattle.comtrade_write.proofs.laws.show_record_is_a_pair.Goals as goal

by_trip : (name : List ℕ) (c : Common) (rs : List Recorded) → IsCommon c → IsText 33 16 name → Rises number_of_recorded rs → AreFine rs
    → (trip : Option ℕ) → 0 < length (covered_by c.n trip rs)
    → IsPair (concat (config_by name c trip rs)) (concat (data_lines c.rate (first_number (covered_by c.n trip rs)) (covered_by c.n trip rs))) c.rate (all_said c.rate (covered_by c.n trip rs))
by_trip name c rs is named rising fine None some = absurd (omega arith)
by_trip name c rs is named rising fine (Some t) some =
    pair_of name c t (t - 2 * c.n) (t + 4 * c.n + 1) (covered_at c.n t rs) is named (omega (arith, some_cycle c is))
    (covers-window (t - 2 * c.n) (t + 4 * c.n) rs rising fine) some

pub returns : goal.returns
returns c common settings k past is named some =
    let sets = own settings past in
    by_trip settings.name common (recorded_of common settings past) is named (rises-recorded common settings (taken_samples common settings sets) (rises common settings sets))
    (fine-recorded common settings sets) (trip_number k (recorded_of common settings past)) some
