-- What a front holds after the sample sets of its line.
use Rattle.std.specs.Prelude.{ℕ, ◌≡◌, List, Option}
use Rattle.relay_settings.specs.declared.types.Common.{Common}
use Rattle.relay_settings.specs.Settings.{PlainLine}
use Rattle.sv_frame.specs.Asdu.{PlainAsdu}
use Rattle.sample_stream.specs.Numbering.{last_of as last_of_numberer, rate_of}
use Rattle.line_relay.specs.declared.front.Front.{Front}
use Rattle.line_relay.specs.KeptSamples.{window, kept_now}
use Rattle.line_relay.specs.Outcomes.{taken_samples, taken_number}

-- the last number of a front
abbrev pub last_of : Front → Option ℕ
last_of front = last_of_numberer front.numberer

-- The front after these sample sets: the last number, and the window of the last run of good samples. That its sums
-- are those of its window is a fact of each front, whatever it stands for.
pub record StandsFor (common : Common) (settings : PlainLine) (asdus : List PlainAsdu) (front : Front) : Type 0 where
  pub same_rate : rate_of front.numberer ≡ common.rate
  pub same_n : front.n ≡ common.n
  pub same_conf_rev : front.conf_rev ≡ settings.conf_rev
  pub same_mask : front.quality_mask ≡ settings.quality_mask
  pub same_synch : front.synch_min ≡ settings.synch_min
  pub same_mimic : front.mimic ≡ settings.mimic
  pub last : last_of front ≡ taken_number common settings asdus
  pub before : front.before ≡ kept_now settings.mimic (taken_samples common settings asdus)
  pub items : front.ring.items ≡ window common.n settings.mimic (taken_samples common settings asdus)
