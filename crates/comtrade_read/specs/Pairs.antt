-- When two texts are the pair of a record, and what they say.
use Rattle.std.specs.Prelude.{◌≡◌, ℕ, List, length}
use Rattle.comtrade_read.specs.declared.data.PairSample.{PairSample}
use Rattle.comtrade_read.specs.Configurations.{Configuration, IsConfiguration, configuration_text}
use Rattle.comtrade_read.specs.Rows.{AreSamples, BeginsAtZero, data_text}

-- A configuration and data that say these samples, at this rate. The name, the nominal frequency and the moments only bind the text.
pub record IsPair (config_bytes data_bytes : List ℕ) (rate : ℕ) (samples : List PairSample) : Type 0 where
  pub configuration : Configuration
  pub ranges : IsConfiguration configuration
  pub same_rate : configuration.rate ≡ rate
  pub same_count : configuration.count ≡ length samples
  pub times : AreSamples 0 samples
  pub begins : BeginsAtZero samples
  pub config : config_bytes ≡ configuration_text configuration
  pub rows : data_bytes ≡ data_text samples
