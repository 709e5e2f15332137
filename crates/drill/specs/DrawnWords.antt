-- The words of a drill: the outputs, one after the other, of the PCG32 generator of a number (O'Neill, "PCG: a family of
-- simple fast space-efficient statistically good algorithms for random number generation").
use Rattle.std.specs.Prelude.{ℕ, List}
use Rattle.rand_core.specs.Steps.{first_words}
use Rattle.rand_core.specs.Pcg32Seed.{pcg32_seed}
use Rattle.rand_pcg.specs.Lcg.{Lcg}
use Rattle.rand_pcg.specs.Pcg.{pcg32, pcg32_of_seed}

-- the generator of a number, before its first word
unfoldable pub generator_of : ℕ → Lcg
generator_of seed = pcg32_of_seed (pcg32_seed 16 seed)

-- the next n words
abbrev pub words_from : ℕ → Lcg → List ℕ
words_from n generator = first_words pcg32 n generator
