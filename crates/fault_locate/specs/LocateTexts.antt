-- The text of a located fault in the log: name, time and number of the sample, `locate`, the loop and the two distances in
-- thousandths of the line, a minus before one below 0, and `none` for one that isn't there.
use Rattle.std.specs.Prelude.{ℕ, suc, ◌<◌, ◌^◌, List, ◌++◌, codes, decimal, Option, Some, None, ℤ, pos, negsuc}
use Rattle.std.specs.Option.{ForSome}
use Rattle.event_record.specs.Line.{place_text, loop_text}
use Rattle.fault_locate.specs.declared.located.Located.{Located}
use Rattle.fault_locate.specs.Quotients.{IsLimited}

abbrev pub whole_text : ℤ → List ℕ
whole_text (pos n) = decimal n
whole_text (negsuc n) = codes "-" ++ decimal (suc n)

abbrev pub distance_text : Option ℤ → List ℕ
distance_text None = codes "none"
distance_text (Some z) = whole_text z

-- the line of what is told of the line with this name
unfoldable pub located_text : List ℕ → Located → List ℕ
located_text name l =
    place_text name l.at ++ codes "locate " ++ loop_text l.lp ++ codes " " ++ distance_text l.distance
    ++ codes " takagi " ++ distance_text l.takagi ++ codes "\n"

-- what has a text: nanoseconds below a second, one of six loops, and distances within a million
pub record IsPrintableLocated (l : Located) : Type 0 where
  pub nanos : l.at.nanos < 10 ^ 9
  pub loop : l.lp < 6
  pub distance : ForSome l.distance IsLimited
  pub takagi : ForSome l.takagi IsLimited
