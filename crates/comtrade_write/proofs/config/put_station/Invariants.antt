use Rattle.std.proofs.Common.{◌≡◌, map, take}
use Rattle.comtrade_write.specs.ConfigTexts.{plain_byte}
use Rattle.comtrade_write.proofs.config.put_station.Given as goal

abbrev pub invariant-loop-byte : goal.invariant-loop-byte
invariant-loop-byte l = l.out.items ≡ map plain_byte (take l.byte-index l.name)
