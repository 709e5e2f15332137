use Rattle.std.proofs.Common.{◌≡◌, ◌≤◌, take, length}
use Rattle.std.specs.Str.Parse.{AllDigits, digits_value}
use Rattle.comtrade_read.proofs.number.digits.Given as goal

abbrev pub invariant-loop-byte : goal.invariant-loop-byte
invariant-loop-byte l = record {
  all : AllDigits 10 (take l.byte-index l.bytes);
  value : l.value ≡ digits_value 10 (take l.byte-index l.bytes);
  short : length l.bytes ≤ 9;
}
