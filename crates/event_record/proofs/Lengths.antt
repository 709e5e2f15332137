-- How long the parts of a line are.
use Rattle.std.proofs.Common.{◌≡◌, ℕ, ◌+◌, ◌<◌, ◌≤◌, ◌^◌, List, length, arith, length-append}
use Rattle.std.proofs.lemmas.Fmt.{length-decimal-le}
use Rattle.std.specs.Fmt.{decimal}
use Rattle.event_record.specs.declared.time.At.{At}
use Rattle.event_record.specs.Time.{time_text}
use Rattle.event_record.specs.Line.{place_text}

pub length-time_text : (seconds nanos : ℕ) → length (time_text seconds nanos) ≡ 30
unfolding time_text
length-time_text seconds nanos = simp length-append (omega arith)

pub length-place_text : (name : List ℕ) (at : At) → length (place_text name at) ≡ length name + length (decimal at.number) + 33
unfolding place_text
length-place_text name at = simp (length-append, length-time_text) (omega arith)

pub length-decimal : (n : ℕ) → n < 2 ^ 64 → length (decimal n) ≤ 20
length-decimal n small = length-decimal-le 20 n (omega arith) (omega arith) small
