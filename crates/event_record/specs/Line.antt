-- The text of a log line: words parted by one space, and a newline. Numbers are decimal, without needless zeros.
use Rattle.std.specs.Prelude.{ℕ, zero, suc, List, ◌++◌, codes, decimal, Option, Some, None}
use Rattle.sv_frame.specs.declared.Reason.{Reason}
use Rattle.sv_frame.specs.declared.Reason.TheVariants as reasons
use Rattle.event_record.specs.declared.time.At.{At}
use Rattle.event_record.specs.declared.event.What.{What}
use Rattle.event_record.specs.declared.event.What.TheVariants.{First, Jump, Ready, Lost, SwingOn, SwingOff, FuseOn, FuseOff, Entered, Left, Operate, Trip, Reset, ConfRev, Length, Wild, Repeat, Late}
use Rattle.event_record.specs.declared.event.Event.{Event}
use Rattle.event_record.specs.declared.event.Event.TheVariants.{Malformed, Line}
use Rattle.event_record.specs.Time.{time_text}

-- name, time and number, each with a space behind it
unfoldable pub place_text : List ℕ → At → List ℕ
place_text name at = name ++ codes " " ++ time_text at.seconds at.nanos ++ codes " " ++ decimal at.number ++ codes " "

-- what stands before the words: without a sample two dashes
abbrev pub at_text : List ℕ → Option At → List ℕ
at_text name (Some at) = place_text name at
at_text name None = name ++ codes " - - "

-- the loops, in their order
abbrev pub loop_text : ℕ → List ℕ
loop_text zero = codes "AG"
loop_text (suc zero) = codes "BG"
loop_text (suc (suc zero)) = codes "CG"
loop_text (suc (suc (suc zero))) = codes "AB"
loop_text (suc (suc (suc (suc zero)))) = codes "BC"
loop_text (suc (suc (suc (suc (suc n))))) = codes "CA"

abbrev pub zone_text : ℕ → ℕ → List ℕ → List ℕ
zone_text zone lp did = codes "zone " ++ decimal zone ++ codes " " ++ loop_text lp ++ did

abbrev pub words_text : What → List ℕ
words_text First = codes "first"
words_text (Jump missing) = codes "jump " ++ decimal missing
words_text Ready = codes "ready"
words_text Lost = codes "lost"
words_text SwingOn = codes "swing on"
words_text SwingOff = codes "swing off"
words_text FuseOn = codes "fuse on"
words_text FuseOff = codes "fuse off"
words_text (Entered zone lp) = zone_text zone lp (codes " in")
words_text (Left zone lp) = zone_text zone lp (codes " out")
words_text (Operate zone lp) = zone_text zone lp (codes " operate")
words_text Trip = codes "trip"
words_text Reset = codes "reset"
words_text (ConfRev got) = codes "confrev " ++ decimal got
words_text (Length got) = codes "length " ++ decimal got
words_text (Wild counter) = codes "wild " ++ decimal counter
words_text (Repeat counter) = codes "repeat " ++ decimal counter
words_text (Late counter behind) = codes "late " ++ decimal counter ++ codes " by " ++ decimal behind

-- the layer of a frame that failed
abbrev pub reason_text : Reason → List ℕ
reason_text reasons.Header = codes "header"
reason_text reasons.Length = codes "length"
reason_text reasons.Long = codes "long"
reason_text reasons.Pdu = codes "pdu"
reason_text reasons.Count = codes "count"
reason_text reasons.Asdu = codes "asdu"

-- the line of an event of the line with this name
unfoldable pub line_text : List ℕ → Event → List ℕ
line_text name (Malformed frame reason) = codes "frame " ++ decimal frame ++ codes " malformed " ++ reason_text reason ++ codes "\n"
line_text name (Line at what) = at_text name at ++ words_text what ++ codes "\n"
