-- Fortescue's symmetrical components of three phasors, each times three: the zero, positive and negative sequence
-- (Phadke and Thorp, Computer Relaying for Power Systems). A turn by a third of a circle is rounded down to whole numbers.
use Rattle.relay_num.specs.declared.Cx.{Cx}
use Rattle.relay_num.specs.Numbers.{sum, turned, turned_back}
use Rattle.sequence_parts.specs.declared.Sequence.{Sequence}

-- A + B + C
abbrev pub zero_sequence : Cx → Cx → Cx → Cx
zero_sequence a b c = sum (sum a b) c

-- A + a B + a2 C: B follows A by a third of a circle, and C follows B
abbrev pub positive_sequence : Cx → Cx → Cx → Cx
positive_sequence a b c = sum (sum a (turned b)) (turned_back c)

-- A + a2 B + a C: C follows A, and B follows C
abbrev pub negative_sequence : Cx → Cx → Cx → Cx
negative_sequence a b c = sum (sum a (turned_back b)) (turned c)

abbrev pub sequence_of : Cx → Cx → Cx → Sequence
sequence_of a b c = record { zero = zero_sequence a b c; plus = positive_sequence a b c; minus = negative_sequence a b c }
