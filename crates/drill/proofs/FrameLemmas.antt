-- How long the parts of a frame are, and that its pieces, written one behind the other, are the frame.
use Rattle.std.proofs.Common.{◌≡◌, ℕ, ◌+◌, List, [], ◌∷◌, ◌++◌, length, refl, sym, ap, ◌∙◌, append_assoc, arith}
use Rattle.std.proofs.lemmas.List.{length-append}
use Rattle.byteorder.specs.Endian.{big_bytes}
use Rattle.ber_fields.specs.Written.{field, head_text}
use Rattle.drill.specs.declared.slot.Slot.{Slot}
use Rattle.drill.specs.declared.slot.Kind.{Kind}
use Rattle.drill.specs.declared.slot.Line.{Line}
use Rattle.drill.specs.declared.slot.Line.TheVariants.{First, Second}
use Rattle.drill.specs.Slots.{sv_id_of}
use Rattle.drill.specs.DrillSignal.{channel_bytes, sample_bytes}
use Rattle.drill.specs.DrillFrame.{set_fields, sets_bytes, pdu_bytes, frame_bytes, destination, source}

pub length-sample_bytes : (kind : Kind) (counter : ℕ) → length (sample_bytes kind counter) ≡ 64
unfolding sample_bytes channel_bytes
length-sample_bytes kind counter = refl

-- an svID has four bytes
length-sv_id_of : (line : Line) → length (sv_id_of line) ≡ 4
unfolding sv_id_of
length-sv_id_of First = refl
length-sv_id_of Second = refl

-- the fields of a sample set, whose svID and samples are these
abbrev fields : List ℕ → ℕ → List ℕ → List ℕ
fields sv_id counter samples =
    field 0x80 sv_id ++ field 0x82 (big_bytes 2 counter) ++ field 0x83 (big_bytes 4 1) ++ field 0x85 (2 ∷ []) ++ field 0x87 samples

-- an element whose contents have this length
field_of : (tag n : ℕ) (contents : List ℕ) → length contents ≡ n → field tag contents ≡ head_text tag n ++ contents
field_of tag n contents long = rw long refl

length-five : (a b c d e : List ℕ) → length (a ++ b ++ c ++ d ++ e) ≡ length a + length b + length c + length d + length e
length-five a b c d e = simp length-append

length-fields : (sv_id samples : List ℕ) (counter : ℕ) → length sv_id ≡ 4 → length samples ≡ 64 → length (fields sv_id counter samples) ≡ 85
length-fields sv_id samples counter four long =
    let name : length (field 0x80 sv_id) ≡ 6 = ap length (field_of 0x80 4 sv_id four) ∙ omega (arith, four) in
    let values : length (field 0x87 samples) ≡ 66 = ap length (field_of 0x87 64 samples long) ∙ omega (arith, long) in
    length-five (field 0x80 sv_id) (field 0x82 (big_bytes 2 counter)) (field 0x83 (big_bytes 4 1)) (field 0x85 (2 ∷ [])) (field 0x87 samples)
    ∙ omega (arith, name, values)

length-set_fields : (slot : Slot) (counter : ℕ) → length (set_fields slot counter) ≡ 85
unfolding set_fields
length-set_fields slot counter =
    length-fields (sv_id_of slot.line) (sample_bytes slot.kind counter) counter (length-sv_id_of slot.line) (length-sample_bytes slot.kind counter)

set_pieces : (out a b c d e f g : List ℕ) → out ++ a ++ b ++ c ++ d ++ e ++ f ++ g ≡ out ++ (a ++ (b ++ c ++ d ++ e ++ (f ++ g)))
set_pieces out a b c d e f g = simp append_assoc

fields_written : (sv_id samples : List ℕ) (counter : ℕ) (out : List ℕ) → length samples ≡ 64 →
    out ++ head_text 0x30 85 ++ field 0x80 sv_id ++ field 0x82 (big_bytes 2 counter) ++ field 0x83 (big_bytes 4 1)
    ++ field 0x85 (2 ∷ []) ++ head_text 0x87 64 ++ samples
    ≡ out ++ (head_text 0x30 85 ++ fields sv_id counter samples)
fields_written sv_id samples counter out long =
    set_pieces out (head_text 0x30 85) (field 0x80 sv_id) (field 0x82 (big_bytes 2 counter)) (field 0x83 (big_bytes 4 1)) (field 0x85 (2 ∷ [])) (head_text 0x87 64) samples
    ∙ ap (λ t. out ++ (head_text 0x30 85 ++ (field 0x80 sv_id ++ field 0x82 (big_bytes 2 counter) ++ field 0x83 (big_bytes 4 1) ++ field 0x85 (2 ∷ []) ++ t)))
    (sym (field_of 0x87 64 samples long))

pub set_written : (slot : Slot) (counter : ℕ) (out : List ℕ) →
    out ++ head_text 0x30 85 ++ field 0x80 (sv_id_of slot.line) ++ field 0x82 (big_bytes 2 counter) ++ field 0x83 (big_bytes 4 1)
    ++ field 0x85 (2 ∷ []) ++ head_text 0x87 64 ++ sample_bytes slot.kind counter
    ≡ out ++ field 0x30 (set_fields slot counter)
unfolding set_fields
set_written slot counter out =
    fields_written (sv_id_of slot.line) (sample_bytes slot.kind counter) counter out (length-sample_bytes slot.kind counter)
    ∙ ap (λ t. out ++ t) (sym (field_of 0x30 85 (set_fields slot counter) (length-set_fields slot counter)))

two_sets : (x y : List ℕ) → length x ≡ 85 → length y ≡ 85 → length (field 0x30 x ++ field 0x30 y) ≡ 174
two_sets x y h k =
    let first : length (field 0x30 x) ≡ 87 = ap length (field_of 0x30 85 x h) ∙ omega (arith, h) in
    let second : length (field 0x30 y) ≡ 87 = ap length (field_of 0x30 85 y k) ∙ omega (arith, k) in
    length-append (field 0x30 x) (field 0x30 y) ∙ omega (arith, first, second)

length-sets_bytes : (slot : Slot) → length (sets_bytes slot) ≡ 174
unfolding sets_bytes
length-sets_bytes slot =
    two_sets (set_fields slot slot.counter) (set_fields slot (slot.counter + 1)) (length-set_fields slot slot.counter) (length-set_fields slot (slot.counter + 1))

-- the number of the sample sets, and the sequence of them
length-contents : (sets : List ℕ) → length sets ≡ 174 → length (field 0x80 (2 ∷ []) ++ field 0xA2 sets) ≡ 180
length-contents sets long =
    let sequence : length (field 0xA2 sets) ≡ 177 = ap length (field_of 0xA2 174 sets long) ∙ omega (arith, long) in
    length-append (field 0x80 (2 ∷ [])) (field 0xA2 sets) ∙ omega (arith, sequence)

opened : (sets : List ℕ) → length sets ≡ 174 →
    field 0x60 (field 0x80 (2 ∷ []) ++ field 0xA2 sets) ≡ head_text 0x60 180 ++ (field 0x80 (2 ∷ []) ++ (head_text 0xA2 174 ++ sets))
opened sets long =
    field_of 0x60 180 (field 0x80 (2 ∷ []) ++ field 0xA2 sets) (length-contents sets long)
    ∙ ap (λ t. head_text 0x60 180 ++ (field 0x80 (2 ∷ []) ++ t)) (field_of 0xA2 174 sets long)

pdu_opened : (slot : Slot) → pdu_bytes slot ≡ head_text 0x60 180 ++ (field 0x80 (2 ∷ []) ++ (head_text 0xA2 174 ++ sets_bytes slot))
unfolding pdu_bytes
pdu_opened slot = opened (sets_bytes slot) (length-sets_bytes slot)

length-pdu_bytes : (slot : Slot) → length (pdu_bytes slot) ≡ 183
length-pdu_bytes slot = ap length (pdu_opened slot) ∙ omega (arith, length-sets_bytes slot)

-- what stands before the PDU, where Length is n
abbrev pub front : ℕ → List ℕ
front n = destination ++ source ++ big_bytes 2 0x88BA ++ big_bytes 2 0x4000 ++ big_bytes 2 n ++ big_bytes 2 0 ++ big_bytes 2 0

frame_opened : (slot : Slot) → frame_bytes slot ≡ front 191 ++ (head_text 0x60 180 ++ (field 0x80 (2 ∷ []) ++ (head_text 0xA2 174 ++ sets_bytes slot)))
unfolding frame_bytes
frame_opened slot =
    ap (λ l. front (l + 8) ++ pdu_bytes slot) (length-pdu_bytes slot) ∙ ap (λ t. front 191 ++ t) (pdu_opened slot)

frame_pieces : (out a b c d e f : List ℕ) → out ++ a ++ b ++ c ++ d ++ e ++ f ≡ out ++ (a ++ (b ++ (c ++ (d ++ (e ++ f)))))
frame_pieces out a b c d e f = simp append_assoc

pub frame_written : (slot : Slot) (out : List ℕ) →
    out ++ front 191 ++ head_text 0x60 180 ++ field 0x80 (2 ∷ []) ++ head_text 0xA2 174
    ++ field 0x30 (set_fields slot slot.counter) ++ field 0x30 (set_fields slot (slot.counter + 1))
    ≡ out ++ frame_bytes slot
unfolding sets_bytes
frame_written slot out =
    frame_pieces out (front 191) (head_text 0x60 180) (field 0x80 (2 ∷ [])) (head_text 0xA2 174) (field 0x30 (set_fields slot slot.counter)) (field 0x30 (set_fields slot (slot.counter + 1)))
    ∙ ap (λ t. out ++ t) (sym (frame_opened slot))

pub length-frame_bytes : (slot : Slot) → length (frame_bytes slot) ≡ 205
length-frame_bytes slot = ap length (frame_opened slot) ∙ omega (arith, length-sets_bytes slot)
