-- A frame of sampled values is one of the grammar.
use Rattle.std.proofs.Common.{◌≡◌, ℕ, suc, ◌+◌, ◌*◌, ◌<◌, ◌≤◌, ◌⊎◌, Bool, true, false, cond, leb, List, [], ◌∷◌, ◌++◌, length, take, drop, get_or, Some, None, refl, sym, ap, ◌∙◌, arith, inl, inr, lit<}
use Rattle.std.specs.Prelude.{◌==◌, nat_le}
use Rattle.std.proofs.lemmas.Bool.{le-leb, eqb-true, and_parts}
use Rattle.std.proofs.lemmas.Option.{same_Some}
use Rattle.std.proofs.lemmas.List.{take-append-drop, drop_at, length-take-le, length-drop, length-append, get_or-drop}
use Rattle.byteorder.specs.Endian.{big_number}
use Rattle.ber_fields.proofs.ElementLaws.{chosen}
use Rattle.sv_frame.specs.Frame.{begins, untagged, payload_of}
use Rattle.sv_frame.specs.Grammar.{IsKind}

abbrev pub IsBytes : List ℕ → Type 0
IsBytes bytes = (i : ℕ) → get_or bytes i 0 < 256

-- the two bytes of a kind stand in front
pub record Begins (high low : ℕ) (bytes : List ℕ) : Type 0 where
  pub rest : List ℕ
  pub parts : bytes ≡ high ∷ low ∷ rest

pub begins_read : (kind high low : ℕ) (bytes : List ℕ) → kind ≡ high * 256 + low → low < 256 → IsBytes bytes → begins kind bytes ≡ true → Begins high low bytes
begins_read kind high low [] e small are h = absurd cc
begins_read kind high low (b ∷ []) e small are h = absurd cc
begins_read kind high low (b ∷ c ∷ rest) e small are h =
    let p = and_parts (nat_le 2 (length (b ∷ c ∷ rest))) (big_number 2 (b ∷ c ∷ rest) == kind) h in
    let n : b * 256 + c ≡ kind = omega (arith, eqb-true (big_number 2 (b ∷ c ∷ rest)) kind p.1) in
    let one : b ≡ high = omega (arith, are 0, are 1) in
    let two : c ≡ low = omega (arith, are 0, are 1) in
    record { rest = rest; parts = rw (one, two) refl }

two : (n : ℕ) → leb 2 (suc (suc n)) ≡ true
two n = le-leb 2 (suc (suc n)) (omega arith)

pub kind_again : (frame payload : List ℕ) → IsKind frame payload → payload_of frame ≡ Some payload
kind_again frame payload h =
    let front : drop 12 frame ≡ h.tag ++ (0x88 ∷ 0xba ∷ payload) = ap (drop 12) h.whole ∙ drop_at h.addresses (h.tag ++ (0x88 ∷ 0xba ∷ payload)) 12 h.long in
    elim h.optional [
      | inl none ↦ rw (front, none, two (length payload), two (length payload)) refl
      | inr some ↦ rw (front, some.2, two (suc (suc (suc (suc (length payload))))), two (length payload)) refl
    ]

two_more : (rest r : List ℕ) (b : ℕ) → drop 2 rest ≡ b ∷ r → (x y : ℕ) × (rest ≡ x ∷ y ∷ b ∷ r)
two_more [] r b h = absurd cc
two_more (x ∷ []) r b h = absurd cc
two_more (x ∷ y ∷ more) r b h = (x, y, ap (λ (t : List ℕ). x ∷ y ∷ t) h)

-- maybe a tag of a virtual network, the EtherType, and the payload
record Behind (bytes payload : List ℕ) : Type 0 where
  tag : List ℕ
  optional : (tag ≡ []) ⊎ ((x y : ℕ) × (tag ≡ 0x81 ∷ 0 ∷ x ∷ y ∷ []))
  parts : bytes ≡ tag ++ (0x88 ∷ 0xba ∷ payload)

is_behind : (b : Bool) (bytes payload : List ℕ) → IsBytes bytes → begins 0x8100 bytes ≡ b → begins 0x88ba (cond b (drop 4 bytes) bytes) ≡ true → drop 2 (cond b (drop 4 bytes) bytes) ≡ payload → Behind bytes payload
is_behind false bytes payload are plain marked same =
    let k = begins_read 0x88ba 0x88 0xba bytes refl (lit< tt) are marked in
    let rest_is : k.rest ≡ payload = ap (drop 2) (sym k.parts) ∙ same in
    record { tag = []; optional = inl refl; parts = k.parts ∙ ap (λ (t : List ℕ). 0x88 ∷ 0xba ∷ t) rest_is }
is_behind true bytes payload are tagged marked same =
    let t = begins_read 0x8100 0x81 0 bytes refl (lit< tt) are tagged in
    let k = begins_read 0x88ba 0x88 0xba (drop 4 bytes) refl (lit< tt) (λ i. rw get_or-drop (are (4 + i))) marked in
    let rest_is : k.rest ≡ payload = ap (drop 2) (sym k.parts) ∙ same in
    let behind : drop 2 t.rest ≡ 0x88 ∷ 0xba ∷ payload = ap (drop 4) (sym t.parts) ∙ k.parts ∙ ap (λ (u : List ℕ). 0x88 ∷ 0xba ∷ u) rest_is in
    let two = two_more t.rest (0xba ∷ payload) 0x88 behind in
    record { tag = 0x81 ∷ 0 ∷ two.0 ∷ two.1 ∷ []; optional = inr (two.0, two.1, refl); parts = t.parts ∙ ap (λ (u : List ℕ). 0x81 ∷ 0 ∷ u) two.2 }

pub kind_read : (frame payload : List ℕ) → IsBytes frame → payload_of frame ≡ Some payload → IsKind frame payload
kind_read frame payload are h =
    elim (chosen (begins 0x88ba (untagged (drop 12 frame))) (Some (drop 2 (untagged (drop 12 frame)))) None (Some payload) h) [
      | inl p ↦
          let b = is_behind (begins 0x8100 (drop 12 frame)) (drop 12 frame) payload (λ i. rw get_or-drop (are (12 + i))) refl p.0 (same_Some _ payload p.1) in
          let long : 12 ≤ length frame = omega (arith, length-drop 12 frame, ap length b.parts, length-append b.tag (0x88 ∷ 0xba ∷ payload)) in
          record {
            addresses = take 12 frame;
            tag = b.tag;
            long = length-take-le 12 frame long;
            optional = b.optional;
            whole = sym (take-append-drop 12 frame) ∙ ap (λ (t : List ℕ). take 12 frame ++ t) b.parts;
          }
      | inr p ↦ absurd cc
    ]
