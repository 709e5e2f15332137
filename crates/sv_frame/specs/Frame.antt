-- What a frame of sampled values says (IEC 61850-9-2), layer by layer, over whole lists of bytes.
use Rattle.std.specs.Prelude.{ℕ, ◌+◌, ◌-◌, Bool, ◌==◌, ◌&&◌, ◌||◌, nat_lt, nat_le, if◌then◌else◌, List, length, take, drop, Option, Some, None, Result, Ok, Err}
use Rattle.byteorder.specs.Endian.{big_number}
use Rattle.sv_frame.specs.declared.Reason.{Reason}
use Rattle.sv_frame.specs.declared.Reason.TheVariants as reasons
use Rattle.sv_frame.specs.Tags as tags
use Rattle.sv_frame.specs.Pdu.{pdu_of, texts_of}
use Rattle.sv_frame.specs.Asdu.{PlainAsdu, asdus_of}

-- other traffic, a malformed frame, or its ASDUs
pub data Sv : Type 0 where
  other : Sv
  bad : Reason → Sv
  pdu : List PlainAsdu → Sv

infixl 10 ◌>>=◌
abbrev pub ◌>>=◌ : {A B : Type 0} → Result A Reason → (A → Result B Reason) → Result B Reason
(Ok x) >>= f = f x
(Err reason) >>= f = Err reason

-- the reason where there is no reading
abbrev pub or_bad : {A : Type 0} → Reason → Option A → Result A Reason
or_bad reason (Some x) = Ok x
or_bad reason None = Err reason

-- ---- what stands before the APDU

abbrev pub begins : ℕ → List ℕ → Bool
begins kind bytes = nat_le 2 (length bytes) && (big_number 2 bytes == kind)

-- without a tag of a virtual network
abbrev pub untagged : List ℕ → List ℕ
untagged bytes = if begins tags.virtual_network bytes then drop 4 bytes else bytes

-- the bytes behind the EtherType of sampled values
abbrev pub payload_of : List ℕ → Option (List ℕ)
payload_of frame =
    let typed = untagged (drop 12 frame) in
    if begins tags.sampled_values typed then Some (drop 2 typed) else None

-- The bytes behind the four words in front. The second counts them all, and `before` bytes stand before the first.
abbrev pub apdu_of : ℕ → ℕ → List ℕ → Result (List ℕ) Reason
apdu_of before captured payload =
    let counted = big_number 2 (drop 2 payload) in
    if nat_lt (length payload) 8 then Err reasons.Header
    else if nat_lt counted 8 || nat_lt captured (before + counted) then Err reasons.Length
    else if nat_lt 2048 captured then Err reasons.Long
    else Ok (take (counted - 8) (drop 8 payload))

-- ---- the whole

unfoldable pub asdus_in : ℕ → ℕ → List ℕ → Result (List PlainAsdu) Reason
asdus_in before captured payload = do
  apdu ← apdu_of before captured payload
  parts ← or_bad reasons.Pdu (pdu_of apdu)
  texts ← or_bad reasons.Count (texts_of parts)
  or_bad reasons.Asdu (asdus_of texts)

abbrev pub answer : Result (List PlainAsdu) Reason → Sv
answer (Ok samples) = pdu samples
answer (Err reason) = bad reason

abbrev pub sv_of : List ℕ → ℕ → Option (List ℕ) → Sv
sv_of frame captured None = other
sv_of frame captured (Some payload) = answer (asdus_in (length frame - length payload) captured payload)

unfoldable pub sv : List ℕ → ℕ → Sv
sv frame captured = sv_of frame captured (payload_of frame)
