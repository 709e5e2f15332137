-- How a reader finds the PDU of a GOOSE frame (IEC 61850-8-1, the APPID and Length in front of the PDU; ITU-T X.690).
use Rattle.std.specs.Prelude.{◌≡◌, List, [], length, drop, ℕ, Some}
use Rattle.byteorder.specs.Endian.{big_number}
use Rattle.ber_fields.specs.Element.{element, element_at}
use Rattle.goose_publish.specs.Tags as tags

-- Length, the two bytes behind the APPID, counts the bytes from the APPID to the end, and behind the two reserved
-- words stands one element up to the end, whose contents are these fields.
pub record EndsAtItsLength (fields frame : List ℕ) : Type 0 where
  pub counts : big_number 2 (drop 20 frame) ≡ length (drop 18 frame)
  pub pdu : element_at (drop 26 frame) ≡ Some (element tags.goose_pdu fields, [])
