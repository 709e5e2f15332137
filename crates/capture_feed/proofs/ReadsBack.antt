-- A written capture is read back: its records are the frames that were written, and it is whole.
use Rattle.std.proofs.Common.{◌≡◌, ℕ, ◌+◌, ◌≤◌, ◌<◌, false, List, [], ◌∷◌, ◌++◌, length, length-append, map, refl, ap, ◌∙◌, arith}
use Rattle.std.specs.Prelude.{Some}
use Rattle.std.proofs.lemmas.List.{take_all}
use Rattle.byteorder.specs.Numbers.{little_number-reads_back}
use Rattle.capture_feed.specs.Records.{records_from, add, Whole}
use Rattle.capture_feed.specs.Pcap.{captured, first_record}
use Rattle.capture_feed.specs.Captures.{Pcap}
use Rattle.capture_feed.specs.Written.{header_bytes, record_head, record_bytes, Written, written_bytes, AreShort, WrittenReadsBack}
use Rattle.capture_feed.proofs.PcapHeader.{records-header}
use Rattle.capture_feed.proofs.PcapRecords.{at_end, one_record}

-- one written record is read back as its frame, whatever comes behind it
record_bytes-reads_back : (seconds nanos : ℕ) (frame more : List ℕ) (limit taken : ℕ) → taken < limit → length frame ≤ 262144 →
    records_from first_record limit false taken (record_bytes seconds nanos frame ++ more) ≡ add frame (records_from first_record limit false (taken + (16 + length frame)) more)
record_bytes-reads_back seconds nanos frame more limit taken below short =
    let long : length (record_bytes seconds nanos frame) ≡ 16 + length frame = length-append (record_head seconds nanos (length frame)) frame in
    let here : captured false (record_bytes seconds nanos frame) ≡ length frame = little_number-reads_back 4 (length frame) [] (omega arith) in
    one_record false limit taken below (length frame) (record_bytes seconds nanos frame) more long here short
    ∙ ap (λ xs. add xs (records_from first_record limit false (taken + (16 + length frame)) more)) (take_all (length frame) frame (omega arith))

written_bytes-reads_back : (limit taken : ℕ) (written : List Written) → AreShort written → taken + length (written_bytes written) < limit →
    records_from first_record limit false taken (written_bytes written) ≡ record { bodies = map (λ w. w.frame) written; stop = Whole }
written_bytes-reads_back limit taken [] short below = at_end false limit taken (omega arith) [] [] [] refl refl refl
written_bytes-reads_back limit taken (first ∷ more) short below =
    let len = length-append (record_bytes first.seconds first.nanos first.frame) (written_bytes more) in
    let long : length (record_bytes first.seconds first.nanos first.frame) ≡ 16 + length first.frame = length-append (record_head first.seconds first.nanos (length first.frame)) first.frame in
    record_bytes-reads_back first.seconds first.nanos first.frame (written_bytes more) limit taken (omega arith) short.0
    ∙ ap (add first.frame) (written_bytes-reads_back limit (taken + (16 + length first.frame)) more short.1 (omega arith))

-- the whole file
pub records-written : WrittenReadsBack
records-written limit written short below =
    records-header limit (Pcap false) header_bytes (written_bytes written) (omega arith) refl ∙ ap Some (written_bytes-reads_back limit 24 written short below)
