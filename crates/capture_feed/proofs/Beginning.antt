-- A feed whose capture's header was read.
use Rattle.std.proofs.Common.{◌≡◌, ℕ, ◌≤◌, Bool, List, ◌++◌, length, drop, sym, ap, ◌∙◌}
use Rattle.std.specs.Prelude.{Some}
use Rattle.std.proofs.lemmas.List.{drop-append-le}
use Rattle.capture_feed.specs.Records.{records_from}
use Rattle.capture_feed.specs.Pcap.{first_record}
use Rattle.capture_feed.specs.Captures.{Pcap, Pcapng, header_format}
use Rattle.capture_feed.specs.Block.{pending}
use Rattle.capture_feed.specs.Left.{found, Begins}
use Rattle.capture_feed.specs.Pieces.{left_by, IsUnsectioned}
use Rattle.capture_feed.specs.Pcapng.{no_section, first_block}
use Rattle.capture_feed.specs.declared.cursor.Cursor.{Cursor}
use Rattle.capture_feed.specs.declared.cursor.Cursor.TheVariants as cursors
use Rattle.capture_feed.specs.declared.block.Block.{Block}
use Rattle.capture_feed.specs.declared.feed.Feed.{Feed}
use Rattle.capture_feed.proofs.PcapHeader.{records-header}

pub begins_pcap : (feed : Feed) (old read new : List ℕ) (is_big : Bool) → old ≡ read ++ new → 24 ≤ length read → header_format read ≡ Some (Pcap is_big) →
    feed.cursor ≡ cursors.Pcap is_big → feed.taken ≡ 24 → pending feed.block ≡ drop 24 read → Begins feed old new
unfolding found
begins_pcap feed old read new is_big e long known order taken held = record {
  prefix = read;
  long = long;
  is = e;
  all = λ more.
      records-header feed.limit (Pcap is_big) read more long known
      ∙ (ap (λ xs. Some (records_from first_record feed.limit is_big 24 xs)) (drop-append-le 24 read more long ∙ ap (λ xs. xs ++ more) (sym held))
      ∙ (ap (λ (by : Cursor). Some (left_by by feed.block feed.limit 24 more)) (sym order)
      ∙ ap (λ n. Some (left_by feed.cursor feed.block feed.limit n more)) (sym taken)));
}

unsectioned : (by : Cursor) (block : Block) (limit taken : ℕ) (left : List ℕ) → IsUnsectioned by → left_by by block limit taken left ≡ records_from first_block limit no_section taken (pending block ++ left)
unsectioned (cursors.Pcap is_big) block limit taken left h = absurd h
unsectioned (cursors.Pcapng section) block limit taken left h = ap (λ s. records_from first_block limit s taken (pending block ++ left)) h

pub begins_pcapng : (feed : Feed) (old read new : List ℕ) → old ≡ read ++ new → 24 ≤ length read → header_format read ≡ Some Pcapng →
    IsUnsectioned feed.cursor → feed.taken ≡ 0 → pending feed.block ≡ read → Begins feed old new
unfolding found
begins_pcapng feed old read new e long known none taken held = record {
  prefix = read;
  long = long;
  is = e;
  all = λ more.
      records-header feed.limit Pcapng read more long known
      ∙ (ap (λ xs. Some (records_from first_block feed.limit no_section 0 (xs ++ more))) (sym held)
      ∙ (ap (λ n. Some (records_from first_block feed.limit no_section n (pending feed.block ++ more))) (sym taken)
      ∙ ap Some (sym (unsectioned feed.cursor feed.block feed.limit feed.taken more none))));
}
