-- The packets of a pcapng file, block after block.
use Rattle.std.proofs.Common.{◌≡◌, ℕ, ◌+◌, ◌-◌, ◌≤◌, ◌<◌, inl, inr, Bool, true, List, [], ◌++◌, length, take, drop, min, length-append, length-drop, length-take, append_assoc, refl, sym, subst, ap, ◌∙◌, arith, ◌&&◌, vec_len}
use Rattle.std.specs.Prelude.{Option, None, Some, IfSome}
use Rattle.capture_feed.specs.Numbers.{number_at}
use Rattle.capture_feed.specs.Records.{Stop, Damaged, Cut, Records, Ends, Holds, put, stopped, records_from}
use Rattle.capture_feed.specs.Pcapng.{PlainSection, has_head, is_known, section_at, total_at, is_good, content, packet_of, behind, whole_block, first_block}
use Rattle.capture_feed.specs.Sections.{IsWithin}
use Rattle.capture_feed.specs.Reads.{Took, Passes}
use Rattle.capture_feed.specs.Pieces.{GivesPiece, Lends, IsSound, place_at}
use Rattle.capture_feed.specs.declared.block.Block.{Block}
use Rattle.capture_feed.specs.declared.piece.Place.{Place}
use Rattle.capture_feed.specs.declared.content.Content.{Content}
use Rattle.capture_feed.specs.declared.content.Content.TheVariants.{Description, Packet, Passed}
use Rattle.capture_feed.proofs.Taking.{records-ends, records-holds, no-bodies}
use Rattle.capture_feed.proofs.Handing.{goes_by}
use Rattle.capture_feed.proofs.Asking.{number_at-prefix, either_way, lent, within-text, before_end, behind_text}
use Rattle.capture_feed.proofs.PcapngBlocks.{stands, fits_block, same_long, same_start, begun, good-range, both, ends_cut_body, whole_is_there, ends_damaged_last, ends_damaged_rule, holds_block, content-prefix}

-- the first bytes of a block show this
pub record Begun (section now : PlainSection) (total : ℕ) (whole : List ℕ) : Type 0 where
  pub head : has_head whole ≡ true
  pub at : section_at section whole ≡ now
  pub good : (is_known whole && is_good total) ≡ true
  pub size : total_at now whole ≡ total

pub begun_by : (section now : PlainSection) (total : ℕ) (whole read left : List ℕ) → whole ≡ read ++ left → (length read < 12 → left ≡ []) → has_head read ≡ true → now ≡ section_at section read →
    (is_known read && is_good total) ≡ true → total ≡ total_at now read → Begun section now total whole
begun_by section now total whole read left e ends head now_is good total_is =
    let same = same_start section whole read left e ends in
    record {
      head = same.head ∙ head;
      at = same.now ∙ sym now_is;
      good = ap (λ b. b && is_good total) same.known ∙ good;
      size = same.total now head ∙ sym total_is;
    }

-- and whatever comes behind them
pub begun_on : {section now : PlainSection} {total : ℕ} {whole : List ℕ} (read left more : List ℕ) → Begun section now total whole → whole ≡ read ++ left → 12 ≤ length read → Begun section now total (read ++ more)
begun_on {section} {now} {total} {whole} read left more b e long =
    let there = same_long section whole read left e long in
    let here = same_long section (read ++ more) read more refl long in
    let head : has_head read ≡ true = sym there.head ∙ b.head in
    record {
      head = here.head ∙ head;
      at = here.now ∙ (sym there.now ∙ b.at);
      good = ap (λ k. k && is_good total) (here.known ∙ sym there.known) ∙ b.good;
      size = here.total now head ∙ (sym (there.total now head) ∙ b.size);
    }

pub first_of : {section now : PlainSection} {total : ℕ} {whole : List ℕ} → Begun section now total whole → total ≤ length whole → first_block section whole ≡ whole_block now total whole
first_of {section} {now} {total} {whole} b long = begun section now whole b.head b.at ∙ whole_is_there now whole total b.size b.good long

pub cut_of : {section now : PlainSection} {total : ℕ} {whole : List ℕ} → Begun section now total whole → length whole < total → first_block section whole ≡ Ends Cut
cut_of {section} {now} {total} {whole} b short = begun section now whole b.head b.at ∙ ends_cut_body now whole total b.size b.good short

pub range_of : {section now : PlainSection} {total : ℕ} {whole : List ℕ} → Begun section now total whole → (12 ≤ total) × (total ≤ 16777216)
range_of {section} {now} {total} {whole} b = good-range total (both (is_known whole) (is_good total) b.good).1

-- the whole text of a block, whose last four bytes are these
pub record IsText (total : ℕ) (last whole text rest : List ℕ) : Type 0 where
  pub is : whole ≡ text ++ rest
  pub long : length text ≡ total
  pub ending : drop (total - 4) text ≡ last

pub text_of : (total : ℕ) (last whole old mid rest : List ℕ) → 12 ≤ total → whole ≡ old → (p : Passes (total - 4) old mid) → mid ≡ last ++ rest → length last ≡ 4 → IsText total last whole (p.prefix ++ last) rest
text_of total last whole old mid rest low e p four len = record {
  is = e ∙ (p.is ∙ (ap (λ xs. p.prefix ++ xs) four ∙ sym (append_assoc p.prefix last rest)));
  long = let a = length-append p.prefix last in let b = p.long in omega arith;
  ending = behind_text (total - 4) p.prefix last p.long;
}

-- the last four bytes, whatever comes behind them
last-number : (is_big : Bool) (total : ℕ) (last text more : List ℕ) → 12 ≤ total → length text ≡ total → drop (total - 4) text ≡ last → number_at is_big (total - 4) 4 (text ++ more) ≡ number_at is_big 0 4 last
last-number is_big total last text more low long ending =
    number_at-prefix is_big (total - 4) 4 text more (omega arith) ∙ ap (λ xs. number_at is_big 0 4 xs) ending

module _ (section : PlainSection) (limit taken : ℕ) (below : taken < limit) where
  pub ends_as : (whole : List ℕ) (stop : Stop) → first_block section whole ≡ Ends stop → records_from first_block limit section taken whole ≡ stopped stop
  ends_as whole stop is = records-ends first_block fits_block limit section taken whole stop below is

  pub no_block : (read : List ℕ) → length read < 12 → (records_from first_block limit section taken read).bodies ≡ []
  no_block read short = no-bodies first_block fits_block limit section taken read below (λ size body next is.
      let s = stands section read size body next is in let a = s.long in let b = s.within in omega arith)

  pub no_whole_block : {now : PlainSection} {total : ℕ} {whole : List ℕ} (read left : List ℕ) → Begun section now total whole → whole ≡ read ++ left → length read < total → (records_from first_block limit section taken read).bodies ≡ []
  no_whole_block {now} {total} {whole} read left b e short = elim (either_way 12 (length read)) [
    | inr few ↦ no_block read few
    | inl long ↦ no-bodies first_block fits_block limit section taken read below (λ size body next is.
        let s = stands section read size body next is in
        let there = same_long section whole read left e long in
        let now_is : section_at section read ≡ now = sym there.now ∙ b.at in
        let total_is : total_at (section_at section read) read ≡ total = ap (λ n. total_at n read) now_is ∙ (sym (there.total now (sym there.head ∙ b.head)) ∙ b.size) in
        let size_is = s.same in
        let within = s.within in
        omega arith)
  ]

  -- its last four bytes aren't its total length
  pub damaged_last : {now : PlainSection} {total : ℕ} {whole last text rest : List ℕ} → Begun section now total whole → IsText total last whole text rest → (number_at now.is_big 0 4 last ≡ total → ⊥) →
      records_from first_block limit section taken whole ≡ stopped (Damaged total)
  damaged_last {now} {total} {whole} {last} {text} {rest} b t differs =
      let r = range_of b in
      let low : 12 ≤ total = r.0 in
      let len = ap length t.is ∙ length-append text rest in
      let long = t.long in
      ends_as whole (Damaged total) (first_of b (omega arith) ∙ ends_damaged_last now whole total (number_at now.is_big 0 4 last)
      (ap (number_at now.is_big (total - 4) 4) t.is ∙ last-number now.is_big total last text rest low t.long t.ending) differs)

  -- its type's rule doesn't hold
  pub damaged_rule : {now : PlainSection} {total : ℕ} {whole last text rest : List ℕ} (read left : List ℕ) → Begun section now total whole → IsText total last whole text rest →
      whole ≡ read ++ left → 12 ≤ length read → min total 28 ≤ length read → content now total read ≡ None → records_from first_block limit section taken whole ≡ stopped (Damaged total)
  damaged_rule {now} {total} {whole} {last} {text} {rest} read left b t e long held none =
      let len = ap length t.is ∙ length-append text rest in
      let size = t.long in
      ends_as whole (Damaged total) (first_of b (omega arith) ∙ ends_damaged_rule now whole total (ap (content now total) e ∙ (content-prefix now total read left long held ∙ none)))

  packet-prefix : (total : ℕ) (c : Content) (text more : List ℕ) → length text ≡ total → IsWithin total 0 c → packet_of c (text ++ more) ≡ packet_of c text
  packet-prefix total (Packet from captured) text more long within = let w = within.2 in ap Some (within-text captured from text more (omega arith))
  packet-prefix total (Description interface) text more long within = refl
  packet-prefix total Passed text more long within = refl

  lends_packet : (total at end : ℕ) (c : Content) (items left whole text rest block : List ℕ) → IsWithin total 0 c → whole ≡ text ++ rest → length text ≡ total → whole ≡ drop at items ++ left → min total 4096 ≤ length (drop at items) → items ≡ take end block → Lends block (packet_of c text) (place_at c at)
  lends_packet total at end (Packet from captured) items left whole text rest block within t long e held block_is =
      let a : 12 ≤ from = within.0 in
      let b : from ≤ 28 = within.1 in
      let w : from + 4 + captured ≤ total = within.2 in
      let len = length-drop from text in
      let lent_is : take (min captured 2048) (drop (at + from) items) ≡ take 2048 (take captured (drop from whole)) = lent 2048 from at captured items left whole e (omega arith) in (
        enough captured (drop from text) (omega arith),
        before_end (min captured 2048) (at + from) end block items block_is (let all = length-drop at items in omega arith) ∙ (lent_is ∙ (ap (λ xs. take 2048 (take captured (drop from xs))) t ∙ ap (take 2048) (within-text captured from text rest (omega arith)))),
      )
    where
      enough : (n : ℕ) (xs : List ℕ) → n ≤ length xs → length (take n xs) ≡ n
      enough n xs h = let l = length-take n xs in omega arith
  lends_packet total at end (Description interface) items left whole text rest block within t long e held block_is = tt
  lends_packet total at end Passed items left whole text rest block within t long e held block_is = tt

  -- a sound block was taken off
  pub gives_block : {now : PlainSection} {total : ℕ} {last text : List ℕ} (held kept : List ℕ) (c : Content) (at end : ℕ) (items left block : List ℕ) {old new : List ℕ} → Took old new → Begun section now total (held ++ old) → IsText total last (held ++ old) text (kept ++ new) →
      held ++ old ≡ drop at items ++ left → min total 4096 ≤ length (drop at items) → content now total (drop at items) ≡ Some c → IsWithin total 0 c → number_at now.is_big 0 4 last ≡ total → items ≡ take end block →
      GivesPiece (λ l. records_from first_block limit section taken (held ++ l)) (λ l. records_from first_block limit (behind now c) (taken + total) (kept ++ l)) block (place_at c at) old new
  gives_block {now} {total} {last} {text} held kept c at end items left block {old} {new} took b t e long said within ending block_is =
      let r = range_of b in
      let low : 12 ≤ total = r.0 in
      let size = t.long in
      let enough : 12 ≤ length text = omega arith in
      let there : content now total (held ++ old) ≡ Some c = ap (content now total) e ∙ (content-prefix now total (drop at items) left (omega arith) (omega arith) ∙ said) in
      let in_text : content now total text ≡ Some c = sym (ap (content now total) t.is ∙ content-prefix now total text (kept ++ new) enough (omega arith)) ∙ there in
      record {
        body = packet_of c text;
        goes = goes_by (records_from first_block limit section taken) (records_from first_block limit (behind now c) (taken + total)) (packet_of c text) held text kept took t.is
            (λ more.
            let on = begun_on text (kept ++ new) more b t.is enough in
            let len = length-append text more in
            let first : first_block section (text ++ more) ≡ Holds total (packet_of c (text ++ more)) (behind now c) =
            first_of on (omega arith) ∙ holds_block now (text ++ more) total c (last-number now.is_big total last text more low t.long t.ending ∙ ending) (content-prefix now total text more enough (omega arith) ∙ in_text) in
            records-holds first_block fits_block limit section (behind now c) taken total (text ++ more) (packet_of c (text ++ more)) below first
            ∙ (ap (λ p. put p (records_from first_block limit (behind now c) (taken + total) (drop total (text ++ more)))) (packet-prefix total c text more t.long within)
            ∙ ap (λ xs. put (packet_of c text) (records_from first_block limit (behind now c) (taken + total) xs)) (behind_text total text more t.long)));
        lends = lends_packet total at end c items left (held ++ old) text (kept ++ new) block within t.is t.long e long block_is;
      }

-- the same in other words
pub gives_as : {before : List ℕ → Records} {block old new : List ℕ} (kept : List ℕ) (limit taken : ℕ) (now s : PlainSection) (c : Content) (total size at : ℕ) (packet : Option Place) → s ≡ behind now c → size ≡ total → packet ≡ place_at c at →
    GivesPiece before (λ l. records_from first_block limit (behind now c) (taken + total) (kept ++ l)) block (place_at c at) old new →
    GivesPiece before (λ l. records_from first_block limit s (taken + size) (kept ++ l)) block packet old new
gives_as {before} {block} {old} {new} kept limit taken now s c total size at packet s_is size_is packet_is g =
    subst (λ (x : PlainSection). GivesPiece before (λ l. records_from first_block limit x (taken + size) (kept ++ l)) block packet old new) (sym s_is)
    (subst (λ (n : ℕ). GivesPiece before (λ l. records_from first_block limit (behind now c) (taken + n) (kept ++ l)) block packet old new) (sym size_is)
    (subst (λ (p : Option Place). GivesPiece before (λ l. records_from first_block limit (behind now c) (taken + total) (kept ++ l)) block p old new) (sym packet_is) g))

pub within-none : (total n : ℕ) (c : Content) → IsWithin total n c → IsWithin total 0 c
within-none total n (Packet from captured) h = h
within-none total n (Description interface) h = omega arith
within-none total n Passed h = tt

pub sound_block : (block : Block) (total size at n : ℕ) (c : Content) (packet : Option Place) → size ≡ total → 12 ≤ total → total ≤ 16777216 → IsWithin total n c → packet ≡ place_at c at → at + min total 4096 ≤ vec_len block.bytes → IsSound block (record { size = size; packet = packet })
sound_block block total size at n c packet size_is low high within packet_is held = record {
  some = omega arith;
  most = omega arith;
  packet = subst (λ (p : Option Place). IfSome p (λ place. (place.at + min place.captured 2048 ≤ vec_len block.bytes) × (16 + place.captured ≤ size))) (sym packet_is) (by_content c within);
}
  where
    by_content : (c : Content) → IsWithin total n c → IfSome (place_at c at) (λ place. (place.at + min place.captured 2048 ≤ vec_len block.bytes) × (16 + place.captured ≤ size))
    by_content (Packet from captured) w = let a : 12 ≤ from = w.0 in let b : from ≤ 28 = w.1 in let d : from + 4 + captured ≤ total = w.2 in (omega arith, omega arith)
    by_content (Description interface) w = tt
    by_content Passed w = tt
