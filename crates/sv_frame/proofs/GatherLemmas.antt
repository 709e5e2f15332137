-- An ASDU's fields gathered one after the other say what the whole list of them says.
use Rattle.std.proofs.Common.{◌≡◌, ◌≢◌, ℕ, suc, ◌+◌, ◌<◌, ◌≤◌, Bool, true, false, cond, leb, List, [], ◌∷◌, length, Option, Some, None, refl, sym, ap, ◌∙◌, arith}
use Rattle.std.specs.Prelude.{◌==◌}
use Rattle.std.proofs.lemmas.Bool.{leb-true, leb-false, eqb-true, ne_eqb}
use Rattle.ber_fields.specs.Element.{Element, ◌>>=◌, element_at}
use Rattle.sv_frame.specs.Elements.{elements}
use Rattle.sv_frame.specs.Asdu.{PlainAsdu, known, is_rising, contents_of, asdu_from, asdu_of}
use Rattle.sv_frame.specs.Gathering.{Gathered, nothing_gathered, newer, joined, with_field, asdu_with, asdu_by}
use Rattle.sv_frame.proofs.ElementLemmas.{next, stops, full, empty, holds}

-- what was gathered and these fields say
abbrev pub said : Gathered → List Element → Option PlainAsdu
said g [] = asdu_by g
said g (e ∷ es) = with_field e g >>= λ more. said more es

-- what came, or what is still to come
abbrev or_else : Option (List ℕ) → Option (List ℕ) → Option (List ℕ)
or_else (Some x) later = Some x
or_else None later = later

or_nothing : (x : Option (List ℕ)) → or_else x None ≡ x
or_nothing (Some x) = refl
or_nothing None = refl

-- a known tag that may still come hasn't come
record IsFresh (g : Gathered) : Type 0 where
  sv_id : g.low ≤ 0x80 → g.sv_id ≡ None
  counter : g.low ≤ 0x82 → g.counter ≡ None
  conf_rev : g.low ≤ 0x83 → g.conf_rev ≡ None
  synch : g.low ≤ 0x85 → g.synch ≡ None
  samples : g.low ≤ 0x87 → g.samples ≡ None

newer_in : (b : Bool) (tag : ℕ) (e : Element) (es : List Element) (x : Option (List ℕ)) → (e.tag == tag) ≡ b → (e.tag ≡ tag → x ≡ None) → or_else (newer tag e x) (contents_of tag es) ≡ or_else x (contents_of tag (e ∷ es))
newer_in true tag e es x is fresh = rw (is, fresh (eqb-true _ _ is)) refl
newer_in false tag e es x is fresh = rw is refl

one : (tag : ℕ) (e : Element) (es : List Element) (x : Option (List ℕ)) → (e.tag ≡ tag → x ≡ None) → or_else (newer tag e x) (contents_of tag es) ≡ or_else x (contents_of tag (e ∷ es))
one tag e es x fresh = newer_in (e.tag == tag) tag e es x refl fresh

past : (tag : ℕ) (e : Element) (es : List Element) (x : Option (List ℕ)) → e.tag ≢ tag → or_else x (contents_of tag es) ≡ or_else x (contents_of tag (e ∷ es))
past tag e es x differ = rw (ne_eqb e.tag tag differ) refl

-- the whole of it, at once
abbrev whole : Gathered → List Element → Option PlainAsdu
whole g es = asdu_with (or_else g.sv_id (contents_of 0x80 es)) (or_else g.counter (contents_of 0x82 es)) (or_else g.conf_rev (contents_of 0x83 es)) (or_else g.synch (contents_of 0x85 es)) (or_else g.samples (contents_of 0x87 es))

same_with : (a b c d e a' b' c' d' e' : Option (List ℕ)) → a ≡ a' → b ≡ b' → c ≡ c' → d ≡ d' → e ≡ e' → asdu_with a b c d e ≡ asdu_with a' b' c' d' e'
same_with a b c d e a' b' c' d' e' p q r s t = rw (p, q, r, s, t) refl

whole_joined : (e : Element) (es : List Element) (g : Gathered) → g.low ≤ e.tag → IsFresh g → whole (joined e g) es ≡ whole g (e ∷ es)
whole_joined e es g above fresh =
    same_with _ _ _ _ _ _ _ _ _ _
    (one 0x80 e es g.sv_id (λ is. fresh.sv_id (omega arith)))
    (one 0x82 e es g.counter (λ is. fresh.counter (omega arith)))
    (one 0x83 e es g.conf_rev (λ is. fresh.conf_rev (omega arith)))
    (one 0x85 e es g.synch (λ is. fresh.synch (omega arith)))
    (one 0x87 e es g.samples (λ is. fresh.samples (omega arith)))

whole_past : (e : Element) (es : List Element) (g : Gathered) → 0x89 < e.tag → whole g es ≡ whole g (e ∷ es)
whole_past e es g large =
    same_with _ _ _ _ _ _ _ _ _ _
    (past 0x80 e es g.sv_id (λ is. omega arith))
    (past 0x82 e es g.counter (λ is. omega arith))
    (past 0x83 e es g.conf_rev (λ is. omega arith))
    (past 0x85 e es g.synch (λ is. omega arith))
    (past 0x87 e es g.samples (λ is. omega arith))

still_none : (tag : ℕ) (e : Element) (x : Option (List ℕ)) (low : ℕ) → low ≤ e.tag → (low ≤ tag → x ≡ None) → e.tag + 1 ≤ tag → newer tag e x ≡ None
still_none tag e x low above fresh later = let differ : e.tag ≢ tag = λ is. omega arith in rw (ne_eqb e.tag tag differ) (fresh (omega arith))

fresh_joined : (e : Element) (g : Gathered) → g.low ≤ e.tag → IsFresh g → IsFresh (joined e g)
fresh_joined e g above fresh = record {
  sv_id = still_none 0x80 e g.sv_id g.low above fresh.sv_id;
  counter = still_none 0x82 e g.counter g.low above fresh.counter;
  conf_rev = still_none 0x83 e g.conf_rev g.low above fresh.conf_rev;
  synch = still_none 0x85 e g.synch g.low above fresh.synch;
  samples = still_none 0x87 e g.samples g.low above fresh.samples;
}

-- what is said of some fields, whatever was gathered before
abbrev SaidAll : List Element → Type 0
SaidAll es = (g : Gathered) → IsFresh g → said g es ≡ cond (is_rising g.low (known es)) (whole g es) None

said_first : (b c : Bool) (e : Element) (es : List Element) (g : Gathered) → leb e.tag 0x89 ≡ b → leb g.low e.tag ≡ c → IsFresh g → SaidAll es → said g (e ∷ es) ≡ cond (is_rising g.low (known (e ∷ es))) (whole g (e ∷ es)) None
said_first true true e es g is above fresh later =
    let on : said (joined e g) es ≡ cond (is_rising (e.tag + 1) (known es)) (whole (joined e g) es) None = later (joined e g) (fresh_joined e g (leb-true _ _ above) fresh) in
    let same : whole (joined e g) es ≡ whole g (e ∷ es) = whole_joined e es g (leb-true _ _ above) fresh in
    rw (is, above) (on ∙ ap (λ (x : Option PlainAsdu). cond (is_rising (e.tag + 1) (known es)) x None) same)
said_first true false e es g is above fresh later = rw (is, above) refl
said_first false c e es g is above fresh later =
    let same : whole g es ≡ whole g (e ∷ es) = whole_past e es g (leb-false _ _ is) in
    rw is (later g fresh ∙ ap (λ (x : Option PlainAsdu). cond (is_rising g.low (known es)) x None) same)

said_all : (es : List Element) → SaidAll es
said_all [] g fresh = same_with _ _ _ _ _ _ _ _ _ _ (sym (or_nothing g.sv_id)) (sym (or_nothing g.counter)) (sym (or_nothing g.conf_rev)) (sym (or_nothing g.synch)) (sym (or_nothing g.samples))
said_all (e ∷ es) g fresh = said_first (leb e.tag 0x89) (leb g.low e.tag) e es g refl refl fresh (said_all es)

-- ---- over the bytes

-- what was gathered and the fields that fill these bytes say, where they are at most so many
abbrev pub said_of : ℕ → List ℕ → Gathered → Option PlainAsdu
said_of left bytes g = elements left bytes >>= λ es. said g es

said_from : (es : List Element) → said nothing_gathered es ≡ asdu_from es
unfolding asdu_from
said_from es = said_all es nothing_gathered (record { sv_id = λ h. refl; counter = λ h. refl; conf_rev = λ h. refl; synch = λ h. refl; samples = λ h. refl })

starts_in : (read : Option (List Element)) → (read >>= λ es. said nothing_gathered es) ≡ (read >>= λ es. asdu_from es)
starts_in (Some es) = said_from es
starts_in None = refl

pub starts : (bytes : List ℕ) → said_of 16 bytes nothing_gathered ≡ asdu_of bytes
starts bytes = starts_in (elements 16 bytes)

joins_none : (o : Option Gathered) → None ≡ (o >>= λ more. let nothing : Option PlainAsdu = None in nothing)
joins_none (Some more) = refl
joins_none None = refl

joins : (read : Option (List Element)) (e : Element) (g : Gathered) → (read >>= (λ es. Some (e ∷ es)) >>= λ es. said g es) ≡ (with_field e g >>= λ more. read >>= λ es. said more es)
joins (Some es) e g = refl
joins None e g = joins_none (with_field e g)

-- one field further
pub goes_on : (left fewer : ℕ) (bytes : List ℕ) (e : Element) (rest : List ℕ) (g more : Gathered) → left ≡ suc fewer → element_at bytes ≡ Some (e, rest) → with_field e g ≡ Some more → said_of left bytes g ≡ said_of fewer rest more
goes_on left fewer bytes e rest g more k h is =
    rw (k, next fewer bytes e rest (holds bytes e rest h) h) (joins (elements fewer rest) e g ∙ rw is refl)

-- a field that isn't above those before
pub falls : (left fewer : ℕ) (bytes : List ℕ) (e : Element) (rest : List ℕ) (g : Gathered) → left ≡ suc fewer → element_at bytes ≡ Some (e, rest) → with_field e g ≡ None → said_of left bytes g ≡ None
falls left fewer bytes e rest g k h is =
    rw (k, next fewer bytes e rest (holds bytes e rest h) h) (joins (elements fewer rest) e g ∙ rw is refl)

-- no field stands there
pub breaks : (left : ℕ) (bytes : List ℕ) (g : Gathered) → 0 < length bytes → element_at bytes ≡ None → said_of left bytes g ≡ None
breaks left bytes g some h = rw (stops left bytes some h) refl

-- one field too many
pub passes : (left : ℕ) (bytes : List ℕ) (g : Gathered) → left ≡ 0 → 0 < length bytes → said_of left bytes g ≡ None
passes left bytes g k some = rw (k, full bytes some) refl

pub ends : (left : ℕ) (bytes : List ℕ) (g : Gathered) → bytes ≡ [] → said_of left bytes g ≡ asdu_by g
ends left bytes g none = rw (none, empty left) refl
