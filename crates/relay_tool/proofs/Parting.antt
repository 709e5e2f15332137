-- The scalar output, taken apart by records and by lines.
use Rattle.std.proofs.Common.{◌≡◌, ℕ, suc, ◌+◌, ◌<◌, Bool, true, false, List, [], ◌∷◌, ◌++◌, Option, Some, None, length, map, reverse, refl, sym, ◌∙◌, ap, ap₂, subst, arith, append_assoc, append-nil, inl, inr}
use Rattle.std.specs.Prelude.{filter, if◌then◌else◌, slice_index_or}
use Rattle.std.specs.Str.{bytes_eq}
use Rattle.std.proofs.lemmas.List.{reverse-append, get_or_default}
use Rattle.std.proofs.lemmas.List.Elements.{filter-append}
use Rattle.std.specs.Option.{option_map}
use Rattle.std.proofs.lemmas.Bool.{cases_Bool, cases_eq, cases_lt}
use Rattle.std.proofs.lemmas.Slice.Eq.{bytes_eq-Decides}
use Rattle.sample_windows.specs.Windows.{in_order}
use Rattle.sv_frame.specs.Asdu.{PlainAsdu}
use Rattle.sv_frame.specs.Frame.{Sv, other, bad, pdu}
use Rattle.sv_frame.specs.declared.Reason.{Reason}
use Rattle.relay_settings.specs.Settings.{PlainLine, PlainSettings}
use Rattle.relay_settings.specs.declared.types.Common.{Common}
use Rattle.line_relay.specs.Bursts.{PlainBurst, burst}
use Rattle.goose_publish.specs.declared.points.Send.{Send}
use Rattle.event_record.specs.declared.event.Event.{Event}
use Rattle.line_bank.specs.Owners.{owns, own, owner}
use Rattle.line_bank.specs.Banks.{told_by}
use Rattle.line_bank.proofs.BankLaws.{owner-at, IsFound, find-some}
use Rattle.station.specs.Told.{tells_by}
use Rattle.settings_read.specs.SettingsLaws.{LinesDiffer}
use Rattle.settings_read.proofs.AcceptedFacts.{accepted-differ}
use Rattle.relay_tool.specs.Output.{Item, Tells, event_item, send_items, items_of, malformed_item, burst_items, told_items, heard_items, solo, reading, sets_of, frame_items, heard, items_from, out}
use Rattle.relay_tool.specs.LineParts.{is_of, part, part_of, own_of, sample_sets, IsLineOf, AcceptedAreApart, PartsAreEqual, MalformedAddsItsLine}

-- ---- by records

pub heard-append : (past : List PlainAsdu) (xs ys : List (List ℕ)) → heard past (xs ++ ys) ≡ heard (heard past xs) ys
unfolding heard
heard-append past [] ys = refl
heard-append past (x ∷ xs) ys = heard-append (reverse (sets_of (reading x)) ++ past) xs ys

pub items_from-append : (tells : Tells) (number : ℕ) (past : List PlainAsdu) (xs ys : List (List ℕ)) →
    items_from tells number past (xs ++ ys) ≡ items_from tells number past xs ++ items_from tells (number + length xs) (heard past xs) ys
unfolding items_from heard
items_from-append tells number past [] ys = ap (λ k. items_from tells k past ys) (omega arith)
items_from-append tells number past (x ∷ xs) ys =
    let first = frame_items tells number past (reading x) in
    let next = reverse (sets_of (reading x)) ++ past in
    ap (λ rest. first ++ rest) (items_from-append tells (number + 1) next xs ys
    ∙ ap (λ k. items_from tells (number + 1) next xs ++ items_from tells k (heard next xs) ys) (omega arith))
    ∙ sym (append_assoc first (items_from tells (number + 1) next xs) (items_from tells (number + suc (length xs)) (heard next xs) ys))

-- ---- by lines

part-append : (name : List ℕ) (xs ys : List Item) → part name (xs ++ ys) ≡ part name xs ++ part name ys
part-append name xs ys = filter-append (λ item. is_of name item.line) xs ys

-- a line's events are its part, all of them or none
part-events : (name line : List ℕ) (events : List Event) → part name (map (λ event. event_item line event) events) ≡ (if bytes_eq line name then map (λ event. event_item line event) events else [])
part-events name line [] = elim (bytes_eq line name) as (λ (b : Bool). let none : List Item = [] in none ≡ (if b then [] else [])) [ true ↦ refl | false ↦ refl ]
part-events name line (event ∷ events) = elim (cases_Bool (bytes_eq line name)) [
  | inl same ↦ rw same (ap (λ (xs : List Item). event_item line event ∷ xs) (rw same at (part-events name line events)))
  | inr differ ↦ rw differ (rw differ at (part-events name line events))
]

-- and so are its frames
part-send : (common : Common) (name : List ℕ) (line : PlainLine) (send : Option Send) → part name (send_items common line send) ≡ (if bytes_eq line.name name then send_items common line send else [])
part-send common name line None = elim (bytes_eq line.name name) as (λ (b : Bool). let none : List Item = [] in none ≡ (if b then [] else [])) [ true ↦ refl | false ↦ refl ]
part-send common name line (Some send) = elim (cases_Bool (bytes_eq line.name name)) [
  | inl same ↦ rw same refl
  | inr differ ↦ rw differ refl
]

if-append : (b : Bool) (xs ys : List Item) → (if b then xs else []) ++ (if b then ys else []) ≡ (if b then xs ++ ys else [])
if-append true xs ys = refl
if-append false xs ys = refl

part-burst : (common : Common) (name : List ℕ) (line : PlainLine) (burst : PlainBurst) → part name (items_of common line burst) ≡ (if bytes_eq line.name name then items_of common line burst else [])
part-burst common name line burst =
    part-append name (map (event_item line.name) burst.events) (send_items common line burst.send)
    ∙ ap₂ (λ (xs ys : List Item). xs ++ ys) (part-events name line.name burst.events) (part-send common name line burst.send)
    ∙ if-append (bytes_eq line.name name) (map (event_item line.name) burst.events) (send_items common line burst.send)

bytes_eq-refl : (xs : List ℕ) → bytes_eq xs xs ≡ true
bytes_eq-refl xs = (bytes_eq-Decides xs xs).1 refl

-- a line that stands at this place among lines that differ
record IsOne (lines : List PlainLine) (line : PlainLine) : Type 0 where
  differ : LinesDiffer lines
  place : ℕ
  within : place < length lines
  is : (d : PlainLine) → slice_index_or lines place d ≡ line

-- another line that owns a sample set has another name
name-apart : (lines : List PlainLine) (line another : PlainLine) (a : PlainAsdu) → IsOne lines line → owns line a ≡ false → owner a lines ≡ Some another → bytes_eq another.name line.name ≡ false
name-apart lines line another a one foreign found = elim (cases_Bool (bytes_eq another.name line.name)) [
  | inl same ↦ absurd (clash same)
  | inr differ ↦ differ
]
  where
    at : IsFound (λ l. owns l a) lines another
    at = find-some (λ l. owns l a) lines another found

    names : another.name ≡ line.name → at.place ≡ one.place
    names same = elim (cases_eq at.place one.place) [
      | inl e ↦ e
      | inr ne ↦ elim (cases_lt at.place one.place) [
        | inl before ↦ absurd (one.differ.names at.place one.place line before one.within (ap (λ (l : PlainLine). l.name) (at.is line) ∙ same ∙ sym (ap (λ (l : PlainLine). l.name) (one.is line))))
        | inr behind ↦ absurd (one.differ.names one.place at.place line (omega arith) at.within (ap (λ (l : PlainLine). l.name) (one.is line) ∙ sym same ∙ sym (ap (λ (l : PlainLine). l.name) (at.is line))))
      ]
    ]

    apart_bools : true ≡ false → ⊥
    apart_bools e = cc

    clash : bytes_eq another.name line.name ≡ true → ⊥
    clash e =
        let place = names ((bytes_eq-Decides another.name line.name).0 e) in
        let same : another ≡ line = sym (at.is line) ∙ ap (λ p. slice_index_or lines p line) place ∙ one.is line in
        let mine : owns line a ≡ true = ap (λ (l : PlainLine). owns l a) (sym same) ∙ at.passes in
        apart_bools (sym mine ∙ foreign)

-- what a line tells of a sample set that it owns, and of another
part-heard : (settings : PlainSettings) (line : PlainLine) (a : PlainAsdu) (older : List PlainAsdu) → IsOne settings.lines line →
    part line.name (heard_items settings (a ∷ older)) ≡ (if owns line a then burst_items settings.common line (a ∷ own line older) else [])
part-heard settings line a older one = elim (cases_Bool (owns line a)) [
  | inl mine ↦ rw mine (ap (λ o. part line.name (told_items settings.common (option_map (told_by (tells_by settings) a older) o))) (owner-at settings.lines a one.place line one.differ.sv_ids one.within (subst (λ l. owns l a ≡ true) (sym (one.is line)) mine) ∙ ap (λ l. Some l) (one.is line))
      ∙ part-burst settings.common line.name line (burst settings.common line (a ∷ own line older))
      ∙ ap (λ (b : Bool). if b then burst_items settings.common line (a ∷ own line older) else []) (bytes_eq-refl line.name))
  | inr foreign ↦ rw foreign (others (owner a settings.lines) refl foreign)
]
  where
    others : (o : Option PlainLine) → owner a settings.lines ≡ o → owns line a ≡ false → part line.name (told_items settings.common (option_map (told_by (tells_by settings) a older) (owner a settings.lines))) ≡ []
    others None found foreign = ap (λ o. part line.name (told_items settings.common (option_map (told_by (tells_by settings) a older) o))) found
    others (Some another) found foreign =
        ap (λ o. part line.name (told_items settings.common (option_map (told_by (tells_by settings) a older) o))) found
        ∙ part-burst settings.common line.name another (burst settings.common another (a ∷ own another older))
        ∙ ap (λ (b : Bool). if b then burst_items settings.common another (a ∷ own another older) else []) (name-apart settings.lines line another a one foreign found)

-- and of sample sets in their order
part-sets : (settings : PlainSettings) (line : PlainLine) (past asdus : List PlainAsdu) → IsOne settings.lines line →
    part line.name (in_order (heard_items settings) past asdus) ≡ in_order (burst_items settings.common line) (own line past) (own line asdus)
part-sets settings line past [] one = refl
part-sets settings line past (a ∷ asdus) one =
    part-append line.name (heard_items settings (a ∷ past)) (in_order (heard_items settings) (a ∷ past) asdus)
    ∙ ap₂ (λ first rest. first ++ rest) (part-heard settings line a past one) (part-sets settings line (a ∷ past) asdus one)
    ∙ elim (cases_Bool (owns line a)) [
      | inl mine ↦ rw mine refl
      | inr foreign ↦ rw foreign refl
    ]

part-frame : (settings : PlainSettings) (line : PlainLine) (number : ℕ) (past : List PlainAsdu) (sv : Sv) → IsOne settings.lines line →
    part line.name (frame_items (heard_items settings) number past sv) ≡ in_order (burst_items settings.common line) (own line past) (own line (sets_of sv))
part-frame settings line number past other one = refl
part-frame settings line number past (bad reason) one = refl
part-frame settings line number past (pdu asdus) one = part-sets settings line past asdus one

pub in_order-append : {X Y : Type 0} (told : List X → List Y) (past xs ys : List X) → in_order told past (xs ++ ys) ≡ in_order told past xs ++ in_order told (reverse xs ++ past) ys
in_order-append told past [] ys = refl
in_order-append told past (x ∷ xs) ys =
    ap (λ rest. told (x ∷ past) ++ rest) (in_order-append told (x ∷ past) xs ys
    ∙ ap (λ before. in_order told (x ∷ past) xs ++ in_order told before ys) (sym (ap (λ zs. zs ++ past) (reverse-append (x ∷ []) xs) ∙ append_assoc (reverse xs) (x ∷ []) past)))
    ∙ sym (append_assoc (told (x ∷ past)) (in_order told (x ∷ past) xs) (in_order told (reverse (x ∷ xs) ++ past) ys))

filter-reverse : {X : Type 0} (test : X → Bool) (xs : List X) → filter test (reverse xs) ≡ reverse (filter test xs)
filter-reverse test [] = refl
filter-reverse test (x ∷ xs) =
    ap (filter test) (reverse-append (x ∷ []) xs)
    ∙ filter-append test (reverse xs) (x ∷ [])
    ∙ ap (λ ys. ys ++ filter test (x ∷ [])) (filter-reverse test xs)
    ∙ elim (cases_Bool (test x)) [
      | inl passes ↦ rw passes (sym (reverse-append (x ∷ []) (filter test xs)))
      | inr fails ↦ rw fails (append-nil (reverse (filter test xs)))
    ]

pub own-reverse : (line : PlainLine) (asdus past : List PlainAsdu) → own line (reverse asdus ++ past) ≡ reverse (own line asdus) ++ own line past
own-reverse line asdus past = filter-append (λ a. owns line a) (reverse asdus) past ∙ ap (λ xs. xs ++ own line past) (filter-reverse (λ a. owns line a) asdus)

part-records : (settings : PlainSettings) (line : PlainLine) (number : ℕ) (past : List PlainAsdu) (bodies : List (List ℕ)) → IsOne settings.lines line →
    part line.name (items_from (heard_items settings) number past bodies) ≡ in_order (burst_items settings.common line) (own line past) (own line (sample_sets bodies))
unfolding items_from
part-records settings line number past [] one = refl
part-records settings line number past (body ∷ bodies) one =
    let sets = sets_of (reading body) in
    let told = burst_items settings.common line in
    part-append line.name (frame_items (heard_items settings) number past (reading body)) (items_from (heard_items settings) (number + 1) (reverse sets ++ past) bodies)
    ∙ ap₂ (λ first rest. first ++ rest) (part-frame settings line number past (reading body) one)
    (part-records settings line (number + 1) (reverse sets ++ past) bodies one
    ∙ ap (λ before. in_order told before (own line (sample_sets bodies))) (own-reverse line sets past))
    ∙ sym (ap (in_order told (own line past)) (filter-append (λ a. owns line a) sets (sample_sets bodies))
    ∙ in_order-append told (own line past) (own line sets) (own line (sample_sets bodies)))

part-line : (settings : PlainSettings) (bodies : List (List ℕ)) (line : PlainLine) → IsOne settings.lines line → part_of settings bodies line ≡ solo settings.common line (own_of bodies line)
part-line settings bodies line one = part-records settings line 1 [] bodies one

pub apart : AcceptedAreApart
apart text settings bodies accepted place d within =
    let line : PlainLine = slice_index_or settings.lines place d in
    part-line settings bodies line (record { differ = accepted-differ text settings accepted; place = place; within = within; is = λ e. get_or_default settings.lines place e d within })

one-of : {text : List ℕ} {settings : PlainSettings} {line : PlainLine} → IsLineOf text settings line → IsOne settings.lines line
one-of {text} {settings} {line} of = record { differ = accepted-differ text settings of.accepted; place = of.place; within = of.within; is = of.is }

pub parts-equal : PartsAreEqual
parts-equal text text' settings settings' bodies bodies' line of of' common own_is =
    part-line settings bodies line (one-of of)
    ∙ ap₂ (λ c sets. solo c line sets) common own_is
    ∙ sym (part-line settings' bodies' line (one-of of'))

-- ---- what a malformed frame adds

-- the number of a record shows in no line's part
part-number : (name : List ℕ) (tells : Tells) (j k : ℕ) (past : List PlainAsdu) (bodies : List (List ℕ)) →
    part name (items_from tells j past bodies) ≡ part name (items_from tells k past bodies)
unfolding items_from
part-number name tells j k past [] = refl
part-number name tells j k past (body ∷ bodies) =
    let rest : ℕ → List Item = λ n. items_from tells n (reverse (sets_of (reading body)) ++ past) bodies in
    part-append name (frame_items tells j past (reading body)) (rest (j + 1))
    ∙ ap₂ (λ first others. first ++ others) (frame (reading body)) (part-number name tells (j + 1) (k + 1) (reverse (sets_of (reading body)) ++ past) bodies)
    ∙ sym (part-append name (frame_items tells k past (reading body)) (rest (k + 1)))
  where
    frame : (sv : Sv) → part name (frame_items tells j past sv) ≡ part name (frame_items tells k past sv)
    frame other = refl
    frame (bad reason) = refl
    frame (pdu asdus) = refl

with-malformed : (tells : Tells) (number : ℕ) (past : List PlainAsdu) (body : List ℕ) (reason : Reason) (after : List (List ℕ)) → reading body ≡ bad reason →
    items_from tells number past (body ∷ after) ≡ malformed_item number reason ∷ items_from tells (number + 1) past after
unfolding items_from
with-malformed tells number past body reason after e =
    ap (λ sv. frame_items tells number past sv ++ items_from tells (number + 1) (reverse (sets_of sv) ++ past) after) e

pub malformed : (tells : Tells) → MalformedAddsItsLine tells
malformed tells before after body reason e = record {
  with_it = with_it;
  without_it = without_it;
  same_parts = λ name.
      ap (part name) with_it
      ∙ part-append name (out tells before) (malformed_item (length before + 1) reason ∷ items_from tells (length before + 2) (heard [] before) after)
      ∙ ap (λ (xs : List Item). part name (out tells before) ++ xs) (part-number name tells (length before + 2) (length before + 1) (heard [] before) after)
      ∙ sym (part-append name (out tells before) (items_from tells (length before + 1) (heard [] before) after))
      ∙ sym (ap (part name) without_it);
}
  where
    counted : (1 + length before ≡ length before + 1)
    counted = omega arith

    with_it : out tells (before ++ body ∷ after) ≡ out tells before ++ malformed_item (length before + 1) reason ∷ items_from tells (length before + 2) (heard [] before) after
    with_it = items_from-append tells 1 [] before (body ∷ after)
        ∙ ap (λ (xs : List Item). out tells before ++ xs) (ap (λ k. items_from tells k (heard [] before) (body ∷ after)) counted
        ∙ with-malformed tells (length before + 1) (heard [] before) body reason after e
        ∙ ap (λ k. malformed_item (length before + 1) reason ∷ items_from tells k (heard [] before) after) (omega arith))

    without_it : out tells (before ++ after) ≡ out tells before ++ items_from tells (length before + 1) (heard [] before) after
    without_it = items_from-append tells 1 [] before after ∙ ap (λ k. out tells before ++ items_from tells k (heard [] before) after) counted
