-- Writes one after another.
use Rattle.std.proofs.Common.{◌≡◌, ◌∙◌, inl, inr, ℕ, zero, suc, ◌≤◌, Bool, true, false, IsTrue, List, [], ◌∷◌, ◌++◌, take, refl, sym, ap, subst, arith, append_assoc, append-nil}
use Rattle.std.specs.Prelude.{Ok, Err, Result, Option, Some, if◌then◌else◌}
use Rattle.std.proofs.lemmas.Bool.{cases_Bool}
use Rattle.room_io.specs.Room.{RoomState, SlotState, at, OnlyAt, Stays, Rose}
use Rattle.room_io.specs.declared.room.Slot.{Slot}
use Rattle.room_io.proofs.Rooms.{tells-OnlyAt}
use Rattle.relay_tool.specs.Output.{Item}
use Rattle.relay_tool.specs.Files.{written, front, slot_after, is_slot, is_written, IsWrittenFile}
use Rattle.relay_tool.specs.Making.{OnlyUsed, OnlyUses, Appends, StopsAt, FailsIn, Makes, Puts}
use Rattle.relay_tool.specs.declared.put.Failed.{Failed}
use Rattle.relay_tool.proofs.Slots.{same-slot, kept-at, contents-OnlyAt, clash}

-- ---- what stays

OnlyUsed-refl : (slot : SlotState) → OnlyUsed slot slot
OnlyUsed-refl slot = record { name = refl; ready = refl; later = omega arith }

OnlyUsed-trans : {a b c : SlotState} → OnlyUsed a b → OnlyUsed b c → OnlyUsed a c
OnlyUsed-trans p q = record { name = q.name ∙ p.name; ready = q.ready ∙ p.ready; later = omega arith }

pub OnlyUses-refl : (used : Slot → Bool) (room : RoomState) → OnlyUses used room room
OnlyUses-refl used room = record { tells = refl; contents = refl; others = λ slot e. refl; each = λ slot. OnlyUsed-refl (at room slot) }

pub OnlyUses-trans : {used : Slot → Bool} {a b c : RoomState} → OnlyUses used a b → OnlyUses used b c → OnlyUses used a c
OnlyUses-trans p q = record {
  tells = q.tells ∙ p.tells;
  contents = q.contents ∙ p.contents;
  others = λ slot e. q.others slot e ∙ p.others slot e;
  each = λ slot. OnlyUsed-trans (p.each slot) (q.each slot);
}

-- of fewer slots
pub OnlyUses-more : {used more : Slot → Bool} {a b : RoomState} → ((slot : Slot) → more slot ≡ false → used slot ≡ false) → OnlyUses used a b → OnlyUses more a b
OnlyUses-more within p = record { tells = p.tells; contents = p.contents; others = λ slot e. p.others slot (within slot e); each = p.each }

-- of one slot
pub OnlyUses-at : (used : Slot → Bool) (slot : Slot) {a b : RoomState} → used slot ≡ true → OnlyAt slot a b → Stays (at a slot) (at b slot) → (at a slot).faults ≤ (at b slot).faults → OnlyUses used a b
OnlyUses-at used slot {a} {b} is only stays later = record {
  tells = tells-OnlyAt only;
  contents = contents-OnlyAt only;
  others = λ s unused. elim (cases_Bool (is_slot slot s)) [
    | inl same ↦ absurd (clash (sym is ∙ ap used (same-slot slot s same) ∙ unused))
    | inr other ↦ kept-at s only other
  ];
  each = λ s. elim (cases_Bool (is_slot slot s)) [
    | inl same ↦ subst (λ x. OnlyUsed (at a x) (at b x)) (same-slot slot s same) (record { name = stays.name; ready = stays.ready; later = later })
    | inr other ↦ subst (λ x. OnlyUsed (at a s) x) (sym (kept-at s only other)) (OnlyUsed-refl (at a s))
  ];
}

pub told_on : {used : Slot → Bool} {a b : RoomState} → OnlyUses used a b → IsTrue a.tells → IsTrue b.tells
told_on only told = only.tells ∙ told

-- ---- what was appended

pub Appends-nothing : (room : RoomState) → Appends [] room room
Appends-nothing room = record { each = λ slot file. sym (append-nil (at room slot).bytes) }

pub written-append : (slot : Slot) (ws vs : List Item) → written slot (ws ++ vs) ≡ written slot ws ++ written slot vs
written-append slot [] vs = refl
written-append slot (w ∷ ws) vs = rw (written-append slot ws vs, append_assoc)

pub Appends-more : {ws vs : List Item} {a b c : RoomState} → Appends ws a b → Appends vs b c → Appends (ws ++ vs) a c
Appends-more {ws} {vs} {a} {b} {c} p q = record {
  each = λ slot file. q.each slot file ∙ ap (λ xs. xs ++ written slot vs) (p.each slot file) ∙ append_assoc (at a slot).bytes (written slot ws) (written slot vs) ∙ ap (λ xs. (at a slot).bytes ++ xs) (sym (written-append slot ws vs));
}

-- where no output was touched
pub Appends-none : (a b : RoomState) → ((slot : Slot) → IsWrittenFile slot → at b slot ≡ at a slot) → Appends [] a b
Appends-none a b same = record { each = λ slot file. ap (λ (s : SlotState). s.bytes) (same slot file) ∙ sym (append-nil (at a slot).bytes) }

pub Makes-nothing : (room : RoomState) → Makes [] room room (Ok tt)
Makes-nothing room = record { only = OnlyUses-refl is_written room; all = λ _. Appends-nothing room; end = tt }

-- ---- one write

abbrev one : Slot → Option (List ℕ) → List ℕ → List Item
one slot line bytes = record { slot = slot; line = line; bytes = bytes } ∷ []

written-one : (slot s : Slot) (line : Option (List ℕ)) (bytes : List ℕ) → is_slot slot s ≡ true → written s (one slot line bytes) ≡ bytes
written-one slot s line bytes same = rw same (append-nil bytes)

written-none : (slot s : Slot) (line : Option (List ℕ)) (bytes : List ℕ) → is_slot slot s ≡ false → written s (one slot line bytes) ≡ []
written-none slot s line bytes other = rw other refl

-- these bytes were appended to a slot, and nothing else was done
appended : (slot : Slot) (line : Option (List ℕ)) (bytes : List ℕ) {a b : RoomState} → OnlyAt slot a b → (at b slot).bytes ≡ (at a slot).bytes ++ bytes → Appends (one slot line bytes) a b
appended slot line bytes {a} {b} only e = record {
  each = λ s file. elim (cases_Bool (is_slot slot s)) [
    | inl same ↦ subst (λ x. (at b x).bytes ≡ (at a x).bytes ++ bytes) (same-slot slot s same) e ∙ ap (λ xs. (at a s).bytes ++ xs) (sym (written-one slot s line bytes same))
    | inr other ↦ ap (λ (x : SlotState). x.bytes) (kept-at s only other) ∙ sym (ap (λ xs. (at a s).bytes ++ xs) (written-none slot s line bytes other) ∙ append-nil (at a s).bytes)
  ];
}

pub put-made : (slot : Slot) (line : Option (List ℕ)) {bytes : List ℕ} {a b : RoomState} (result : Result (Unit {0}) Failed) → IsWrittenFile slot → Puts slot bytes a b result → Makes (one slot line bytes) a b result
put-made slot line {bytes} {a} {b} (Ok u) file put = record {
  only = OnlyUses-at is_written slot file put.only put.stays put.later;
  all = λ told. appended slot line bytes put.only (put.whole told);
  end = tt;
}
put-made slot line {bytes} {a} {b} (Err e) file put = record {
  only = OnlyUses-at is_written slot file put.only put.stays put.later;
  all = tt;
  end = subst (λ s. FailsIn s (one slot line bytes) a b) (sym put.end.0) (record {
    output = file;
    rose = put.end.1;
    stops = λ told. let p = put.part told in record { whole = 0; part = p.0; appended = appended slot line (take p.0 bytes) put.only p.2; next = refl };
  });
}

-- ---- an end in the midst of writes

-- a front of some writes is a front of these and more
widen : (k n : ℕ) (vs us : List Item) (slot : Slot) → slot_after k vs ≡ Some slot → ((s : Slot) → written s (front k n (vs ++ us)) ≡ written s (front k n vs)) × (slot_after k (vs ++ us) ≡ Some slot)
widen k n [] us slot e = cc
widen zero n (v ∷ vs) us slot e = (λ s. refl, e)
widen (suc k) n (v ∷ vs) us slot e =
    let r = widen k n vs us slot e in
    (λ s. ap (λ (xs : List ℕ). (if is_slot v.slot s then v.bytes else []) ++ xs) (r.0 s), r.1)

-- all of some writes and then a front of others
behind : (ws vs : List Item) (k n : ℕ) → (k' : ℕ) × ((s : Slot) → written s (front k' n (ws ++ vs)) ≡ written s ws ++ written s (front k n vs)) × (slot_after k' (ws ++ vs) ≡ slot_after k vs)
behind [] vs k n = (k, λ s. refl, refl)
behind (w ∷ ws) vs k n =
    let r = behind ws vs k n in (
      suc r.0,
      λ s. ap (λ (xs : List ℕ). (if is_slot w.slot s then w.bytes else []) ++ xs) (r.1 s) ∙ sym (append_assoc (if is_slot w.slot s then w.bytes else []) (written s ws) (written s (front k n vs))),
      r.2,
    )

pub StopsAt-lift : (ws vs us : List Item) {slot : Slot} {a b c : RoomState} → Appends ws a b → StopsAt slot vs b c → StopsAt slot (ws ++ (vs ++ us)) a c
StopsAt-lift ws vs us {slot} {a} {b} {c} all stop =
    let wide = widen stop.whole stop.part vs us slot stop.next in
    let far = behind ws (vs ++ us) stop.whole stop.part in
    record {
      whole = far.0;
      part = stop.part;
      appended = record {
        each = λ s file. stop.appended.each s file ∙ ap (λ xs. xs ++ written s (front stop.whole stop.part vs)) (all.each s file) ∙ append_assoc (at a s).bytes (written s ws) (written s (front stop.whole stop.part vs))
            ∙ ap (λ xs. (at a s).bytes ++ xs) (ap (λ xs. written s ws ++ xs) (sym (wide.0 s)) ∙ sym (far.1 s));
      };
      next = far.2 ∙ wide.1;
    }

pub FailsIn-lift : (slot : Slot) (ws vs us : List Item) {used : Slot → Bool} {a b : RoomState} (c : RoomState) → OnlyUses used a b → (IsTrue a.tells → Appends ws a b) → FailsIn slot vs b c → FailsIn slot (ws ++ (vs ++ us)) a c
FailsIn-lift slot ws vs us {used} {a} {b} c only all fails = record {
  output = fails.output;
  rose = let h = (only.each slot).later in let r : Rose (at b slot).faults (at c slot).faults = fails.rose in omega arith;
  stops = λ told. StopsAt-lift ws vs us (all told) (fails.stops (told_on only told));
}

-- some writes, then an end in others, with more behind them
pub Makes-stop : {ws vs : List Item} (us : List Item) {a b c : RoomState} {e : Failed} → Makes ws a b (Ok tt) → Makes vs b c (Err e) → Makes (ws ++ (vs ++ us)) a c (Err e)
Makes-stop {ws} {vs} us {a} {b} {c} {e} p q = record {
  only = OnlyUses-trans p.only q.only;
  all = tt;
  end = FailsIn-lift e.slot ws vs us c p.only p.all q.end;
}

-- some writes, and then others
pub Makes-more : {ws vs : List Item} {a b c : RoomState} (result : Result (Unit {0}) Failed) → Makes ws a b (Ok tt) → Makes vs b c result → Makes (ws ++ vs) a c result
Makes-more {ws} {vs} {a} {b} {c} (Ok u) p q = record {
  only = OnlyUses-trans p.only q.only;
  all = λ told. Appends-more (p.all told) (q.all (told_on p.only told));
  end = tt;
}
Makes-more {ws} {vs} {a} {b} {c} (Err e) p q = subst (λ (us : List Item). Makes (ws ++ us) a c (Err e)) (append-nil vs) (Makes-stop [] p q)
