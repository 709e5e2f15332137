-- Record after record.
use Rattle.std.proofs.Common.{◌≡◌, inl, ℕ, ◌+◌, ◌≤◌, false, IsTrue, List, [], ◌∷◌, ◌++◌, length, take, reverse, refl, sym, ◌∙◌, ap, subst, arith, append_assoc, append-nil, length-append}
use Rattle.room_io.specs.Room.{RoomState, at, Rose, OnlyAt, Stays}
use Rattle.room_io.specs.declared.room.Slot.{Slot}
use Rattle.room_io.specs.declared.room.Slot.TheVariants as slots
use Rattle.capture_feed.specs.Records.{Records, Stop, Damaged, Cut, TooLong, add, stopped}
use Rattle.capture_feed.specs.declared.stop.FeedStop.{FeedStop}
use Rattle.capture_feed.specs.declared.stop.FeedStop.TheVariants as stops
use Rattle.capture_feed.specs.Answers.{Gives, HoldsNone, StopsAs}
use Rattle.sv_frame.specs.Asdu.{PlainAsdu}
use Rattle.sv_frame.specs.Frame.{sv}
use Rattle.relay_tool.specs.Output.{Item, Tells, reading, sets_of, frame_items, heard, items_from, out}
use Rattle.relay_tool.specs.Files.{is_written, IsWrittenFile, is_slot}
use Rattle.relay_tool.specs.Run.{ending_at}
use Rattle.relay_tool.specs.Making.{OnlyWrites, OnlyWorks, is_worked, Appends, StopsAt, FailsIn}
use Rattle.relay_tool.specs.Running.{StopsAsFound, BreaksOffAt, Runs, ending_of_stop, halted}
use Rattle.relay_tool.specs.declared.run.Stopped.{Stopped}
use Rattle.relay_tool.specs.declared.run.Stopped.TheVariants as ends
use Rattle.relay_tool.proofs.Slots.{kept-at}
use Rattle.relay_tool.proofs.Writing.{OnlyUses-trans, OnlyUses-more, OnlyUses-at, Appends-nothing, Appends-none, Appends-more, StopsAt-lift, told_on}
use Rattle.relay_tool.proofs.Parting.{heard-append, items_from-append}

-- ---- rooms

pub works-writes : {a b : RoomState} → OnlyWrites a b → OnlyWorks a b
works-writes p = OnlyUses-more within p
  where
    within : (slot : Slot) → is_worked slot ≡ false → is_written slot ≡ false
    within slots.Settings e = refl
    within slots.Capture e = refl
    within slots.Goose e = e
    within slots.Log e = e
    within slots.Config e = e
    within slots.Data e = e
    within slots.Note e = refl
    within slots.Answer e = refl

pub works-reads : {a b : RoomState} → OnlyAt slots.Capture a b → Stays a.capture b.capture → a.capture.faults ≤ b.capture.faults → OnlyWorks a b
works-reads only stays later = OnlyUses-at is_worked slots.Capture refl only stays later

-- an output is not the capture
pub apart : (slot : Slot) → IsWrittenFile slot → is_slot slots.Capture slot ≡ false
apart slots.Settings e = refl
apart slots.Capture e = cc
apart slots.Goose e = refl
apart slots.Log e = refl
apart slots.Config e = refl
apart slots.Data e = refl
apart slots.Note e = refl
apart slots.Answer e = refl

-- a read of the capture writes nothing
reads-nothing : {a b : RoomState} → OnlyAt slots.Capture a b → Appends [] a b
reads-nothing {a} {b} only = Appends-none a b (λ slot file. kept-at slot only (apart slot file))

-- writes behind a read of the capture
Appends-behind : {ws : List Item} {a b c : RoomState} → OnlyAt slots.Capture a b → Appends ws b c → Appends ws a c
Appends-behind {ws} {a} {b} {c} only appended = Appends-more (reads-nothing only) appended

Appends-before : {ws : List Item} {a b c : RoomState} → Appends ws a b → OnlyAt slots.Capture b c → Appends ws a c
Appends-before {ws} {a} {b} {c} appended only = subst (λ (items : List Item). Appends items a c) (append-nil ws) (Appends-more appended (reads-nothing only))

-- ---- records

-- these bodies in front of other records
abbrev pub add_all : List (List ℕ) → Records → Records
add_all bodies records = record records { bodies = bodies ++ records.bodies }

pub add_all-push : (bodies : List (List ℕ)) (body : List ℕ) (records : Records) → add_all bodies (add body records) ≡ add_all (bodies ++ body ∷ []) records
add_all-push bodies body records = ap (λ bs. let r : Records = record records { bodies = bs } in r) (sym (append_assoc bodies (body ∷ []) records.bodies))

-- one record further
out-push : (tells : Tells) (bodies : List (List ℕ)) (body : List ℕ) →
    out tells (bodies ++ body ∷ []) ≡ out tells bodies ++ frame_items tells (length bodies + 1) (heard [] bodies) (reading body)
unfolding items_from
out-push tells bodies body =
    items_from-append tells 1 [] bodies (body ∷ [])
    ∙ ap (λ items. out tells bodies ++ items) (append-nil (frame_items tells (1 + length bodies) (heard [] bodies) (reading body)))
    ∙ ap (λ k. out tells bodies ++ frame_items tells k (heard [] bodies) (reading body)) (omega arith)

pub heard-push : (bodies : List (List ℕ)) (body : List ℕ) → heard [] (bodies ++ body ∷ []) ≡ reverse (sets_of (reading body)) ++ heard [] bodies
unfolding heard
heard-push bodies body = heard-append [] bodies (body ∷ [])

-- a record before others
out-split : (tells : Tells) (bodies : List (List ℕ)) (body : List ℕ) (others : List (List ℕ)) →
    out tells (bodies ++ body ∷ others) ≡ out tells bodies ++ (frame_items tells (length bodies + 1) (heard [] bodies) (reading body)
    ++ items_from tells (length bodies + 1 + 1) (reverse (sets_of (reading body)) ++ heard [] bodies) others)
unfolding items_from
out-split tells bodies body others =
    items_from-append tells 1 [] bodies (body ∷ others)
    ∙ ap (λ k. out tells bodies ++ (frame_items tells k (heard [] bodies) (reading body) ++ items_from tells (k + 1) (reverse (sets_of (reading body)) ++ heard [] bodies) others)) (omega arith)

-- what was lent is how the record is read
pub lent-reading : (captured : ℕ) (bytes body : List ℕ) → length body ≡ captured → bytes ≡ take 2048 body → sv bytes captured ≡ reading body
lent-reading captured bytes body long lent = ap (λ xs. sv xs captured) lent ∙ ap (sv (take 2048 body)) (sym long)

-- ---- the loop

-- what was done of a capture in a room that tells
pub record Done (tells : Tells) (first : List ℕ → Records) (whole : List ℕ) (number : ℕ) (next : List ℕ → Records) (left : List ℕ) (past : List PlainAsdu) (old now : RoomState) : Type 0 where
  pub bodies : List (List ℕ)
  pub texts : List ℕ
  pub is : whole ≡ texts ++ left
  pub one : (more : List ℕ) → first (texts ++ more) ≡ add_all bodies (next more)
  pub count : number ≡ length bodies
  pub past_is : past ≡ heard [] bodies
  pub written : Appends (out tells bodies) old now

-- and what the bank stands for
pub record Treated (Stands : List PlainAsdu → Type 0) (tells : Tells) (first : List ℕ → Records) (whole : List ℕ) (number : ℕ) (next : List ℕ → Records) (left : List ℕ) (old now : RoomState) : Type 0 where
  pub past : List PlainAsdu
  pub stands : Stands past
  pub done : IsTrue old.tells → Done tells first whole number next left past old now

pub treated-none : (stands : List PlainAsdu → Type 0) (tells : Tells) (first : List ℕ → Records) (whole : List ℕ) (room : RoomState) → stands [] → Treated stands tells first whole 0 first whole room room
unfolding heard items_from
treated-none stands tells first whole room it = record {
  past = [];
  stands = it;
  done = λ told. record { bodies = []; texts = []; is = refl; one = λ more. refl; count = refl; past_is = refl; written = Appends-nothing room };
}

pub same-place : {Stands : List PlainAsdu → Type 0} {tells : Tells} {first : List ℕ → Records} {whole : List ℕ} {number : ℕ} {next : List ℕ → Records} {left left' : List ℕ} {old now : RoomState} →
    left' ≡ left → Treated Stands tells first whole number next left old now → Treated Stands tells first whole number next left' old now
same-place {Stands} {tells} {first} {whole} {number} {next} {left} {left'} {old} {now} q t =
    subst (λ xs. Treated Stands tells first whole number next xs old now) (sym q) t

module _ (tells : Tells) (first : List ℕ → Records) (whole : List ℕ) where
  -- one record further
  pub treated-next : {stands : List PlainAsdu → Type 0} (stands' : List PlainAsdu → Type 0) {number captured : ℕ} {next after : List ℕ → Records} {bytes left left' : List ℕ} {old now mid new : RoomState} →
      (treated : Treated stands tells first whole number next left old now) → OnlyWorks old now → OnlyAt slots.Capture now mid →
      (IsTrue now.tells → Gives next after bytes captured left left') →
      (IsTrue mid.tells → Appends (frame_items tells (number + 1) treated.past (sv bytes captured)) mid new) → stands' (reverse (sets_of (sv bytes captured)) ++ treated.past) →
      Treated stands' tells first whole (number + 1) after left' old new
  treated-next stands' {number} {captured} {next} {after} {bytes} {left} {left'} {old} {now} {mid} {new} treated only read gives made it = record {
    past = reverse (sets_of (sv bytes captured)) ++ treated.past;
    stands = it;
    done = λ told.
        let d = treated.done told in
        let told_now : IsTrue now.tells = told_on only told in
        let given = gives told_now in
        let body : List ℕ = given.body in
        let read_is : sv bytes captured ≡ reading body = lent-reading captured bytes body given.long given.lent in
        let told_mid : IsTrue mid.tells = ap (λ (room : RoomState). room.tells) read.is ∙ told_now in
        record {
          bodies = d.bodies ++ body ∷ [];
          texts = d.texts ++ given.goes.prefix;
          is = d.is ∙ (ap (λ xs. d.texts ++ xs) given.goes.is ∙ sym (append_assoc d.texts given.goes.prefix left'));
          one = λ more. ap first (append_assoc d.texts given.goes.prefix more) ∙ (d.one (given.goes.prefix ++ more)
              ∙ (ap (add_all d.bodies) (given.goes.one more) ∙ add_all-push d.bodies body (after more)));
          count = let c = d.count in let l = length-append d.bodies (body ∷ []) in omega arith;
          past_is = ap (λ s. reverse (sets_of s) ++ treated.past) read_is ∙ (ap (λ p. reverse (sets_of (reading body)) ++ p) d.past_is ∙ sym (heard-push d.bodies body));
          written = subst (λ (items : List Item). Appends items old new)
              (ap (λ s. out tells d.bodies ++ frame_items tells (number + 1) treated.past s) read_is
              ∙ (ap (λ p. out tells d.bodies ++ frame_items tells (number + 1) p (reading body)) d.past_is
              ∙ (ap (λ k. out tells d.bodies ++ frame_items tells (k + 1) (heard [] d.bodies) (reading body)) d.count
              ∙ sym (out-push tells d.bodies body))))
              (Appends-more d.written (Appends-behind read (made told_mid)));
        };
  }

  -- a write of this record failed
  pub treated-stopped : {stands : List PlainAsdu → Type 0} {number captured : ℕ} {next after : List ℕ → Records} {bytes left left' : List ℕ} {old now mid : RoomState} (new : RoomState) (slot : Slot) →
      (treated : Treated stands tells first whole number next left old now) → OnlyWorks old now → OnlyAt slots.Capture now mid → OnlyWorks now mid →
      (IsTrue now.tells → Gives next after bytes captured left left') →
      FailsIn slot (frame_items tells (number + 1) treated.past (sv bytes captured)) mid new →
      FailsIn slot (out tells (first whole).bodies) old new
  treated-stopped {stands} {number} {captured} {next} {after} {bytes} {left} {left'} {old} {now} {mid} new slot treated only read works gives fails = record {
    output = fails.output;
    rose = let h = ((OnlyUses-trans only works).each slot).later in let r : Rose (at mid slot).faults (at new slot).faults = fails.rose in omega arith;
    stops = λ told.
        let d = treated.done told in
        let told_now : IsTrue now.tells = told_on only told in
        let given = gives told_now in
        let body : List ℕ = given.body in
        let rest : Records = after left' in
        let read_is : sv bytes captured ≡ reading body = lent-reading captured bytes body given.long given.lent in
        let told_mid : IsTrue mid.tells = ap (λ (room : RoomState). room.tells) read.is ∙ told_now in
        let found : first whole ≡ add_all d.bodies (add body rest) =
        ap first (d.is ∙ ap (λ xs. d.texts ++ xs) given.goes.is) ∙ (d.one (given.goes.prefix ++ left') ∙ ap (add_all d.bodies) (given.goes.one left')) in
        let items_are : frame_items tells (number + 1) treated.past (sv bytes captured) ≡ frame_items tells (length d.bodies + 1) (heard [] d.bodies) (reading body) =
        ap (frame_items tells (number + 1) treated.past) read_is ∙ (ap (λ p. frame_items tells (number + 1) p (reading body)) d.past_is ∙ ap (λ k. frame_items tells (k + 1) (heard [] d.bodies) (reading body)) d.count) in
        subst (λ (items : List Item). StopsAt slot items old new)
        (sym (ap (λ (r : Records). out tells r.bodies) found ∙ out-split tells d.bodies body rest.bodies))
        (StopsAt-lift (out tells d.bodies) (frame_items tells (length d.bodies + 1) (heard [] d.bodies) (reading body)) (items_from tells (length d.bodies + 1 + 1) (reverse (sets_of (reading body)) ++ heard [] d.bodies) rest.bodies)
        (Appends-before d.written read) (subst (λ (items : List Item). StopsAt slot items mid new) items_are (fails.stops told_mid)));
  }

  -- no further record comes
  pub treated-finished : {stands : List PlainAsdu → Type 0} {number : ℕ} {next : List ℕ → Records} {left : List ℕ} {old now new : RoomState} (stop : Stop) (end : Stopped) →
      Treated stands tells first whole number next left old now → OnlyWorks old now → OnlyAt slots.Capture now new →
      (IsTrue now.tells → next left ≡ stopped stop) → ending_of_stop end ≡ ending_at stop number →
      IsTrue old.tells → StopsAsFound tells (first whole) old new end
  treated-finished {stands} {number} {next} {left} {old} {now} {new} stop end treated only read stops ending_is told =
      let d = treated.done told in
      let none : add_all d.bodies (stopped stop) ≡ record { bodies = d.bodies; stop = stop } = ap (λ bs. let r : Records = record { bodies = bs; stop = stop } in r) (append-nil d.bodies) in
      let found : first whole ≡ record { bodies = d.bodies; stop = stop } =
      ap first d.is ∙ (d.one left ∙ (ap (add_all d.bodies) (stops (told_on only told)) ∙ none)) in
      subst (λ (r : Records). StopsAsFound tells r old new end) (sym found) (record { ending = ending_is ∙ ap (ending_at stop) d.count; written = Appends-before d.written read })

  -- a read failed where no further record stands
  treated-broken : {stands : List PlainAsdu → Type 0} {number : ℕ} {next : List ℕ → Records} {left : List ℕ} {old now new : RoomState} →
      Treated stands tells first whole number next left old now → OnlyWorks old now → OnlyAt slots.Capture now new →
      (IsTrue now.tells → HoldsNone next left new.capture.bytes) →
      IsTrue old.tells → BreaksOffAt tells first whole old new
  treated-broken {stands} {number} {next} {left} {old} {now} {new} treated only read holds told =
      let d = treated.done told in
      let h = holds (told_on only told) in
      let found : (first (d.texts ++ h.prefix)).bodies ≡ d.bodies =
      ap (λ (r : Records). r.bodies) (d.one h.prefix) ∙ (ap (λ bs. d.bodies ++ bs) h.none ∙ append-nil d.bodies) in
      record {
        front = d.texts ++ h.prefix;
        is = d.is ∙ (ap (λ xs. d.texts ++ xs) h.is ∙ sym (append_assoc d.texts h.prefix new.capture.bytes));
        written = subst (λ bs. Appends (out tells bs) old new) (sym found) (Appends-before d.written read);
        rest = items_from tells (1 + length d.bodies) (heard [] d.bodies) (next left).bodies;
        more = ap (λ (r : Records). out tells r.bodies) (ap first d.is ∙ d.one left)
            ∙ (items_from-append tells 1 [] d.bodies (next left).bodies
            ∙ ap (λ bs. out tells bs ++ items_from tells (1 + length d.bodies) (heard [] d.bodies) (next left).bodies) (sym found));
      }

  -- the feed stopped
  pub treated-halted : {stands : List PlainAsdu → Type 0} {number : ℕ} {next : List ℕ → Records} {old now : RoomState} (new : RoomState) (stop : FeedStop) →
      first whole ≡ first old.capture.bytes → whole ≡ old.capture.bytes →
      Treated stands tells first whole number next now.capture.bytes old now → OnlyWorks old now → OnlyAt slots.Capture now new → OnlyWorks old new →
      StopsAs next now new stop → Runs tells first old new (halted stop number)
  treated-halted {stands} {number} {next} {old} {now} new stop same whole_is treated only read works at = go stop at
    where
      go : (s : FeedStop) → StopsAs next now new s → Runs tells first old new (halted s number)
      go stops.Fault at = record {
        only = works;
        stops = tt;
        end = inl (record {
          capture = refl;
          rose = let r : Rose now.capture.faults new.capture.faults = at.0 in let l = (only.each slots.Capture).later in omega arith;
          at = subst (λ w. IsTrue old.tells → BreaksOffAt tells first w old new) whole_is (treated-broken treated only read at.1);
        });
      }
      go stops.NotCapture at = absurd at
      go stops.Cut at = record { only = works; stops = subst (λ r. IsTrue old.tells → StopsAsFound tells r old new (ends.Cut number)) same (treated-finished Cut (ends.Cut number) treated only read at refl); end = tt }
      go (stops.Damaged n) at = record { only = works; stops = subst (λ r. IsTrue old.tells → StopsAsFound tells r old new (ends.Damaged number n)) same (treated-finished (Damaged n) (ends.Damaged number n) treated only read at refl); end = tt }
      go stops.TooLong at = record { only = works; stops = subst (λ r. IsTrue old.tells → StopsAsFound tells r old new (ends.TooLong number)) same (treated-finished TooLong (ends.TooLong number) treated only read at refl); end = tt }
