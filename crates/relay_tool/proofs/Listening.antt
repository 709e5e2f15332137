-- Record after record, heard.
use Rattle.std.proofs.Common.{◌≡◌, ℕ, ◌+◌, ◌≤◌, IsTrue, List, [], ◌∷◌, ◌++◌, length, reverse, refl, sym, ◌∙◌, ap, subst, arith, append_assoc, append-nil, length-append}
use Rattle.room_io.specs.Room.{RoomState, Rose, OnlyAt, Stays}
use Rattle.room_io.specs.declared.room.Slot.TheVariants as slots
use Rattle.capture_feed.specs.Records.{Records, Stop, Damaged, Cut, TooLong, stopped}
use Rattle.capture_feed.specs.declared.stop.FeedStop.{FeedStop}
use Rattle.capture_feed.specs.declared.stop.FeedStop.TheVariants as stops
use Rattle.capture_feed.specs.Answers.{Gives, StopsAs}
use Rattle.sv_frame.specs.Asdu.{PlainAsdu}
use Rattle.sv_frame.specs.Frame.{sv}
use Rattle.relay_tool.specs.Output.{reading, sets_of, heard}
use Rattle.relay_tool.specs.Run.{ending_at}
use Rattle.relay_tool.specs.Running.{ending_of_stop, halted}
use Rattle.relay_tool.specs.Listening.{HeardAsFound, Listens}
use Rattle.relay_tool.specs.declared.run.Stopped.{Stopped}
use Rattle.relay_tool.specs.declared.run.Stopped.TheVariants as ends
use Rattle.relay_tool.proofs.Slots.{told_at}
use Rattle.relay_tool.proofs.Treating.{add_all, add_all-push, heard-push, lent-reading}

-- what was heard of a capture in a room that tells
pub record HeardUpTo (first : List ℕ → Records) (whole : List ℕ) (number : ℕ) (next : List ℕ → Records) (left : List ℕ) (past : List PlainAsdu) : Type 0 where
  pub bodies : List (List ℕ)
  pub texts : List ℕ
  pub is : whole ≡ texts ++ left
  pub one : (more : List ℕ) → first (texts ++ more) ≡ add_all bodies (next more)
  pub count : number ≡ length bodies
  pub past_is : past ≡ heard [] bodies

-- and what the recorder stands for
pub record Heeded (Stands : List PlainAsdu → Type 0) (first : List ℕ → Records) (whole : List ℕ) (number : ℕ) (next : List ℕ → Records) (left : List ℕ) (old : RoomState) : Type 0 where
  pub past : List PlainAsdu
  pub stands : Stands past
  pub done : IsTrue old.tells → HeardUpTo first whole number next left past

pub heeded-none : (stands : List PlainAsdu → Type 0) (first : List ℕ → Records) (whole : List ℕ) (room : RoomState) → stands [] → Heeded stands first whole 0 first whole room
unfolding heard
heeded-none stands first whole room it = record {
  past = [];
  stands = it;
  done = λ told. record { bodies = []; texts = []; is = refl; one = λ more. refl; count = refl; past_is = refl };
}

module _ (first : List ℕ → Records) (whole : List ℕ) where
  -- one record further
  pub heeded-next : {stands : List PlainAsdu → Type 0} (stands' : List PlainAsdu → Type 0) {number captured : ℕ} {next after : List ℕ → Records} {bytes left left' : List ℕ} {old now : RoomState} →
      (heeded : Heeded stands first whole number next left old) → OnlyAt slots.Capture old now →
      (IsTrue now.tells → Gives next after bytes captured left left') → stands' (reverse (sets_of (sv bytes captured)) ++ heeded.past) →
      Heeded stands' first whole (number + 1) after left' old
  heeded-next stands' {number} {captured} {next} {after} {bytes} {left} {left'} {old} {now} heeded only gives it = record {
    past = reverse (sets_of (sv bytes captured)) ++ heeded.past;
    stands = it;
    done = λ told.
        let d = heeded.done told in
        let given = gives (told_at only told) in
        let body : List ℕ = given.body in
        let read_is : sv bytes captured ≡ reading body = lent-reading captured bytes body given.long given.lent in
        record {
          bodies = d.bodies ++ body ∷ [];
          texts = d.texts ++ given.goes.prefix;
          is = d.is ∙ (ap (λ xs. d.texts ++ xs) given.goes.is ∙ sym (append_assoc d.texts given.goes.prefix left'));
          one = λ more. ap first (append_assoc d.texts given.goes.prefix more) ∙ (d.one (given.goes.prefix ++ more)
              ∙ (ap (add_all d.bodies) (given.goes.one more) ∙ add_all-push d.bodies body (after more)));
          count = let c = d.count in let l = length-append d.bodies (body ∷ []) in omega arith;
          past_is = ap (λ s. reverse (sets_of s) ++ heeded.past) read_is ∙ (ap (λ p. reverse (sets_of (reading body)) ++ p) d.past_is ∙ sym (heard-push d.bodies body));
        };
  }

  -- no further record comes
  pub heeded-finished : {stands : List PlainAsdu → Type 0} {number : ℕ} {next : List ℕ → Records} {left : List ℕ} {old now : RoomState} (stop : Stop) (end : Stopped) →
      Heeded stands first whole number next left old → OnlyAt slots.Capture old now →
      (IsTrue now.tells → next left ≡ stopped stop) → ending_of_stop end ≡ ending_at stop number →
      IsTrue old.tells → HeardAsFound stands (first whole) end
  heeded-finished {stands} {number} {next} {left} {old} {now} stop end heeded only stops ending_is told =
      let d = heeded.done told in
      let none : add_all d.bodies (stopped stop) ≡ record { bodies = d.bodies; stop = stop } = ap (λ bs. let r : Records = record { bodies = bs; stop = stop } in r) (append-nil d.bodies) in
      let found : first whole ≡ record { bodies = d.bodies; stop = stop } =
      ap first d.is ∙ (d.one left ∙ (ap (add_all d.bodies) (stops (told_at only told)) ∙ none)) in
      subst (λ (r : Records). HeardAsFound stands r end) (sym found) (record { ending = ending_is ∙ ap (ending_at stop) d.count; stands = subst stands d.past_is heeded.stands })

  -- the feed stopped
  pub heeded-halted : {stands : List PlainAsdu → Type 0} {number : ℕ} {next : List ℕ → Records} {old now : RoomState} (new : RoomState) (stop : FeedStop) →
      whole ≡ old.capture.bytes →
      Heeded stands first whole number next now.capture.bytes old → OnlyAt slots.Capture old now → OnlyAt slots.Capture old new → Stays old.capture new.capture →
      old.capture.faults ≤ now.capture.faults → now.capture.faults ≤ new.capture.faults →
      StopsAs next now new stop → Listens stands first old new (halted stop number)
  heeded-halted {stands} {number} {next} {old} {now} new stop whole_is heeded before only stays sooner later at = go stop at
    where
      found-at : (end : Stopped) → (IsTrue old.tells → HeardAsFound stands (first whole) end) → IsTrue old.tells → HeardAsFound stands (first old.capture.bytes) end
      found-at end says told = subst (λ xs. HeardAsFound stands (first xs) end) whole_is (says told)

      go : (s : FeedStop) → StopsAs next now new s → Listens stands first old new (halted s number)
      go stops.Fault at = record {
        only = only;
        stays = stays;
        later = omega arith;
        past = heeded.past;
        stands = heeded.stands;
        stops = tt;
        end = record { capture = refl; rose = let r : Rose now.capture.faults new.capture.faults = at.0 in omega arith };
      }
      go stops.NotCapture at = absurd at
      go stops.Cut at = record { only = only; stays = stays; later = omega arith; past = heeded.past; stands = heeded.stands; stops = found-at (ends.Cut number) (heeded-finished Cut (ends.Cut number) heeded before at refl); end = tt }
      go (stops.Damaged n) at = record { only = only; stays = stays; later = omega arith; past = heeded.past; stands = heeded.stands; stops = found-at (ends.Damaged number n) (heeded-finished (Damaged n) (ends.Damaged number n) heeded before at refl); end = tt }
      go stops.TooLong at = record { only = only; stays = stays; later = omega arith; past = heeded.past; stands = heeded.stands; stops = found-at (ends.TooLong number) (heeded-finished TooLong (ends.TooLong number) heeded before at refl); end = tt }
