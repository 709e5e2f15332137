-- `drill`: the frames that were counted, and its end.
use Rattle.std.proofs.Common.{◌≡◌, ◌∙◌, ℕ, ◌+◌, ◌≤◌, List, [], ◌∷◌, ◌++◌, length, get_or, reverse, refl, sym, ap, subst, arith, append_assoc, append-nil, length-append}
use Rattle.std.specs.Prelude.{None, Some, is_some}
use Rattle.std.specs.List.{All}
use Rattle.std.proofs.lemmas.List.{take_all}
use Rattle.room_io.specs.Room.{RoomState, IsUnused}
use Rattle.sv_frame.specs.Asdu.{PlainAsdu}
use Rattle.sv_frame.specs.Frame.{sv}
use Rattle.relay_settings.specs.Settings.{PlainSettings}
use Rattle.station.specs.KeptStation.{StandsFor}
use Rattle.station.specs.declared.station.Station.{Station}
use Rattle.relay_tool.specs.Output.{reading, sets_of, heard}
use Rattle.relay_tool.specs.KeptTally.{Counts}
use Rattle.relay_tool.specs.declared.tally.Count.{Count}
use Rattle.relay_tool.proofs.Parting.{heard-append}
use Rattle.room_io.specs.declared.room.Slot.{Slot}
use Rattle.room_io.specs.declared.room.Slot.TheVariants.{Settings, Capture, Goose, Log, Config, Data, Note, Answer}
use Rattle.drill.specs.PlannedFrames.{frames_of}
use Rattle.drill.specs.DrillSettings.{drill_settings}
use Rattle.relay_tool.specs.Words.{drill, word}
use Rattle.relay_tool.specs.Files.{HasSettingsAlone, IsStarted}
use Rattle.relay_tool.specs.Tallies.{told_sum, events_of, sends_of, tally_of, summary, drill_summary}
use Rattle.relay_tool.proofs.Staging.{Laws, staged-none, unused-name, nothing, alone-unstarted}
use Rattle.relay_tool.proofs.Replaying.{Read}
use Rattle.relay_tool.proofs.Slots.{clash}

-- so many frames of all were counted, and these are left
pub record Drilled (all : List (List ℕ)) (frames : ℕ) (left : List (List ℕ)) : Type 0 where
  pub done : List (List ℕ)
  pub is : all ≡ done ++ left
  pub count : frames ≡ length done

-- the station has heard the frames that were counted
pub record DrillHeard (settings : PlainSettings) (all left : List (List ℕ)) (station : Station) (count : Count) : Type 0 where
  pub done : List (List ℕ)
  pub is : all ≡ done ++ left
  pub stands : StandsFor settings (heard [] done) station
  pub counts : Counts settings (heard [] done) count

-- one frame further
pub drilled-next : (all : List (List ℕ)) (frames : ℕ) (left next : List (List ℕ)) (frame : List ℕ) → left ≡ frame ∷ next → Drilled all frames left → Drilled all (frames + 1) next
drilled-next all frames left next frame is d = record {
  done = d.done ++ frame ∷ [];
  is = d.is ∙ (ap (λ xs. d.done ++ xs) is ∙ sym (append_assoc d.done (frame ∷ []) next));
  count = let l = length-append d.done (frame ∷ []) in let c = d.count in omega arith;
}

pub heard-none : (settings : PlainSettings) (all : List (List ℕ)) (station : Station) (count : Count) → StandsFor settings [] station → Counts settings [] count → DrillHeard settings all all station count
unfolding heard
heard-none settings all station count stands counts = record { done = []; is = refl; stands = stands; counts = counts }

-- a frame of at most 2048 bytes is read as a record is
reads-whole : (frame : List ℕ) → length frame ≤ 2048 → sv frame (length frame) ≡ reading frame
reads-whole frame short = ap (λ xs. sv xs (length frame)) (sym (take_all 2048 frame short))

heard-push : (bodies : List (List ℕ)) (body : List ℕ) → heard [] (bodies ++ body ∷ []) ≡ reverse (sets_of (reading body)) ++ heard [] bodies
unfolding heard
heard-push bodies body = heard-append [] bodies (body ∷ [])

pub heard-next : (settings : PlainSettings) (all left next : List (List ℕ)) (frame : List ℕ) (station after : Station) (count counted : Count) → left ≡ frame ∷ next → length frame ≤ 2048 →
    DrillHeard settings all left station count →
    ((past : List PlainAsdu) → StandsFor settings past station → StandsFor settings (reverse (sets_of (sv frame (length frame))) ++ past) after) →
    ((past : List PlainAsdu) → StandsFor settings past station → Counts settings past count → Counts settings (reverse (sets_of (sv frame (length frame))) ++ past) counted) →
    DrillHeard settings all next after counted
heard-next settings all left next frame station after count counted is short h stands counts =
    let past_is : reverse (sets_of (sv frame (length frame))) ++ heard [] h.done ≡ heard [] (h.done ++ frame ∷ []) =
    ap (λ s. reverse (sets_of s) ++ heard [] h.done) (reads-whole frame short) ∙ sym (heard-push h.done frame) in
    record {
      done = h.done ++ frame ∷ [];
      is = h.is ∙ (ap (λ xs. h.done ++ xs) is ∙ sym (append_assoc h.done (frame ∷ []) next));
      stands = subst (λ past. StandsFor settings past after) past_is (stands (heard [] h.done) h.stands);
      counts = subst (λ past. Counts settings past counted) past_is (counts (heard [] h.done) h.stands h.counts);
    }

-- a frame that is left has as many bytes as each
pub drilled-short : (all : List (List ℕ)) (frames : ℕ) (left next : List (List ℕ)) (frame : List ℕ) → left ≡ frame ∷ next → Drilled all frames left → All (λ f. length f ≡ 205) all → length frame ≡ 205
drilled-short all frames left next frame is d short =
    let all_is : all ≡ d.done ++ frame ∷ next = d.is ∙ ap (λ xs. d.done ++ xs) is in
    let len : length all ≡ length d.done + length (frame ∷ next) = ap length all_is ∙ length-append d.done (frame ∷ next) in
    ap length (sym (get_or-behind d.done frame next frame) ∙ ap (λ xs. get_or xs (length d.done) frame) (sym all_is)) ∙ short (length d.done) frame (omega arith)
  where
    get_or-behind : (xs : List (List ℕ)) (x : List ℕ) (ys : List (List ℕ)) (e : List ℕ) → get_or (xs ++ x ∷ ys) (length xs) e ≡ x
    get_or-behind [] x ys e = refl
    get_or-behind (z ∷ xs) x ys e = get_or-behind xs x ys e

-- fewer were counted than there are
pub drilled-few : (all : List (List ℕ)) (frames : ℕ) (left next : List (List ℕ)) (frame : List ℕ) → left ≡ frame ∷ next → Drilled all frames left → frames + 1 ≤ length all
drilled-few all frames left next frame is d =
    let len : length all ≡ length d.done + length (frame ∷ next) = ap length (d.is ∙ ap (λ xs. d.done ++ xs) is) ∙ length-append d.done (frame ∷ next) in
    let c = d.count in omega arith

pub drilled-all : (all : List (List ℕ)) (frames : ℕ) (left : List (List ℕ)) → left ≡ [] → Drilled all frames left → frames ≡ length all
drilled-all all frames left none d = d.count ∙ sym (ap length (d.is ∙ (ap (λ xs. d.done ++ xs) none ∙ append-nil d.done)))

pub heard-all : (settings : PlainSettings) (all left : List (List ℕ)) (station : Station) (count : Count) → left ≡ [] → DrillHeard settings all left station count → Counts settings (heard [] all) count
heard-all settings all left station count none h =
    subst (λ bodies. Counts settings (heard [] bodies) count) (sym (h.is ∙ (ap (λ xs. h.done ++ xs) none ∙ append-nil h.done))) h.counts

-- ---- its end

-- nothing was opened
pub drill-read : (seed seconds : ℕ) {a : RoomState} → IsUnused a → Laws a → Read (drill seed seconds) a a
drill-read seed seconds {a} unused law =
    let alone : HasSettingsAlone a = record { each = λ slot file ne. unused-name unused slot file } in
    record { unused = unused; stage = staged-none (Some (drill seed seconds)) unused; alone = alone; empty = nothing law (alone-unstarted alone) }

no-word : (seed seconds : ℕ) (slot : Slot) → word (drill seed seconds) slot ≡ None
no-word seed seconds Settings = refl
no-word seed seconds Capture = refl
no-word seed seconds Goose = refl
no-word seed seconds Log = refl
no-word seed seconds Config = refl
no-word seed seconds Data = refl
no-word seed seconds Note = refl
no-word seed seconds Answer = refl

pub drill-started : (seed seconds : ℕ) {a : RoomState} → IsUnused a → IsStarted (Some (drill seed seconds)) a
drill-started seed seconds {a} unused = record {
  named = λ slot file. unused-name unused slot file ∙ sym (no-word seed seconds slot);
  ready = λ slot file some. absurd (clash (sym some ∙ ap is_some (no-word seed seconds slot)));
}

-- what was counted is the summary
pub drill-text : (seed seconds frames : ℕ) (count : Count) (left : List (List ℕ)) (text : List ℕ) → left ≡ frames_of seed seconds → frames ≡ length left → Counts drill_settings (heard [] left) count →
    text ≡ summary (record { frames = frames; events = count.events; sends = count.sends; trips = count.trips }) → text ≡ drill_summary seed seconds
drill-text seed seconds frames count left text left_is frames_is counts text_is =
    text_is
    ∙ (ap (λ n. summary (record { frames = n; events = count.events; sends = count.sends; trips = count.trips })) frames_is
    ∙ (ap (λ n. summary (record { frames = length left; events = n; sends = count.sends; trips = count.trips })) counts.events
    ∙ (ap (λ n. summary (record { frames = length left; events = told_sum events_of drill_settings (heard [] left); sends = n; trips = count.trips })) counts.sends
    ∙ (ap (λ n. summary (record { frames = length left; events = told_sum events_of drill_settings (heard [] left); sends = told_sum sends_of drill_settings (heard [] left); trips = n })) counts.trips
    ∙ ap (λ bodies. summary (tally_of drill_settings bodies)) left_is))))
