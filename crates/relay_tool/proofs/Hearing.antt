-- Loops over what is written and heard.
use Rattle.std.proofs.Common.{◌≡◌, ℕ, ◌+◌, ◌≤◌, ◌<◌, List, [], ◌∷◌, ◌++◌, length, map, take, drop, reverse, get_or, sym, ◌∙◌, ap, subst, append-nil}
use Rattle.std.specs.Prelude.{Ok, Err}
use Rattle.std.proofs.lemmas.List.{take_more, take_all, drop_more, take-append-drop, map-append}
use Rattle.sample_windows.specs.Windows.{in_order}
use Rattle.sample_windows.proofs.WindowLemmas.{past_next}
use Rattle.room_io.specs.Room.{RoomState}
use Rattle.sv_frame.specs.Asdu.{PlainAsdu}
use Rattle.relay_tool.specs.Output.{Item, Tells}
use Rattle.relay_tool.specs.Making.{Makes}
use Rattle.relay_tool.specs.declared.put.Failed.{Failed}
use Rattle.relay_tool.proofs.Writing.{Makes-more, Makes-stop}
use Rattle.relay_tool.proofs.Parting.{in_order-append}

-- ---- events

pub events-made : {X : Type 0} (f : X → Item) (xs : List X) (i : ℕ) (d : X) {a b c : RoomState} → i < length xs →
    Makes (map f (take i xs)) a b (Ok tt) → Makes (f (get_or xs i d) ∷ []) b c (Ok tt) → Makes (map f (take (i + 1) xs)) a c (Ok tt)
events-made f xs i d {a} {b} {c} h p q =
    subst (λ (items : List Item). Makes items a c (Ok tt)) (sym (ap (map f) (take_more xs i d h) ∙ map-append f (take i xs) (get_or xs i d ∷ []))) (Makes-more (Ok tt) p q)

pub events-stopped : {X : Type 0} (f : X → Item) (xs : List X) (i : ℕ) (d : X) {a b c : RoomState} {e : Failed} → i < length xs →
    Makes (map f (take i xs)) a b (Ok tt) → Makes (f (get_or xs i d) ∷ []) b c (Err e) → Makes (map f xs) a c (Err e)
events-stopped f xs i d {a} {b} {c} {e} h p q =
    subst (λ (items : List Item). Makes items a c (Err e))
    (sym (ap (map f) (sym (take-append-drop i xs)) ∙ map-append f (take i xs) (drop i xs) ∙ ap (λ ys. map f (take i xs) ++ map f ys) (drop_more xs i d h)))
    (Makes-stop (map f (drop (i + 1) xs)) p q)

pub events-done : {X : Type 0} (f : X → Item) (xs : List X) (i : ℕ) {a b : RoomState} → length xs ≤ i → Makes (map f (take i xs)) a b (Ok tt) → Makes (map f xs) a b (Ok tt)
events-done f xs i {a} {b} h p = subst (λ ys. Makes (map f ys) a b (Ok tt)) (take_all i xs h) p

-- ---- sample sets

pub past-next : (past asdus : List PlainAsdu) (i : ℕ) (a d : PlainAsdu) → i < length asdus → get_or asdus i d ≡ a → reverse (take (i + 1) asdus) ++ past ≡ a ∷ (reverse (take i asdus) ++ past)
past-next past asdus i a d h is = past_next asdus past i d h ∙ ap (λ x. x ∷ (reverse (take i asdus) ++ past)) is

-- one sample set further
pub sets-made : (tells : Tells) (past asdus : List PlainAsdu) (i : ℕ) (a d : PlainAsdu) {x y z : RoomState} → i < length asdus → get_or asdus i d ≡ a →
    Makes (in_order tells past (take i asdus)) x y (Ok tt) → Makes (tells (a ∷ (reverse (take i asdus) ++ past))) y z (Ok tt) → Makes (in_order tells past (take (i + 1) asdus)) x z (Ok tt)
sets-made tells past asdus i a d {x} {y} {z} h is p q =
    subst (λ (items : List Item). Makes items x z (Ok tt))
    (sym (ap (in_order tells past) (take_more asdus i d h)
    ∙ in_order-append tells past (take i asdus) (get_or asdus i d ∷ [])
    ∙ ap (λ items. in_order tells past (take i asdus) ++ items) (append-nil (tells (get_or asdus i d ∷ (reverse (take i asdus) ++ past))) ∙ ap (λ s. tells (s ∷ (reverse (take i asdus) ++ past))) is)))
    (Makes-more (Ok tt) p q)

pub sets-stopped : (tells : Tells) (past asdus : List PlainAsdu) (i : ℕ) (a d : PlainAsdu) {x y z : RoomState} {e : Failed} → i < length asdus → get_or asdus i d ≡ a →
    Makes (in_order tells past (take i asdus)) x y (Ok tt) → Makes (tells (a ∷ (reverse (take i asdus) ++ past))) y z (Err e) → Makes (in_order tells past asdus) x z (Err e)
sets-stopped tells past asdus i a d {x} {y} {z} {e} h is p q =
    subst (λ (items : List Item). Makes items x z (Err e))
    (sym (ap (in_order tells past) (sym (take-append-drop i asdus))
    ∙ in_order-append tells past (take i asdus) (drop i asdus)
    ∙ ap (λ rest. in_order tells past (take i asdus) ++ in_order tells (reverse (take i asdus) ++ past) rest) (drop_more asdus i d h ∙ ap (λ s. s ∷ drop (i + 1) asdus) is)))
    (Makes-stop (in_order tells (a ∷ (reverse (take i asdus) ++ past)) (drop (i + 1) asdus)) p q)

pub sets-done : (tells : Tells) (past asdus : List PlainAsdu) (i : ℕ) {x y : RoomState} → length asdus ≤ i → Makes (in_order tells past (take i asdus)) x y (Ok tt) → Makes (in_order tells past asdus) x y (Ok tt)
sets-done tells past asdus i {x} {y} h p = subst (λ ys. Makes (in_order tells past ys) x y (Ok tt)) (take_all i asdus h) p
