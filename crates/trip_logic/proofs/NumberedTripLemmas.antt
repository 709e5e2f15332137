-- The trip over samples is the trip over what is said at each of them.
use Rattle.std.proofs.Common.{◌≡◌, ◌≢◌, ℕ, ◌-◌, ◌+◌, Bool, false, not, ◌&&◌, leb, refl, sym, ap, ap₂, ◌∙◌, List, [], ◌∷◌, length, drop, inl, inr}
use Rattle.std.proofs.lemmas.Bool.{cases_Bool}
use Rattle.std.specs.Prelude.{◌==◌}
use Rattle.sample_windows.specs.Windows.{at_each}
use Rattle.sample_windows.specs.Numbered.{newest_number, up_to, Rises, held_for}
use Rattle.sample_windows.proofs.BelowLemmas.{any_below_same, all_below_same}
use Rattle.sample_windows.proofs.WindowLemmas.{drop-at_each, length-at_each}
use Rattle.trip_logic.specs.Seal.{ends, stands}
use Rattle.trip_logic.specs.Takes.{TripTake, number_of, operates_now, dead_now, Follows, is_on, changed, state_of}
use Rattle.trip_logic.specs.NumberedTrip.{trip_take, state_at, TripsByNumber}

module _ {X : Type 0} (number : X → ℕ) (operates dead : List X → Bool) (idle : operates [] ≡ false) (live : dead [] ≡ false) where
  abbrev take_at : List X → TripTake
  take_at = trip_take number operates dead

  operates_said : (samples : List X) → operates_now (at_each take_at samples) ≡ operates samples
  unfolding at_each
  operates_said [] = sym idle
  operates_said (x ∷ older) = refl

  dead_said : (samples : List X) → dead_now (at_each take_at samples) ≡ dead samples
  unfolding at_each
  dead_said [] = sym live
  dead_said (x ∷ older) = refl

  number_said : (samples : List X) → newest_number number_of (at_each take_at samples) ≡ newest_number number samples
  unfolding at_each
  number_said [] = refl
  number_said (x ∷ older) = refl

  up_to_said : (n : ℕ) (samples : List X) → up_to number_of n (at_each take_at samples) ≡ at_each take_at (up_to number n samples)
  unfolding at_each up_to
  up_to_said n [] = refl
  up_to_said n (x ∷ older) = elim (cases_Bool (number x == n)) [
    | inl e ↦ rw e refl
    | inr e ↦ rw e (up_to_said n older)
  ]

  held_said : (k : ℕ) (samples : List X) → held_for number_of k dead_now (at_each take_at samples) ≡ held_for number k dead samples
  unfolding held_for
  held_said k samples = ap₂ (λ a b. a && b) (ap (λ n. leb k (n + 1)) (number_said samples))
      (all_below_same k _ _ (λ i h. ap (λ n. dead_now (up_to number_of (n - i) (at_each take_at samples))) (number_said samples)
      ∙ ap dead_now (up_to_said (newest_number number samples - i) samples) ∙ dead_said (up_to number (newest_number number samples - i) samples)))

  ends_said : (least open_run began : ℕ) (samples : List X) →
      ends number_of operates_now dead_now least open_run began (at_each take_at samples) ≡ ends number operates dead least open_run began samples
  ends_said least open_run began samples = ap₂ (λ late rest. late && rest) (ap (leb (began + least)) (number_said samples))
      (ap₂ (λ op for_long. not op && for_long) (operates_said samples) (held_said open_run samples))

  -- the law
  pub is_on_numbered : (least open_run : ℕ) (samples : List X) →
      is_on least open_run (at_each take_at samples) ≡ stands number operates dead least open_run samples
  unfolding stands
  is_on_numbered least open_run samples = rw (length-at_each take_at samples)
      (any_below_same (length samples) _ _ (λ place within.
      rw (drop-at_each take_at place samples, operates_said (drop place samples), number_said (drop place samples))
      (ap (λ ended. operates (drop place samples) && not ended)
      (any_below_same place _ _ (λ later before.
      rw (drop-at_each take_at later samples)
      (ends_said least open_run (newest_number number (drop place samples)) (drop later samples)))))))

  pub state_numbered : (least open_run : ℕ) (samples : List X) →
      state_of least open_run (at_each take_at samples) ≡ state_at number operates dead least open_run samples
  unfolding at_each
  state_numbered least open_run [] = refl
  state_numbered least open_run (x ∷ older) =
      ap₂ changed (is_on_numbered least open_run older) (is_on_numbered least open_run (x ∷ older))

-- a trip's takes follow each other where the line is dead at no sample that follows a gap
pub follows_numbered : {X : Type 0} (number : X → ℕ) (operates dead : List X → Bool) →
    ((x y : X) (older : List X) → Rises number (x ∷ y ∷ older) → number x ≢ number y + 1 → dead (x ∷ y ∷ older) ≡ false) →
    (x : X) (older : List X) → Rises number (x ∷ older) →
    Follows (trip_take number operates dead (x ∷ older)) (at_each (trip_take number operates dead) older)
unfolding at_each
follows_numbered number operates dead breaks x [] r = tt
follows_numbered number operates dead breaks x (y ∷ older) r = (r.0, λ gap. breaks x y older r gap)

pub trips_by_number : (X : Type 0) → TripsByNumber X
trips_by_number X = record {
  on = λ number operates dead least open_run samples idle live. is_on_numbered number operates dead idle live least open_run samples;
  state = λ number operates dead least open_run samples idle live. state_numbered number operates dead idle live least open_run samples;
  follows = λ number operates dead. follows_numbered number operates dead;
}
