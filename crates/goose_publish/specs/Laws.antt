-- The publishing schedule of GOOSE (IEC 61850-8-1) without the bounds of its searches, and its counts at their end.
use Rattle.std.specs.Prelude.{ℕ, ◌≡◌, ◌<◌, ◌≤◌, ◌↔◌, ◌⊎◌, IsTrue, true, false, List, ◌∷◌, drop}
use Rattle.relay_settings.specs.declared.types.Common.{Common}
use Rattle.goose_publish.specs.Publishing.{PointsTake, RisesTo, number_now, changes_now, change_number, falls_at, is_due, sends_now, last_offset, state, sequence}

-- some take with this number changed the points, and no take with a greater number did
pub record IsNewestChange (takes : List PointsTake) (number : ℕ) : Type 0 where
  pub back : ℕ
  pub changes : IsTrue (changes_now (drop back takes))
  pub is : number_now (drop back takes) ≡ number
  pub none_above : (j : ℕ) → IsTrue (changes_now (drop j takes)) → number_now (drop j takes) ≤ number

abbrev pub ChangeIsNewest : Type 0
ChangeIsNewest =
    (t : PointsTake) (older : List PointsTake) →
    RisesTo t older → IsNewestChange (t ∷ older) (change_number (t ∷ older))

-- the offset k falls after the take before and not after the newest
abbrev pub FallsNow : Common → PointsTake → List PointsTake → ℕ → Type 0
FallsNow common newest older k =
    (number_now older < falls_at common (newest ∷ older) k) × (falls_at common (newest ∷ older) k ≤ newest.number)

-- a frame is sent exactly where the points change or some offset, however great, falls
abbrev pub EachOffsetCounts : Type 0
EachOffsetCounts =
    (common : Common) (t : PointsTake) (older : List PointsTake) → 1000 ≤ common.rate → 0 < common.heartbeat_ms →
    IsTrue (sends_now common (t ∷ older)) ↔ (IsTrue (changes_now (t ∷ older)) ⊎ ((k : ℕ) × FallsNow common t older k))

-- the offset doesn't fall after the newest take, and each greater one does
pub record IsGreatest (common : Common) (takes : List PointsTake) (last : ℕ) : Type 0 where
  pub here : falls_at common takes last ≤ number_now takes
  pub none_above : (k : ℕ) → falls_at common takes k ≤ number_now takes → k ≤ last

abbrev pub LastIsGreatest : Type 0
LastIsGreatest =
    (common : Common) (t : PointsTake) (older : List PointsTake) → 1000 ≤ common.rate → 0 < common.heartbeat_ms →
    RisesTo t older → IsGreatest common (t ∷ older) (last_offset common (t ∷ older))

-- after the greatest count of 32 bits a change has the count 1
abbrev pub StateGoesOnWith1 : Type 0
StateGoesOnWith1 =
    (t : PointsTake) (older : List PointsTake) →
    IsTrue (changes_now (t ∷ older)) → state older ≡ 4294967295 → state (t ∷ older) ≡ 1

-- and so does a repeated frame
abbrev pub SequenceGoesOnWith1 : Type 0
SequenceGoesOnWith1 =
    (common : Common) (t : PointsTake) (older : List PointsTake) →
    changes_now (t ∷ older) ≡ false → is_due common (t ∷ older) ≡ true →
    sequence common older ≡ 4294967295 → sequence common (t ∷ older) ≡ 1
