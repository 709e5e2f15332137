-- The covered samples in order: their numbers rise within the window, and their values are small.
use Rattle.std.proofs.Common.{if◌then◌else◌, ◌≡◌, ℕ, ◌+◌, ◌-◌, ◌<◌, ◌≤◌, Bool, true, false, inl, inr, refl, arith, List, [], ◌∷◌, ◌++◌, length, Option, Some, None, ℤ, pos, unsigned_abs, replicate, min, unwrap_or}
use Rattle.std.proofs.lemmas.Bool.{cases_lt}
use Rattle.jiff_core.specs.Calendar.{IsWithin}
use Rattle.jiff_core.proofs.SignedLemmas.{signed_arith, one_part}
use Rattle.sample_windows.specs.Numbered.{Rises}
use Rattle.relay_num.specs.Bounds.{AllBelow, value_bound}
use Rattle.relay_settings.specs.declared.types.Common.{Common}
use Rattle.relay_settings.specs.Settings.{PlainLine}
use Rattle.sv_frame.specs.Asdu.{PlainAsdu}
use Rattle.sv_frame.specs.Channels.{channels_of}
use Rattle.sv_frame.specs.declared.channel.Channel.{Channel}
use Rattle.sample_stream.specs.Samples.{is_good, used_values}
use Rattle.sample_stream.proofs.SampleLemmas.{used_below}
use Rattle.line_relay.specs.LineSamples.{Numbered}
use Rattle.line_relay.specs.Outcomes.{number_taken, sample_in, with_sample, outcome_of, taken_samples}
use Rattle.comtrade_read.specs.Rows.{AreValues}
use Rattle.comtrade_write.specs.declared.covered.Recorded.{Recorded}
use Rattle.comtrade_write.specs.Covered.{recorded, from_to, number_of_recorded}
use Rattle.comtrade_write.specs.DataTexts.{six_of}
use Rattle.comtrade_write.proofs.NumberLemmas.{too_low, too_high, from_to-kept}

-- ---- values

within : (z : ℤ) → unsigned_abs z < value_bound → IsWithin 268435455 z
within z small = (omega (arith, signed_arith, one_part z), omega (arith, signed_arith, one_part z))

used_small : (good : Bool) (channels : List Channel) → (good ≡ true → AllBelow (used_values channels) value_bound)
    → AreValues (six_of (if good then record { values = used_values channels; good = true } else record { values = replicate 8 (pos 0); good = false }))
used_small true channels small =
    let all = small refl in (
      within _ (all 0 (pos 0) (omega arith)),
      (
        within _ (all 1 (pos 0) (omega arith)),
        (
          within _ (all 2 (pos 0) (omega arith)),
          (within _ (all 4 (pos 0) (omega arith)), (within _ (all 5 (pos 0) (omega arith)), (within _ (all 6 (pos 0) (omega arith)), tt))),
        ),
      ),
    )
used_small false channels small =
    let zero_within : IsWithin 268435455 (pos 0) = (omega (arith, signed_arith), omega (arith, signed_arith)) in
    (zero_within, (zero_within, (zero_within, (zero_within, (zero_within, (zero_within, tt))))))

-- the values of each sample are small
abbrev pub AreFine : List Recorded → Type 0
AreFine [] = Unit {0}
AreFine (r ∷ rest) = AreValues (six_of r.sample) × AreFine rest

abbrev AreFineTaken : List Numbered → Type 0
AreFineTaken [] = Unit {0}
AreFineTaken (s ∷ rest) = AreValues (six_of s.sample) × AreFineTaken rest

module _ (common : Common) (settings : PlainLine) where
  fine-next : (number : Option ℕ) (a : PlainAsdu) (ss : List Numbered) → AreValues (six_of (sample_in common settings a)) → AreFineTaken ss → AreFineTaken (with_sample common settings number a ss)
  fine-next None a ss here before = before
  fine-next (Some n) a ss here before = (here, before)

  fine-in : (a : PlainAsdu) → AreValues (six_of (sample_in common settings a))
  fine-in a = used_small (is_good settings.quality_mask settings.synch_min a.synch (unwrap_or (channels_of a.samples) [])) (unwrap_or (channels_of a.samples) []) (used_below settings.quality_mask settings.synch_min a.synch (unwrap_or (channels_of a.samples) []))

  fine-taken : (asdus : List PlainAsdu) → AreFineTaken (taken_samples common settings asdus)
  fine-taken [] = tt
  fine-taken (a ∷ older) = fine-next (number_taken (outcome_of common settings a older)) a (taken_samples common settings older) (fine-in a) (fine-taken older)

  fine-each : (ss : List Numbered) → AreFineTaken ss → AreFine (recorded common settings ss)
  fine-each [] fine = tt
  fine-each (s ∷ older) fine = (fine.0, fine-each older fine.1)

  pub fine-recorded : (asdus : List PlainAsdu) → AreFine (recorded common settings (taken_samples common settings asdus))
  fine-recorded asdus = fine-each (taken_samples common settings asdus) (fine-taken asdus)

-- ---- numbers

-- numbers from low to below top that rise, and small values
abbrev pub Covers : ℕ → ℕ → List Recorded → Type 0
Covers low top [] = Unit {0}
Covers low top (r ∷ rest) = (low ≤ r.number) × (r.number < top) × AreValues (six_of r.sample) × Covers (r.number + 1) top rest

grow : (low top more : ℕ) (xs : List Recorded) → top ≤ more → Covers low top xs → Covers low more xs
grow low top more [] h covers = tt
grow low top more (x ∷ xs) h covers = (covers.0, omega (arith, h, covers.1), covers.2, grow (x.number + 1) top more xs h covers.3)

push : (low : ℕ) (xs : List Recorded) (r : Recorded) → low ≤ r.number → AreValues (six_of r.sample) → Covers low r.number xs → Covers low (r.number + 1) (xs ++ r ∷ [])
push low [] r h fine covers = (h, omega arith, fine, tt)
push low (x ∷ xs) r h fine covers = (covers.0, omega (arith, covers.1), covers.2, push (x.number + 1) xs r (omega (arith, covers.1)) fine covers.3)

covers-older : (low high : ℕ) (next : Recorded) (rs : List Recorded) → Rises number_of_recorded (next ∷ rs) → AreFine rs
    → (top : ℕ) → top ≡ min next.number (high + 1) → Covers low top (from_to low high rs)
covers-older low high next [] rises fine top is = tt
covers-older low high next (r ∷ older) rises fine top is =
    let before = covers-older low high r older rises.1 fine.1 (min r.number (high + 1)) refl in
    elim (cases_lt r.number low) [
      | inl lt ↦ rw (too_low low high r lt) (grow low (min r.number (high + 1)) top (from_to low high older) (omega (arith, rises.0, is)) before)
      | inr ge ↦ elim (cases_lt high r.number) [
        | inl gt ↦ rw (too_high low high r gt) (grow low (min r.number (high + 1)) top (from_to low high older) (omega (arith, rises.0, is)) before)
        | inr le ↦ rw (from_to-kept low high r older ge le)
            (grow low (r.number + 1) top (from_to low high older ++ r ∷ []) (omega (arith, rises.0, is, le))
            (push low (from_to low high older) r ge fine.0 (grow low (min r.number (high + 1)) r.number (from_to low high older) (omega arith) before)))
      ]
    ]

-- what a record covers
pub covers-window : (low high : ℕ) (rs : List Recorded) → Rises number_of_recorded rs → AreFine rs → Covers low (high + 1) (from_to low high rs)
covers-window low high [] rises fine = tt
covers-window low high (r ∷ older) rises fine =
    let next : Recorded = record { number = r.number + high + 1; sample = r.sample; trip = r.trip } in
    covers-older low high next (r ∷ older) (omega arith, rises) fine (high + 1) (omega arith)

pub covers-few : (low top : ℕ) (xs : List Recorded) → Covers low top xs → length xs ≤ top - low
covers-few low top [] covers = omega arith
covers-few low top (x ∷ xs) covers = omega (arith, covers-few (x.number + 1) top xs covers.3, covers.0, covers.1)
