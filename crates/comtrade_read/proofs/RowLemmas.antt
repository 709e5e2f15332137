-- The parts of a line of the data, in the order in which they are read.
use Rattle.std.proofs.Common.{◌≡◌, ℕ, List, [], ◌∷◌, ◌++◌, append_assoc, length, refl, ℤ, sym, ◌∙◌, ap, arith, Bool, decimal, ◌≤◌}
use Rattle.std.specs.Fmt.{signed_decimal}
use Rattle.jiff_core.specs.Calendar.{IsWithin}
use Rattle.comtrade_read.specs.declared.data.PairSample.{PairSample}
use Rattle.comtrade_read.specs.Rows.{IsSample, AreValues, flag_text, row_text}

-- six values, one by one
pub record AreSix (values : List ℤ) : Type 0 where
  pub a : ℤ
  pub b : ℤ
  pub c : ℤ
  pub d : ℤ
  pub e : ℤ
  pub f : ℤ
  pub same : values ≡ a ∷ b ∷ c ∷ d ∷ e ∷ f ∷ []
  pub each : AreValues (a ∷ b ∷ c ∷ d ∷ e ∷ f ∷ [])

pub are_six : (values : List ℤ) → length values ≡ 6 → AreValues values → AreSix values
are_six (a ∷ b ∷ c ∷ d ∷ e ∷ f ∷ []) long each = record { a = a; b = b; c = c; d = d; e = e; f = f; same = refl; each = each }
are_six (a ∷ b ∷ c ∷ d ∷ e ∷ f ∷ g ∷ rest) long each = absurd (omega arith)
are_six [] long each = absurd (omega arith)
are_six (a ∷ []) long each = absurd (omega arith)
are_six (a ∷ b ∷ []) long each = absurd (omega arith)
are_six (a ∷ b ∷ c ∷ []) long each = absurd (omega arith)
are_six (a ∷ b ∷ c ∷ d ∷ []) long each = absurd (omega arith)
are_six (a ∷ b ∷ c ∷ d ∷ e ∷ []) long each = absurd (omega arith)

abbrev pub behind_values : Bool → Bool → List ℕ → List ℕ
behind_values good trip rest = flag_text good ++ 44 ∷ (flag_text trip ++ 13 ∷ 10 ∷ rest)

abbrev pub three : ℤ → ℤ → ℤ → List ℕ → List ℕ
three x y z rest = signed_decimal x ++ 44 ∷ (signed_decimal y ++ 44 ∷ (signed_decimal z ++ 44 ∷ rest))

shape : (i comma micros va vb vc vd ve vf good trip line rest : List ℕ)
    → (((((((i ++ comma) ++ micros) ++ comma) ++ ((va ++ comma) ++ ((vb ++ comma) ++ ((vc ++ comma) ++ ((vd ++ comma) ++ ((ve ++ comma) ++ ((vf ++ comma) ++ []))))))) ++ good) ++ comma) ++ trip) ++ line ++ rest
    ≡ i ++ (comma ++ (micros ++ (comma ++ (va ++ (comma ++ (vb ++ (comma ++ (vc ++ (comma ++ (vd ++ (comma ++ (ve ++ (comma ++ (vf ++ (comma ++ (good ++ (comma ++ (trip ++ (line ++ rest)))))))))))))))))))
shape i comma micros va vb vc vd ve vf good trip line rest = simp append_assoc

pub row_parts : (i : ℕ) (micros : ℕ) (a b c d e f : ℤ) (good trip : Bool) (rest : List ℕ)
    → row_text i (record { micros = micros; values = a ∷ b ∷ c ∷ d ∷ e ∷ f ∷ []; good = good; trip = trip }) ++ rest
    ≡ decimal i ++ 44 ∷ (decimal micros ++ 44 ∷ three a b c (three d e f (behind_values good trip rest)))
row_parts i micros a b c d e f good trip rest =
    shape (decimal i) (44 ∷ []) (decimal micros) (signed_decimal a) (signed_decimal b) (signed_decimal c) (signed_decimal d) (signed_decimal e) (signed_decimal f) (flag_text good) (flag_text trip) (13 ∷ 10 ∷ []) rest

abbrev pub with_values : PairSample → List ℤ → PairSample
with_values s values = record { micros = s.micros; values = values; good = s.good; trip = s.trip }

pub row_said : (i : ℕ) (s : PairSample) (rest : List ℕ) (six : AreSix s.values)
    → row_text i s ++ rest ≡ decimal i ++ 44 ∷ (decimal s.micros ++ 44 ∷ three six.a six.b six.c (three six.d six.e six.f (behind_values s.good s.trip rest)))
row_said i s rest six =
    ap (λ values. row_text i (with_values s values) ++ rest) six.same ∙ row_parts i s.micros six.a six.b six.c six.d six.e six.f s.good s.trip rest

-- the sample whose parts these are
pub row_same : (s : PairSample) (six : AreSix s.values) (micros : ℕ) (a b c d e f : ℤ) (good trip : Bool)
    → micros ≡ s.micros → a ≡ six.a → b ≡ six.b → c ≡ six.c → d ≡ six.d → e ≡ six.e → f ≡ six.f → good ≡ s.good → trip ≡ s.trip
    → record { micros = micros; values = a ∷ b ∷ c ∷ d ∷ e ∷ f ∷ []; good = good; trip = trip } ≡ s
row_same s six micros a b c d e f good trip im ia ib ic id ie if_ ig it =
    rw (im, ia, ib, ic, id, ie, if_, ig, it) (ap (λ values. with_values s values) (sym six.same))

pub row_sound : (text times voltages words rest : List ℕ) (i least micros : ℕ) (a b c d e f a' b' c' d' e' f' : ℤ) (good trip : Bool)
    → a' ≡ a → b' ≡ b → c' ≡ c → d' ≡ d → e' ≡ e → f' ≡ f
    → (text ≡ decimal i ++ 44 ∷ (decimal micros ++ 44 ∷ times)) × (least ≤ micros) × (micros ≤ 144000)
    → (times ≡ three a b c voltages) × IsWithin 268435455 a × IsWithin 268435455 b × IsWithin 268435455 c
    → (voltages ≡ three d e f words) × IsWithin 268435455 d × IsWithin 268435455 e × IsWithin 268435455 f
    → words ≡ behind_values good trip rest
    → (text ≡ row_text i (record { micros = micros; values = a' ∷ b' ∷ c' ∷ d' ∷ e' ∷ f' ∷ []; good = good; trip = trip }) ++ rest)
    × (least ≤ micros) × IsSample (record { micros = micros; values = a' ∷ b' ∷ c' ∷ d' ∷ e' ∷ f' ∷ []; good = good; trip = trip })
row_sound text times voltages words rest i least micros a b c d e f a' b' c' d' e' f' good trip ia ib ic id ie if_ time current voltage flags =
    rw (ia, ib, ic, id, ie, if_) (
      time.0 ∙ ap (λ r. decimal i ++ 44 ∷ (decimal micros ++ 44 ∷ r)) (current.0 ∙ ap (λ r. three a b c r) (voltage.0 ∙ ap (λ r. three d e f r) flags)) ∙ sym (row_parts i micros a b c d e f good trip rest),
      time.1,
      record { six = refl; values = (current.1, (current.2, (current.3, (voltage.1, (voltage.2, (voltage.3, tt)))))); micros = time.2 },
    )
