-- What was read of the settings is accepted as the whole file is.
use Rattle.std.proofs.Common.{◌≡◌, inl, inr, ℕ, ◌<◌, false, IsTrue, List, [], length, take, drop, refl, sym, ◌∙◌, ap, arith, min, length-take}
use Rattle.std.specs.Prelude.{Some, Err, unwrap_or, codes, nat_le}
use Rattle.std.proofs.lemmas.List.{take_all}
use Rattle.std.proofs.lemmas.Bool.Decides.{nat_tests}
use Rattle.capture_feed.proofs.Asking.{either_way}
use Rattle.room_io.specs.Room.{RoomState, content}
use Rattle.settings_read.specs.Walk.{refused as refusal}
use Rattle.settings_read.specs.Accepted.{accepted}
use Rattle.settings_read.specs.View.{Fails}
use Rattle.settings_read.specs.declared.error.SettingsError.{SettingsError}
use Rattle.settings_read.specs.declared.error.SettingsError.TheVariants.{NoMemory, Refused}
use Rattle.relay_tool.specs.Run.{content_of, most_settings}
use Rattle.relay_tool.specs.Accepting.{SettingsEnd, stop_of_error}

too_large : (bytes : List ℕ) → 1048576 < length bytes → accepted bytes ≡ Err (refusal 1 (codes "file"))
unfolding accepted
too_large bytes h = let large : nat_le (length bytes) 1048576 ≡ false = grind (arith, nat_tests) in rw large refl

-- one byte beyond the limit shows that a file is too large
front-accepted : (most : ℕ) (bytes : List ℕ) → most ≡ 1048577 → accepted (take most bytes) ≡ accepted bytes
front-accepted most bytes most_is = elim (either_way (length bytes) most) [
  | inl short ↦ ap accepted (take_all most bytes short)
  | inr long ↦
      let len : length (take most bytes) ≡ min most (length bytes) = length-take most bytes in
      too_large (take most bytes) (omega arith) ∙ sym (too_large bytes (omega arith))
]

pub accepts : (most : ℕ) (contents : List (List ℕ × List ℕ)) (name left text : List ℕ) → most ≡ 1048577 → content contents name ≡ Some left → text ≡ take most left →
    accepted (content_of contents name) ≡ accepted text
accepts most contents name left text most_is there front =
    ap (λ o. accepted (unwrap_or o [])) there ∙ (sym (front-accepted most left most_is) ∙ ap accepted (sym front))

-- what is left behind the bytes that were read
pub leaves-rest : (contents : List (List ℕ × List ℕ)) (name whole left : List ℕ) → content contents name ≡ Some whole → left ≡ drop most_settings whole → left ≡ drop most_settings (content_of contents name)
leaves-rest contents name whole left there rest = rest ∙ ap (λ o. drop most_settings (unwrap_or o [])) (sym there)

-- why there are no settings
pub settings-error : (name : List ℕ) (old new : RoomState) (error : SettingsError) (text : List ℕ) → (IsTrue old.tells → accepted (content_of old.contents name) ≡ accepted text) → Fails error (accepted text) →
    (IsTrue old.tells → new.settings.bytes ≡ drop most_settings (content_of old.contents name)) →
    SettingsEnd name old new (stop_of_error error)
settings-error name old new NoMemory text same fails left = tt
settings-error name old new (Refused number key) text same fails left = λ told. record { accepted = same told ∙ sym fails; left = left told }
