use Rattle.std.proofs.Common.{◌≡◌, ◌≤◌, ◌∷◌, ◌++◌, ◌∙◌, ap, List, ℕ, Bor, length}
use Rattle.std.specs.List.{AllByRecursion}
use Rattle.comtrade_read.specs.Channels.{channels_text}
use Rattle.comtrade_read.specs.Configurations.{IsName}
use Rattle.comtrade_read.proofs.DigitLemmas.{some_map}
use Rattle.comtrade_read.proofs.MomentLemmas.{told, refuted}
use Rattle.comtrade_read.proofs.config.read_station.Goals as goal

pub returns-in_err-name-clause-complete : goal.returns-in_err-name-clause-complete
returns-in_err-name-clause-complete c name rest of is = absurd (c.in_err-name.ensures.complete name (channels_text ++ rest) of.no_comma is)

pub returns-then-is_name-clause-sound : goal.returns-then-is_name-clause-sound
returns-then-is_name-clause-sound c =
    let test = told c.is_name.result c.if-is_name.true c.is_name.ensures in
    let of : IsName c.in_ok-name.name.now = record { short = (test.0, test.1); printable = test.2; no_comma = c.in_ok-name.ensures.free } in
    let P : Bor (List ℕ) → Type 0 = λ left. (name : List ℕ) × IsName name × (c.args.text.now ≡ name ++ 44 ∷ (channels_text ++ left.now)) in
    let each : (left : Bor (List ℕ)) → c.in_ok-name.rest.now ≡ channels_text ++ left.now → P left = λ left e. (c.in_ok-name.name.now, of, c.in_ok-name.ensures.sound ∙ ap (λ r. c.in_ok-name.name.now ++ 44 ∷ r) e) in
    some_map c.read_channels.result (λ left. c.in_ok-name.rest.now ≡ channels_text ++ left.now) P each c.read_channels.ensures.sound

pub returns-then-is_name-clause-complete : goal.returns-then-is_name-clause-complete
returns-then-is_name-clause-complete c name rest of is =
    c.read_channels.ensures.complete rest (c.in_ok-name.ensures.complete name (channels_text ++ rest) of.no_comma is).1

pub returns-else-is_name-clause-complete : goal.returns-else-is_name-clause-complete
returns-else-is_name-clause-complete c name rest of is =
    let same = (c.in_ok-name.ensures.complete name (channels_text ++ rest) of.no_comma is).0 in
    let here : (1 ≤ length c.in_ok-name.name.now) × (length c.in_ok-name.name.now ≤ 16) × AllByRecursion (λ b. (33 ≤ b) × (b ≤ 126)) c.in_ok-name.name.now = rw same (of.short.0, of.short.1, of.printable) in
    refuted c.is_name.result c.if-is_name.false c.is_name.ensures here
