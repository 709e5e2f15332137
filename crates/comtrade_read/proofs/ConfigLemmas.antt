-- The parts of a configuration, in the order in which they are read.
use Rattle.std.proofs.Common.{◌≡◌, ℕ, List, ◌∷◌, ◌++◌, append_assoc, codes, decimal, refl, sym, ◌∙◌, ap}
use Rattle.std.specs.List.{concat}
use Rattle.comtrade_read.specs.Numbers.{line_end, with_ends}
use Rattle.comtrade_read.specs.Moments.{moment_text, Moment, IsMoment}
use Rattle.comtrade_read.specs.Channels.{channel_lines, channels_text, form_text}
use Rattle.comtrade_read.specs.Configurations.{Configuration, IsConfiguration, IsName, IsNominal, IsRate, IsCount, configuration_text}

-- the lines between the station's and the nominal frequency's
abbrev middle : List ℕ
middle = concat (with_ends channel_lines)

abbrev pub behind_first : Configuration → List ℕ
behind_first c = moment_text c.trip ++ 13 ∷ 10 ∷ form_text

abbrev pub behind_samples : Configuration → List ℕ
behind_samples c = moment_text c.first ++ 13 ∷ 10 ∷ behind_first c

abbrev pub behind_nominal : Configuration → List ℕ
behind_nominal c = decimal c.rate ++ 44 ∷ (decimal c.count ++ 13 ∷ 10 ∷ behind_samples c)

abbrev pub behind_station : Configuration → List ℕ
behind_station c = decimal c.nominal ++ 13 ∷ 10 ∷ 49 ∷ 13 ∷ 10 ∷ behind_nominal c

shape : (name station line mid nominal one rate comma count rest : List ℕ)
    → ((name ++ station) ++ line) ++ (mid ++ ((nominal ++ line) ++ (one ++ ((((rate ++ comma) ++ count) ++ line) ++ rest))))
    ≡ name ++ (station ++ (line ++ (mid ++ (nominal ++ (line ++ (one ++ (rate ++ (comma ++ (count ++ (line ++ rest))))))))))
shape name station line mid nominal one rate comma count rest = simp append_assoc

pub configuration_parts : (c : Configuration) → configuration_text c ≡ c.name ++ 44 ∷ (channels_text ++ behind_station c)
unfolding configuration_text channels_text form_text
configuration_parts c =
    shape c.name (codes ",relay,1999") line_end middle (decimal c.nominal) (codes "1" ++ line_end) (decimal c.rate) (codes ",") (decimal c.count) (behind_samples c)

-- the configuration that these parts make
pub configuration_of : (text station nominal : List ℕ) (rate count : ℕ) (first trip form : List ℕ)
    → ((name : List ℕ) × IsName name × (text ≡ name ++ 44 ∷ (channels_text ++ station)))
    → ((n : ℕ) × IsNominal n × (station ≡ decimal n ++ 13 ∷ 10 ∷ 49 ∷ 13 ∷ 10 ∷ nominal))
    → IsRate rate × IsCount count × (nominal ≡ decimal rate ++ 44 ∷ (decimal count ++ 13 ∷ 10 ∷ first))
    → ((m : Moment) × IsMoment m × (first ≡ moment_text m ++ 13 ∷ 10 ∷ trip))
    → ((m : Moment) × IsMoment m × (trip ≡ moment_text m ++ 13 ∷ 10 ∷ form))
    → form ≡ form_text
    → (c : Configuration) × IsConfiguration c × (c.rate ≡ rate) × (c.count ≡ count) × (text ≡ configuration_text c)
configuration_of text station nominal rate count first trip form (name, is_name, e) (n, is_nominal, f) (is_rate, is_count, g) (m, is_first, h) (l, is_trip, i) j =
    let c : Configuration = record { name = name; nominal = n; rate = rate; count = count; first = m; trip = l } in (
      c,
      record { name = is_name; nominal = is_nominal; rate = is_rate; count = is_count; first = is_first; trip = is_trip },
      refl,
      refl,
      e ∙ ap (λ r. name ++ 44 ∷ (channels_text ++ r)) (f ∙ ap (λ r. decimal n ++ 13 ∷ 10 ∷ 49 ∷ 13 ∷ 10 ∷ r)
          (g ∙ ap (λ r. decimal rate ++ 44 ∷ (decimal count ++ 13 ∷ 10 ∷ r)) (h ∙ ap (λ r. moment_text m ++ 13 ∷ 10 ∷ r)
          (i ∙ ap (λ r. moment_text l ++ 13 ∷ 10 ∷ r) j)))) ∙ sym (configuration_parts c),
    )
