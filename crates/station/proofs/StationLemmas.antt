-- Which of a station's lines owns a sample set.
use Rattle.std.proofs.Common.{◌≡◌, ℕ, ◌<◌, ◌+◌, false, sym, subst, arith, List, length, get_or, inl, inr}
use Rattle.std.specs.Prelude.{Bool}
use Rattle.std.specs.Str.{bytes_eq}
use Rattle.std.proofs.lemmas.Bool.{cases_lt}
use Rattle.relay_settings.specs.Settings.{PlainLine, PlainSettings}
use Rattle.relay_settings.specs.declared.types.Common.{Common}
use Rattle.sv_frame.specs.Asdu.{PlainAsdu}
use Rattle.line_bank.specs.Owners.{owns}
use Rattle.line_relay.specs.KeptLine.{StandsFor as LineStandsFor}
use Rattle.line_relay.specs.declared.line.Line.{Line}
use Rattle.station.specs.KeptStation.{StandsFor}
use Rattle.station.specs.declared.station.Station.{Station}

-- what a line says of whether it owns a sample set
pub owns-is : (settings : PlainSettings) (past : List PlainAsdu) (station : Station) (a : PlainAsdu) (place : ℕ) (d : PlainLine) (line : Line) (result : Bool) → StandsFor settings past station →
    place < length station.lines.items → line ≡ get_or station.lines.items place line →
    ((common : Common) (s : PlainLine) (asdus : List PlainAsdu) → LineStandsFor common s asdus line → result ≡ bytes_eq s.sv_id a.sv_id) →
    owns (get_or settings.lines place d) a ≡ result
owns-is settings past station a place d line result stands within is says = sym (says _ _ _ (rw (← is) at (stands.each place d line (omega (arith, stands.count)))))

-- none before a place, and not there
pub none-next : (lines : List PlainLine) (a : PlainAsdu) (i : ℕ) → ((p : ℕ) (d : PlainLine) → p < i → owns (get_or lines p d) a ≡ false) → ((d : PlainLine) → owns (get_or lines i d) a ≡ false) →
    (p : ℕ) (d : PlainLine) → p < i + 1 → owns (get_or lines p d) a ≡ false
none-next lines a i none here p d h = elim (cases_lt p i) [
  | inl before ↦ none p d before
  | inr behind ↦ (let same : p ≡ i = omega arith in subst (λ q. owns (get_or lines q d) a ≡ false) (sym same) (here d))
]

-- a station with the same lines
pub stands-lines : (settings : PlainSettings) (past : List PlainAsdu) (station next : Station) → next.lines.items ≡ station.lines.items → StandsFor settings past station → StandsFor settings past next
stands-lines settings past station next same stands = rw same stands
