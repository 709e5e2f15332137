-- The lines of a pair, written one after another.
use Rattle.std.proofs.Common.{◌≡◌, ℕ, zero, suc, ◌+◌, ◌<◌, List, [], ◌∷◌, length, map, take, refl, sym, ap, subst, arith}
use Rattle.std.specs.Prelude.{slice_get, Ok, Err, Option, Some, None}
use Rattle.std.proofs.lemmas.Option.{get_or_from_slice_get}
use Rattle.room_io.specs.Room.{RoomState}
use Rattle.relay_settings.specs.declared.types.Common.{Common}
use Rattle.relay_settings.specs.Settings.{PlainLine}
use Rattle.sv_frame.specs.Asdu.{PlainAsdu}
use Rattle.comtrade_write.specs.declared.covered.Recorded.{Recorded}
use Rattle.comtrade_write.specs.declared.covered.Span.{Span}
use Rattle.comtrade_write.specs.Covered.{trip_number}
use Rattle.comtrade_write.specs.ConfigTexts.{config_lines}
use Rattle.comtrade_write.specs.DataTexts.{lines_from}
use Rattle.comtrade_write.specs.Recordings.{config_by, config_of, covered_of, data_of, recorded_of, first_number}
use Rattle.relay_tool.specs.Output.{Item}
use Rattle.relay_tool.specs.Making.{Makes}
use Rattle.relay_tool.specs.declared.put.Failed.{Failed}
use Rattle.relay_tool.proofs.Hearing.{events-made, events-stopped}

-- ---- how many lines there are

config-length : (name : List ℕ) (common : Common) (span : Span) → length (config_lines name common span) ≡ 17
unfolding config_lines
config-length name common span = refl

config-by-length : (name : List ℕ) (common : Common) (trip : Option ℕ) (rs : List Recorded) (i : ℕ) (text : List ℕ) → slice_get (config_by name common trip rs) i ≡ Some text → length (config_by name common trip rs) ≡ 17
config-by-length name common None rs i text e = cc
config-by-length name common (Some n) rs i text e = config-length name common _

-- a configuration that has a line has 17
pub config_of-length : (common : Common) (line : PlainLine) (k : ℕ) (past : List PlainAsdu) (i : ℕ) (text : List ℕ) → slice_get (config_of common line k past) i ≡ Some text → length (config_of common line k past) ≡ 17
config_of-length common line k past i text e = config-by-length line.name common (trip_number k (recorded_of common line past)) (recorded_of common line past) i text e

lines-length : (rate first i : ℕ) (rs : List Recorded) → length (lines_from rate first i rs) ≡ length rs
lines-length rate first i [] = refl
lines-length rate first i (r ∷ rs) = ap suc (lines-length rate first (i + 1) rs)

pub data_of-length : (common : Common) (line : PlainLine) (k : ℕ) (past : List PlainAsdu) → length (data_of common line k past) ≡ length (covered_of common line k past)
data_of-length common line k past = lines-length common.rate (first_number (covered_of common line k past)) 1 (covered_of common line k past)

-- ---- one line further

within : (xs : List (List ℕ)) (i : ℕ) (x : List ℕ) → slice_get xs i ≡ Some x → i < length xs
within [] i x e = cc
within (y ∷ ys) zero x e = omega arith
within (y ∷ ys) (suc i) x e = let h = within ys i x e in omega arith

pub line-made : (f : List ℕ → Item) (xs : List (List ℕ)) (i : ℕ) (x : List ℕ) {a b c : RoomState} → slice_get xs i ≡ Some x →
    Makes (map f (take i xs)) a b (Ok tt) → Makes (f x ∷ []) b c (Ok tt) → Makes (map f (take (i + 1) xs)) a c (Ok tt)
line-made f xs i x {a} {b} {c} e p q =
    events-made f xs i x (within xs i x e) p (subst (λ t. Makes (f t ∷ []) b c (Ok tt)) (sym (get_or_from_slice_get xs i x x e)) q)

pub line-stopped : (f : List ℕ → Item) (xs : List (List ℕ)) (i : ℕ) (x : List ℕ) {a b c : RoomState} {failed : Failed} → slice_get xs i ≡ Some x →
    Makes (map f (take i xs)) a b (Ok tt) → Makes (f x ∷ []) b c (Err failed) → Makes (map f xs) a c (Err failed)
line-stopped f xs i x {a} {b} {c} {failed} e p q =
    events-stopped f xs i x (within xs i x e) p (subst (λ t. Makes (f t ∷ []) b c (Err failed)) (sym (get_or_from_slice_get xs i x x e)) q)
