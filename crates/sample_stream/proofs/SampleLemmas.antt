-- The values of a good sample are small.
use Rattle.std.proofs.Common.{◌≡◌, ℕ, zero, suc, ◌<◌, ◌∷◌, nat_le, Bool, true, arith, List, [], ℤ, pos, unsigned_abs}
use Rattle.std.specs.List.{list_all}
use Rattle.std.proofs.lemmas.Bool.{and_parts, ltb-true}
use Rattle.relay_num.specs.Bounds.{AllBelow, value_bound}
use Rattle.sv_frame.specs.declared.channel.Channel.{Channel}
use Rattle.sample_stream.specs.Samples.{channel, is_fit, is_good, used_values}

fit_below : (mask : ℕ) (c : Channel) → is_fit mask c ≡ true → unsigned_abs c.value < value_bound
fit_below mask c h = ltb-true (unsigned_abs c.value) (value_bound) (and_parts _ _ h).1

pub used_below : (mask synch_min synch : ℕ) (channels : List Channel) → is_good mask synch_min synch channels ≡ true → AllBelow (used_values channels) (value_bound)
used_below mask synch_min synch channels good =
    let fit : ℕ → Bool = λ k. is_fit mask (channel k channels) in
    let all = and_parts (nat_le synch_min synch) (list_all fit (0 ∷ 1 ∷ 2 ∷ 4 ∷ 5 ∷ 6 ∷ [])) good in
    let a = and_parts (fit 0) (list_all fit (1 ∷ 2 ∷ 4 ∷ 5 ∷ 6 ∷ [])) all.1 in
    let b = and_parts (fit 1) (list_all fit (2 ∷ 4 ∷ 5 ∷ 6 ∷ [])) a.1 in
    let c = and_parts (fit 2) (list_all fit (4 ∷ 5 ∷ 6 ∷ [])) b.1 in
    let d = and_parts (fit 4) (list_all fit (5 ∷ 6 ∷ [])) c.1 in
    let e = and_parts (fit 5) (list_all fit (6 ∷ [])) d.1 in
    let f = and_parts (fit 6) true e.1 in
    let at : (k : ℕ) → fit k ≡ true → unsigned_abs (channel k channels).value < value_bound = λ k h. fit_below mask (channel k channels) h in
    each (channel 0 channels).value (channel 1 channels).value (channel 2 channels).value (channel 4 channels).value (channel 5 channels).value (channel 6 channels).value (at 0 a.0) (at 1 b.0) (at 2 c.0) (at 4 d.0) (at 5 e.0) (at 6 f.0)
  where
    each : (x0 x1 x2 x4 x5 x6 : ℤ) → unsigned_abs x0 < value_bound → unsigned_abs x1 < value_bound → unsigned_abs x2 < value_bound → unsigned_abs x4 < value_bound → unsigned_abs x5 < value_bound → unsigned_abs x6 < value_bound
        → AllBelow (x0 ∷ x1 ∷ x2 ∷ pos 0 ∷ x4 ∷ x5 ∷ x6 ∷ pos 0 ∷ []) (value_bound)
    each x0 x1 x2 x4 x5 x6 a b c d e f zero v lt = a
    each x0 x1 x2 x4 x5 x6 a b c d e f (suc zero) v lt = b
    each x0 x1 x2 x4 x5 x6 a b c d e f (suc (suc zero)) v lt = c
    each x0 x1 x2 x4 x5 x6 a b c d e f (suc (suc (suc zero))) v lt = omega arith
    each x0 x1 x2 x4 x5 x6 a b c d e f (suc (suc (suc (suc zero)))) v lt = d
    each x0 x1 x2 x4 x5 x6 a b c d e f (suc (suc (suc (suc (suc zero))))) v lt = e
    each x0 x1 x2 x4 x5 x6 a b c d e f (suc (suc (suc (suc (suc (suc zero)))))) v lt = f
    each x0 x1 x2 x4 x5 x6 a b c d e f (suc (suc (suc (suc (suc (suc (suc zero))))))) v lt = omega arith
    each x0 x1 x2 x4 x5 x6 a b c d e f (suc (suc (suc (suc (suc (suc (suc (suc k)))))))) v lt = absurd (omega arith)
