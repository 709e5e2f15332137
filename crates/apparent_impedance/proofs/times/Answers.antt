use Rattle.std.proofs.Common.{◌≡◌, ◌*ℤ◌, ◌*◌, ◌^◌, ◌∙◌, pos, lit≤, FitsSigned, to_z-of_z}
use Rattle.std.specs.Int.{w128}
use Rattle.relay_num.proofs.Wide.{fits_128, same_parts}
use Rattle.apparent_impedance.proofs.Sizes.{volts_below, exact_volts}
use Rattle.apparent_impedance.proofs.times.Goals as goal

pub returns : goal.returns
returns c =
    let size = volts_below c.args.scale c.args.u c.requires.scale c.requires.u in
    let re : c.from.result ≡ pos c.args.scale *ℤ c.args.u.re = c.from.ensures ∙ rw c.from-scale.ensures (exact_volts c.args.scale c.args.u.re c.requires.scale c.requires.u.re) in
    let im : c.from-2.result ≡ pos c.args.scale *ℤ c.args.u.im = c.from-2.ensures ∙ rw c.from-scale.ensures (exact_volts c.args.scale c.args.u.im c.requires.scale c.requires.u.im) in
    let fr : FitsSigned w128 (pos c.args.scale *ℤ c.args.u.re) = fits_128 _ (10000001 * 2 ^ 32) size.re (lit≤ tt) in
    let fi : FitsSigned w128 (pos c.args.scale *ℤ c.args.u.im) = fits_128 _ (10000001 * 2 ^ 32) size.im (lit≤ tt) in
    rw (re, im) (same_parts (to_z-of_z fr) (to_z-of_z fi))
