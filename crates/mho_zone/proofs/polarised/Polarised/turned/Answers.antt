use Rattle.std.proofs.Common.{◌^◌, ◌∙◌, ap, sym, arith, lit≤, FitsSigned, to_z-of_z}
use Rattle.std.specs.Int.{w128}
use Rattle.relay_num.specs.Numbers.{opposite}
use Rattle.relay_num.proofs.Wide.{fits_128, same_parts}
use Rattle.apparent_impedance.proofs.Powers.{negated, power_turned}
use Rattle.mho_zone.proofs.polarised.Polarised.turned.Goals as goal

pub returns : goal.returns
returns c u i pol formed =
    let re = negated c.args.self.now.power.re (omega (arith, c.args.self.now.power_size.re)) in
    let im = negated c.args.self.now.power.im (omega (arith, c.args.self.now.power_size.im)) in
    let f : FitsSigned w128 c.args.self.now.along = fits_128 c.args.self.now.along (2 ^ 100) c.args.self.now.along_size (lit≤ tt) in
    record {
      power = same_parts re im ∙ ap opposite formed.power ∙ sym (power_turned pol i);
      along = to_z-of_z f ∙ formed.along;
    }
