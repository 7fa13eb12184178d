use Rattle.std.proofs.Common.{◌<◌, length, arith}
use Rattle.rf_refute.proofs.Stackings.{split_told}
use Rattle.rf_refute.proofs.fitting.split_fits.Goals as goal

pub returns : goal.returns
returns g c = let count = c.len.ensures in let test = c.if-x-len.false in let inside : c.args.x < length c.vals-vals.result.now = omega arith in
    split_told c.are_values.result (g.C.Constraints.system c.args.all.now) c.vals-vals.result.now (g.D.Alive.family c.args.doms.now) c.args.x c.args.listed.now
    c.vals-vals.ensures inside c.if-listed-lt2.false c.are_values.ensures
