use Rattle.std.proofs.Common.{arith}
use Rattle.rf_form.proofs.Fits.{short_from}
use Rattle.rf_form.proofs.fitting.is_short.Goals as goal

pub returns : goal.returns
returns c = short_from c.args.vals.now c.loop-x.x c.loop-x.invariant (omega arith)
