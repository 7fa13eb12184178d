use Rattle.rf_prop.proofs.Fillings.{filled_all}
use Rattle.rf_prop.proofs.filling.are_filled.Goals as goal

pub returns : goal.returns
returns c = filled_all c.args.doms.now.alive c.args.count c.loop-x.x c.loop-x-test.false c.loop-x.invariant
