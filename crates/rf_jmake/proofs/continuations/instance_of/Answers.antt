use Rattle.rf_jtree.proofs.ExprShows.{expr_shown-Instance}
use Rattle.rf_jmake.proofs.continuations.instance_of.Goals as goal

pub returns : goal.returns
returns c = rw expr_shown-Instance at c.boxed.ensures
