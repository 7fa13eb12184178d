use Rattle.rf_jtree.proofs.ExprShows.{expr_shown-Assign}
use Rattle.rf_jmake.proofs.continuations.assigned.Goals as goal

pub returns : goal.returns
returns c = rw expr_shown-Assign at c.boxed.ensures
