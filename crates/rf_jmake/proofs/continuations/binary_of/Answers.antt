use Rattle.rf_jtree.proofs.ExprShows.{expr_shown-Binary}
use Rattle.rf_jmake.proofs.continuations.binary_of.Goals as goal

pub returns : goal.returns
returns c = rw expr_shown-Binary at c.boxed.ensures
