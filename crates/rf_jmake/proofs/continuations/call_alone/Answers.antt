use Rattle.rf_jtree.proofs.ExprShows.{expr_shown-Call}
use Rattle.rf_jmake.proofs.continuations.call_alone.Goals as goal

pub returns : goal.returns
returns c = rw expr_shown-Call at c.boxed.ensures
