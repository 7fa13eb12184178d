use Rattle.rf_jtree.proofs.ExprShows.{expr_shown-Call}
use Rattle.rf_jmake.proofs.continuations.call_on.Goals as goal

pub returns : goal.returns
returns c = rw (expr_shown-Call, c.in_ok-front.ensures) at c.boxed.ensures
