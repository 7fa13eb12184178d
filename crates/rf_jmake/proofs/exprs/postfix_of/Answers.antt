use Rattle.rf_jtree.proofs.ExprShows.{expr_shown-Postfix}
use Rattle.rf_jmake.proofs.exprs.postfix_of.Goals as goal

pub returns : goal.returns
returns c = rw expr_shown-Postfix at c.boxed.ensures
