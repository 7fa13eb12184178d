use Rattle.rf_jtree.proofs.ExprShows.{expr_shown-Index}
use Rattle.rf_jmake.proofs.continuations.item_of.Goals as goal

pub returns : goal.returns
returns c = rw (expr_shown-Index, c.in_ok-end.ensures) at c.boxed.ensures
