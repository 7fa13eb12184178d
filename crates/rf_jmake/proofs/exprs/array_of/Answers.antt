use Rattle.rf_jtree.proofs.ExprShows.{expr_shown-NewArray}
use Rattle.rf_jmake.proofs.FormLemmas.{sizes-shown}
use Rattle.rf_jmake.proofs.exprs.array_of.Goals as goal

pub returns : goal.returns
returns c = rw sizes-shown (rw (expr_shown-NewArray, c.in_ok-first.ensures, c.in_ok-of.ensures) at c.boxed.ensures)
