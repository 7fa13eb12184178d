use Rattle.rf_jtree.proofs.StmtShows.{stmt_shown-If}
use Rattle.rf_jmake.proofs.stmts.if_of.Goals as goal

pub returns : goal.returns
returns c = rw stmt_shown-If at c.boxed.ensures
