use Rattle.rf_jtree.proofs.StmtShows.{stmt_shown-Each}
use Rattle.rf_jmake.proofs.stmts.each_of.Goals as goal

pub returns : goal.returns
returns c = rw stmt_shown-Each at c.boxed.ensures
