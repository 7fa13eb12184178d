use Rattle.rf_jtree.proofs.StmtShows.{stmt_shown-While}
use Rattle.rf_jmake.proofs.stmts.while_of.Goals as goal

pub returns : goal.returns
returns c = rw stmt_shown-While at c.boxed.ensures
