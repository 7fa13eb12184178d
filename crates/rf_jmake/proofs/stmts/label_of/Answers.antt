use Rattle.rf_jtree.proofs.StmtShows.{stmt_shown-Label}
use Rattle.rf_jmake.proofs.stmts.label_of.Goals as goal

pub returns : goal.returns
returns c = rw stmt_shown-Label at c.boxed.ensures
