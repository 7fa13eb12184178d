use Rattle.rf_jtree.proofs.StmtShows.{stmt_shown-For}
use Rattle.rf_jmake.proofs.stmts.for_of.Goals as goal

pub returns : goal.returns
returns c = rw stmt_shown-For at c.boxed.ensures
