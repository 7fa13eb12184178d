use Rattle.rf_jtree.proofs.StmtShows.{stmt_shown-Do}
use Rattle.rf_jmake.proofs.stmts.do_of.Goals as goal

pub returns : goal.returns
returns c = rw stmt_shown-Do at c.boxed.ensures
