use Rattle.rf_jtree.proofs.StmtShows.{stmt_shown-Assert}
use Rattle.rf_jmake.proofs.simple_stmts.assert_of.Goals as goal

pub returns : goal.returns
returns c = rw stmt_shown-Assert at c.boxed.ensures
