use Rattle.rf_jtree.proofs.StmtShows.{stmt_shown-Expression}
use Rattle.rf_jmake.proofs.simple_stmts.expression_of.Goals as goal

pub returns : goal.returns
returns c = rw stmt_shown-Expression at c.boxed.ensures
