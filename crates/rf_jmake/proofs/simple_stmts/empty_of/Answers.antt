use Rattle.rf_jtree.proofs.StmtShows.{stmt_shown-Empty}
use Rattle.rf_jmake.proofs.simple_stmts.empty_of.Goals as goal

pub returns : goal.returns
returns c = rw stmt_shown-Empty at c.boxed.ensures
