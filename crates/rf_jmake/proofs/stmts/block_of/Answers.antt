use Rattle.rf_jtree.proofs.StmtShows.{stmt_shown-Block}
use Rattle.rf_jmake.proofs.stmts.block_of.Goals as goal

pub returns : goal.returns
returns c = rw stmt_shown-Block at c.boxed.ensures
