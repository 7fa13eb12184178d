use Rattle.rf_jtree.proofs.StmtShows.{stmt_shown-Sync}
use Rattle.rf_jmake.proofs.stmts.sync_of.Goals as goal

pub returns : goal.returns
returns c = rw (stmt_shown-Sync, c.in_ok-body.ensures) at c.boxed.ensures
