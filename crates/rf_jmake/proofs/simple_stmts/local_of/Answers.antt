use Rattle.rf_jtree.proofs.StmtShows.{stmt_shown-Local}
use Rattle.rf_jmake.proofs.simple_stmts.local_of.Goals as goal

pub returns : goal.returns
returns c = rw (stmt_shown-Local, c.in_ok-local.ensures) at c.boxed.ensures
