use Rattle.rf_jtree.proofs.StmtShows.{stmt_shown-Try}
use Rattle.rf_jmake.proofs.ListShows.{catches-shown}
use Rattle.rf_jmake.proofs.stmts.try_of.Goals as goal

pub returns : goal.returns
returns c = rw catches-shown (rw (stmt_shown-Try, c.in_ok-body.ensures) at c.boxed.ensures)
