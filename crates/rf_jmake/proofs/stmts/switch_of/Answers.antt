use Rattle.rf_jtree.proofs.StmtShows.{stmt_shown-Switch}
use Rattle.rf_jmake.proofs.ListShows.{groups-shown}
use Rattle.rf_jmake.proofs.stmts.switch_of.Goals as goal

pub returns : goal.returns
returns c = rw groups-shown (rw stmt_shown-Switch at c.boxed.ensures)
