use Rattle.rf_jtree.proofs.StmtShows.{stmt_shown-Jump}
use Rattle.rf_jmake.proofs.simple_stmts.jump_of.Goals as goal

pub returns : goal.returns
returns c = rw stmt_shown-Jump at c.boxed.ensures
