use Rattle.rf_jtree.proofs.StmtShows.{stmt_shown-Return}
use Rattle.rf_jmake.proofs.simple_stmts.return_of.Goals as goal

pub returns : goal.returns
returns c = rw stmt_shown-Return at c.boxed.ensures
