use Rattle.rf_jtree.proofs.StmtShows.{stmt_shown-Throw}
use Rattle.rf_jmake.proofs.simple_stmts.throw_of.Goals as goal

pub returns : goal.returns
returns c = rw stmt_shown-Throw at c.boxed.ensures
