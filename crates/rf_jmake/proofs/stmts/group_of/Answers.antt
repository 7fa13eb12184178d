use Rattle.std.proofs.Common.{refl}
use Rattle.rf_jtree.proofs.StmtShows.{group_shown-roll}
use Rattle.rf_jmake.proofs.stmts.group_of.Goals as goal

pub returns : goal.returns
returns c = rw group_shown-roll refl
