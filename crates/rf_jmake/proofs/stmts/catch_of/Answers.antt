use Rattle.std.proofs.Common.{refl}
use Rattle.rf_jtree.proofs.StmtShows.{catch_shown-roll}
use Rattle.rf_jmake.proofs.stmts.catch_of.Goals as goal

pub returns : goal.returns
returns c = rw catch_shown-roll refl
