use Rattle.std.proofs.Common.{refl}
use Rattle.rf_jtree.proofs.StmtShows.{block_shown-roll}
use Rattle.rf_jmake.proofs.stmts.braces_of.Goals as goal

pub returns : goal.returns
returns c = rw block_shown-roll refl
