use Rattle.rf_jexpr.specs.Descent.{parsers}
use Rattle.rf_jstmt.proofs.LocalLemmas.{local-past}
use Rattle.rf_jstmt.proofs.simple.local_stmt.Goals as goal

pub returns-then-t-at : goal.returns-then-t-at
returns-then-t-at c = local-past (parsers c.args.room) c.args.t.now c.args.at c.if-t-at.true
