use Rattle.rf_jstmt.proofs.HeadLemmas.{statement-exact}
use Rattle.rf_jstmt.proofs.heads.is_statement.Goals as goal

pub returns : goal.returns
returns c = statement-exact _ _ (rw c.deref.ensures at c.is_statement_expr.ensures)
