use Rattle.rf_jstmt.proofs.HeadLemmas.{statements-exact}
use Rattle.rf_jstmt.proofs.heads.are_statements.Goals as goal

pub returns : goal.returns
returns c = statements-exact _ _ c.are_statement_exprs.ensures
