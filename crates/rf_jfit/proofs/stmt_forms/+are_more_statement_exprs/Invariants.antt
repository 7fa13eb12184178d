use Rattle.std.proofs.Common.{length}
use Rattle.rf_jfit.proofs.stmt_forms.+are_more_statement_exprs.Given as goal

abbrev pub decreases-are_more_statement_exprs : goal.decreases-are_more_statement_exprs
decreases-are_more_statement_exprs l = length l.rest.now
