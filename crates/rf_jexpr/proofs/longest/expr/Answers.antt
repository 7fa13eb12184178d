use Rattle.rf_jexpr.proofs.AnswerLemmas.{longest-of}
use Rattle.rf_jexpr.proofs.longest.expr.Goals as goal

pub returns : goal.returns
returns c = longest-of c.args.t.now c.args.at c.args.room c.expr_and_end.result c.expr_and_end.ensures
