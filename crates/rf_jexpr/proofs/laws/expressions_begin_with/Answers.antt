use Rattle.rf_jexpr.proofs.Final.{begins_so}
use Rattle.rf_jexpr.proofs.laws.expressions_begin_with.Goals as goal

pub returns : goal.returns
returns c = begins_so
