-- The second token stands where the first ends.
use Rattle.rf_jexpr.specs.Gives.{passes}
use Rattle.rf_jstmt.proofs.EndLemmas.{pair-end, pair-missing}
use Rattle.rf_jstmt.proofs.ends.pair_end.Goals as goal

pub returns-in-Some-clause-end : goal.returns-in-Some-clause-end
returns-in-Some-clause-end c = pair-end (passes c.args.first) (passes c.args.second) c.args.t.now c.args.at _ _ c.in-Some.ensures.end c.tok_end-in-Some.ensures.end

pub returns-in-None-clause-end : goal.returns-in-None-clause-end
returns-in-None-clause-end c = pair-missing (passes c.args.first) (passes c.args.second) _ c.in-None.ensures.end
