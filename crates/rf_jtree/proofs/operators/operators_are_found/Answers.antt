use Rattle.rf_jtree.proofs.OperatorLemmas.{operator_of-word, slice_get-operator}
use Rattle.rf_jtree.proofs.operators.operators_are_found.Goals as goal

pub returns-clause-each : goal.returns-clause-each
returns-clause-each c = operator_of-word

pub returns-clause-only : goal.returns-clause-only
returns-clause-only c = λ n. slice_get-operator n c.args.bytes.now
