use Rattle.std.proofs.Common.{refl}
use Rattle.rf_jtree.specs.Operators.{OPERATORS, operator_of}
use Rattle.rf_jtree.specs.Spelling.{OPERATOR_NAMES}
use Rattle.rf_jtree.proofs.operator_names.operators_are_named.Goals as goal

pub returns : goal.returns
unfolding OPERATORS operator_of OPERATOR_NAMES
returns c = refl
