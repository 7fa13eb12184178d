use Rattle.std.proofs.Common.{refl}
use Rattle.rf_jtree.specs.Operators.{OPERATORS}
use Rattle.rf_jtree.proofs.operators.every_operator_is_found.Goals as goal

pub returns : goal.returns
unfolding OPERATORS
returns c = c.each_is_found.ensures refl
