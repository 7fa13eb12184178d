use Rattle.std.proofs.Common.{arith}
use Rattle.rf_jlex.proofs.OperatorFrontLemmas.{none_is_left}
use Rattle.rf_jlex.proofs.operators.longest_within.Goals as goal

pub returns : goal.returns
returns c = none_is_left c.args.text.now c.args.most (λ n op within is. omega (arith, c.loop-length.invariant.longer n op within is, c.loop-length-test.false))
