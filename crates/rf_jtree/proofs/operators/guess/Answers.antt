use Rattle.std.proofs.Common.{refl}
use Rattle.rf_jtree.specs.Guesses.{operator_guess}
use Rattle.rf_jtree.proofs.operators.guess.Goals as goal

pub returns : goal.returns
unfolding operator_guess
returns c = rw (c.byte_at.ensures.value, c.byte_at-2.ensures.value, c.byte_at-3.ensures.value, c.byte_at-4.ensures.value) refl
