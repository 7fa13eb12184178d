use Rattle.std.proofs.Common.{true, false, sym, ap, ◌∙◌}
use Rattle.rf_jtree.specs.Guesses.{stands_at}
use Rattle.rf_jtree.specs.Operators.{OPERATORS}
use Rattle.rf_jtree.proofs.OperatorLemmas.{operator_of-guess}
use Rattle.rf_jtree.proofs.operators.operator.Goals as goal

pub returns-then-stands_at : goal.returns-then-stands_at
unfolding OPERATORS
returns-then-stands_at c = let place = c.guess-place.ensures in rw (place) (sym (operator_of-guess c.args.bytes.now true (ap (λ n. stands_at OPERATORS n c.args.bytes.now) (sym place) ∙ sym c.stands_at.ensures ∙ c.if-stands_at.true)))

pub returns-else-stands_at : goal.returns-else-stands_at
unfolding OPERATORS
returns-else-stands_at c = sym (operator_of-guess c.args.bytes.now false (ap (λ n. stands_at OPERATORS n c.args.bytes.now) (sym c.guess-place.ensures) ∙ sym c.stands_at.ensures ∙ c.if-stands_at.false))
