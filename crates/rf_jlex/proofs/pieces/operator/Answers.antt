use Rattle.std.proofs.Common.{sym, subst}
use Rattle.rf_jlex.specs.Pieces.{GivesPiece}
use Rattle.rf_jlex.proofs.PieceLemmas.{operator_given, no_operator}
use Rattle.rf_jlex.proofs.pieces.operator.Goals as goal

pub returns-in_err-front : goal.returns-in_err-front
returns-in_err-front c = subst (GivesPiece c.args.text.now) (sym c.from_residual.ensures) (no_operator c.args.text.now c.requires c.in_err-front.ensures)

pub returns : goal.returns
returns c = operator_given c.args.text.now c.in_ok-front.front c.requires c.in_ok-front.ensures
