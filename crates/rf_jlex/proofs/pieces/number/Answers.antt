use Rattle.std.proofs.Common.{sym, subst}
use Rattle.rf_jlex.specs.Pieces.{GivesPiece}
use Rattle.rf_jlex.proofs.PieceLemmas.{number_given, no_number}
use Rattle.rf_jlex.proofs.pieces.number.Goals as goal

pub returns-in_err-number : goal.returns-in_err-number
returns-in_err-number c = subst (GivesPiece c.args.text.now) (sym c.from_residual.ensures) (no_number c.args.text.now c.requires c.in_err-number.ensures)

pub returns : goal.returns
returns c = number_given c.args.text.now c.in_ok-number.number c.requires c.in_ok-number.ensures
