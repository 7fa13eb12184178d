use Rattle.std.proofs.Common.{sym, subst}
use Rattle.rf_jlex.specs.Pieces.{GivesPiece}
use Rattle.rf_jlex.proofs.PieceLemmas.{character_given, no_character}
use Rattle.rf_jlex.proofs.pieces.character.Goals as goal

pub returns-in_err-length : goal.returns-in_err-length
returns-in_err-length c = subst (GivesPiece c.args.text.now) (sym c.from_residual.ensures) (no_character c.args.text.now c.requires c.in_err-length.ensures)

pub returns : goal.returns
returns c = character_given c.args.text.now c.in_ok-length.length c.requires c.in_ok-length.ensures
