use Rattle.std.proofs.Common.{sym}
use Rattle.rf_jlex.proofs.PieceLemmas.{no_end, only_operators}
use Rattle.rf_jlex.proofs.pieces.longest_piece.Goals as goal

pub returns-in-End : goal.returns-in-End
returns-in-End c = no_end c.args.text.now (sym c.in-End.ensures)

pub operator-requires : goal.operator-requires
operator-requires c = only_operators c.args.text.now (sym c.in-Other.ensures)
