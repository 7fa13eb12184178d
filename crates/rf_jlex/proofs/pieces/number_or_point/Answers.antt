use Rattle.rf_jlex.proofs.PieceLemmas.{number_given_at_point, only_operators_at_point}
use Rattle.rf_jlex.proofs.pieces.number_or_point.Goals as goal

pub returns-in-Some : goal.returns-in-Some
returns-in-Some c = number_given_at_point c.args.text.now c.in-Some.number c.requires c.in-Some.ensures

pub operator-requires : goal.operator-requires
operator-requires c = only_operators_at_point c.args.text.now c.requires c.in-None.ensures
