use Rattle.std.proofs.Common.{arith}
use Rattle.rf_pairs.specs.Places.{NOWHERE}
use Rattle.rf_bodies.proofs.words.with_names.Goals as goal

pub returns-clause-few : goal.returns-clause-few
unfolding NOWHERE
returns-clause-few c = let few = c.if-len.false in let is = c.len.ensures in omega arith
