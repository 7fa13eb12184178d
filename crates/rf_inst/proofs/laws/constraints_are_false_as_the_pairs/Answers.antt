use Rattle.rf_inst.specs.Programs.{all_forms}
use Rattle.rf_inst.proofs.Standing.{both_ways_false}
use Rattle.rf_inst.proofs.laws.constraints_are_false_as_the_pairs.Goals as goal

pub returns : goal.returns
returns c = λ facts table programs i part is lies filled. both_ways_false i.vals part lies filled (all_forms facts table programs) i.cons is.cons
