use Rattle.std.proofs.Common.{length}
use Rattle.rf_proof.proofs.Loops.{ReadTo}
use Rattle.rf_proof.proofs.reading.tree_behind.Given as goal

abbrev pub invariant-loop-wanted : goal.invariant-loop-wanted
invariant-loop-wanted l = ReadTo l.text l.nodes l.wanted l.left

abbrev pub decreases-loop-wanted : goal.decreases-loop-wanted
decreases-loop-wanted l = length l.left
