use Rattle.std.proofs.Common.{length}
use Rattle.rf_proof.proofs.Behind.{PlacesTo}
use Rattle.rf_proof.proofs.nodes.places.Given as goal

abbrev pub invariant-loop-v : goal.invariant-loop-v
invariant-loop-v l = PlacesTo l.text l.vals.items l.left

abbrev pub decreases-loop-v : goal.decreases-loop-v
decreases-loop-v l = length l.left
