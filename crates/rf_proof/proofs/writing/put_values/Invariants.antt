use Rattle.std.proofs.Common.{◌≡◌, ◌++◌, take}
use Rattle.std.specs.List.{flat_map}
use Rattle.rf_proof.specs.Texts.{spaced}
use Rattle.rf_proof.proofs.writing.put_values.Given as goal

abbrev pub invariant-loop-v : goal.invariant-loop-v
invariant-loop-v l = l.out ≡ l.initial.out ++ flat_map spaced (take l.v-index l.vals)
