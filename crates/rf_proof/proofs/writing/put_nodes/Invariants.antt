use Rattle.std.proofs.Common.{◌≡◌, ◌++◌, map, take}
use Rattle.std.specs.List.{flat_map}
use Rattle.rf_refute.specs.Shown.{shown}
use Rattle.rf_proof.specs.Texts.{line_of}
use Rattle.rf_proof.proofs.writing.put_nodes.Given as goal

abbrev pub invariant-loop-node : goal.invariant-loop-node
invariant-loop-node l = l.out ≡ l.initial.out ++ flat_map line_of (map shown (take l.node-index l.nodes))
