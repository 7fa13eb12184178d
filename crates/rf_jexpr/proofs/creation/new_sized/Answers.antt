use Rattle.std.proofs.Common.{refl, arith}
use Rattle.rf_jexpr.specs.Reads.{and_then}
use Rattle.rf_jexpr.proofs.FormLemmas.{sizes-depth}
use Rattle.rf_jexpr.proofs.creation.new_sized.Goals as goal

pub returns : goal.returns
unfolding and_then
returns c =
    let found = c.in_ok-bracket_pairs.ensures in
    let tree = c.in_ok-tree.ensures in
    (rw (found.0, tree) refl, found.1, found.2, rw (tree, sizes-depth, c.requires.known) refl, omega arith)
