-- The nodes of the code as those that contracts speak of, and what a check tells.
use Rattle.std.specs.Prelude.{ℕ, List, [], ◌∷◌, map}
use Rattle.rf_form.specs.Families.{Family}
use Rattle.rf_cons.specs.Systems.{System}
use Rattle.rf_refute.specs.Trees as trees
use Rattle.rf_refute.specs.Good.{Good, FirstBad}
use Rattle.rf_refute.specs.declared.nodes.Node.{Node}
use Rattle.rf_refute.specs.declared.nodes.Node.TheVariants as node
use Rattle.rf_refute.specs.declared.nodes.Verdict.{Verdict}
use Rattle.rf_refute.specs.declared.nodes.Verdict.TheVariants as verdict

-- a node with the values of a split as a list
abbrev pub shown : Node → trees.Node
shown (node.Remove x v c) = trees.Remove x v c
shown (node.Split x vals) = trees.Split x vals.items
shown (node.Fail c) = trees.Fail c

-- the nodes refute the family, or this is the number of the first that is bad
abbrev pub Tells : System → Family → List trees.Node → Verdict → Type 0
Tells s δ nodes verdict.Good = Good s δ nodes
Tells s δ nodes (verdict.Bad number) = FirstBad s (δ ∷ []) nodes number
