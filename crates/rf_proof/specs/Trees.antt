-- When nodes in preorder are whole trees.
use Rattle.std.specs.Prelude.{◌≡◌, ℕ, zero, suc, ◌+◌, List, [], ◌∷◌, length}
use Rattle.rf_refute.specs.Trees.{Node, Remove, Split, Fail}

-- how many children the node has
abbrev pub children : Node → ℕ
children (Remove x v c) = 1
children (Split x vs) = length vs
children (Fail c) = 0

-- Where so many trees are to come, so many are still to come behind the nodes. At each of the nodes there was one to come.
abbrev pub Leaves : ℕ → List Node → ℕ → Type 0
Leaves wanted [] left = wanted ≡ left
Leaves zero (n ∷ ns) left = ⊥
Leaves (suc wanted) (n ∷ ns) left = Leaves (children n + wanted) ns left

-- the nodes are one whole tree
abbrev pub IsWhole : List Node → Type 0
IsWhole nodes = Leaves 1 nodes 0
