-- Nodes that are written behind others.
use Rattle.std.specs.Prelude.{◌≡◌, ℕ, ◌+◌, List, [], ◌∷◌, ◌++◌, length, map}
use Rattle.rf_form.specs.Families.{Family, at}
use Rattle.rf_cons.specs.Systems.{System}
use Rattle.rf_prop.specs.declared.steps.Step.{Step}
use Rattle.rf_prop.specs.declared.steps.Outcome.{Outcome}
use Rattle.rf_prop.specs.declared.steps.Outcome.TheVariants as outcome
use Rattle.rf_refute.specs.Good.{Refute, counted}
use Rattle.rf_refute.specs.Trees as trees

-- the node of a removal
abbrev pub removing : Step → trees.Node
removing r = trees.Remove r.x r.v r.c

-- The nodes that were added turn a refutation of the second families into one of the first. Of each node's children all but
-- one are counted.
pub record Adds (s : System) (δ : Family) (kept : List Family) (before after : List trees.Node) : Type 0 where
  pub nodes : List trees.Node
  pub is : after ≡ before ++ nodes
  pub leads : (rest : List Family) (more : List trees.Node) → Refute s (kept ++ rest) more → Refute s (δ ∷ rest) (nodes ++ more)

pub record Closing (s : System) (δ : Family) (kept : List Family) (before after : List trees.Node) : Type 0 where
  pub adds : Adds s δ kept before after
  pub free : counted after ≡ counted before

-- a closing is written with its failure, if it ends with one
abbrev pub Writes : System → Family → Family → List trees.Node → List trees.Node → Outcome → Type 0
Writes s δ ε before after outcome.Closed = Closing s δ (ε ∷ []) before after
Writes s δ ε before after (outcome.Empty number) = Closing s δ [] before after
