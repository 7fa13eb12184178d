-- Nodes of a refutation as contracts speak of them: in preorder, with the values of a split as a list.
use Rattle.std.specs.Prelude.{ℕ, List}

pub data Node : Type 0 where
  Remove : ℕ → ℕ → ℕ → Node
  Split : ℕ → List ℕ → Node
  Fail : ℕ → Node
