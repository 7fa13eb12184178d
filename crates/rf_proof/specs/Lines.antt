-- The first line by which a text is none of a refutation.
use Rattle.std.specs.Prelude.{◌≡◌, ◌≢◌, ℕ, zero, suc, ◌+◌, List, [], ◌∷◌, ◌++◌, flat_map, length}
use Rattle.rf_refute.specs.Trees.{Node}
use Rattle.rf_proof.specs.Trees.{Leaves}
use Rattle.rf_proof.specs.Numbers.{BeginsField, EndsNumber}
use Rattle.rf_proof.specs.Texts.{spaced, line_of, lines_of, version_line, ArePlaces, HasLine, HaveLines}

-- the text begins with the line of this node
pub record BeginsNode (text : List ℕ) (n : Node) (rest : List ℕ) : Type 0 where
  pub line : HasLine n
  pub text_is : text ≡ line_of n ++ rest

-- the text doesn't begin with the line of a node
abbrev pub BeginsNoNode : List ℕ → Type 0
BeginsNoNode text = (n : Node) (rest : List ℕ) → BeginsNode text n rest → ⊥

-- the text begins with these places, each behind a space, and with no further one
pub record BeginsPlaces (text vs rest : List ℕ) : Type 0 where
  pub places : ArePlaces vs
  pub text_is : text ≡ flat_map spaced vs ++ rest
  pub ends : EndsNumber rest
  pub none : (v : ℕ) (more : List ℕ) → BeginsField rest 65535 v more → ⊥

-- Where so many trees are to come, the text can't go on so: with a line where none is to come, and with none, or one that
-- isn't a node's, where one is to come.
abbrev pub Breaks : ℕ → List ℕ → Type 0
Breaks zero text = text ≢ []
Breaks (suc left) text = BeginsNoNode text

-- behind the line of the version and those of some nodes the text can't go on so
pub record BreaksBehind (nodes : List Node) (text : List ℕ) : Type 0 where
  pub lines : HaveLines nodes
  pub left : ℕ
  pub rest : List ℕ
  pub leaves : Leaves 1 nodes left
  pub text_is : text ≡ version_line ++ (lines_of nodes ++ rest)
  pub breaks : Breaks left rest

-- the number, from 1, of the first line that isn't right; where nodes are missing, of the one behind the last
pub data IsBadLine (text : List ℕ) (k : ℕ) : Type 0 where
  version : ((rest : List ℕ) → text ≡ version_line ++ rest → ⊥) → k ≡ 1 → IsBadLine text k
  node : (nodes : List Node) → BreaksBehind nodes text → k ≡ length nodes + 2 → IsBadLine text k
