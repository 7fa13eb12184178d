-- What reading a text gives.
use Rattle.std.specs.Prelude.{◌≡◌, ℕ, List, map, Result, Ok, Err}
use Rattle.rf_refute.specs.Shown.{shown}
use Rattle.rf_refute.specs.Trees as trees
use Rattle.rf_refute.specs.declared.nodes.Tree.{Tree}
use Rattle.rf_proof.specs.Texts.{IsText}
use Rattle.rf_proof.specs.Lines.{IsBadLine}
use Rattle.rf_proof.specs.declared.errors.TextErr.{TextErr}
use Rattle.rf_proof.specs.declared.errors.TextErr.TheVariants.{BadText, Memory}

-- the refutation whose text it is, or the first bad line
abbrev pub Reads : List ℕ → Result Tree TextErr → Type 0
Reads text (Ok tree) = IsText (map shown tree.nodes) text
Reads text (Err (BadText line)) = IsBadLine text line
Reads text (Err Memory) = Unit {0}

-- these nodes, but for want of memory
abbrev pub Gives : List trees.Node → Result Tree TextErr → Type 0
Gives nodes (Ok tree) = map shown tree.nodes ≡ nodes
Gives nodes (Err (BadText line)) = ⊥
Gives nodes (Err Memory) = Unit {0}
