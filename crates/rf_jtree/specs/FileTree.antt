-- The tree of the bytes of a file (JLS 2.3, 7.3).
use Rattle.std.specs.Prelude.{◌≡◌, ℕ, List}
use Rattle.rf_jtree.specs.declared.tokens.Toks.{Toks}
use Rattle.rf_jtree.specs.DeclFits.{UnitFits}
use Rattle.rf_jtree.specs.DeclTrees.{UnitTree, unit_yield}
use Rattle.rf_jtree.specs.Tokens.{AreTokens}

-- the bytes have a token list, its tokens in order are those of the tree, and the tree fits
pub record IsFileTree (bytes : List ℕ) (tree : UnitTree) : Type 0 where
  pub toks : Toks
  pub tokens : AreTokens bytes toks
  pub yields : unit_yield tree ≡ toks.list
  pub fits : UnitFits tree
