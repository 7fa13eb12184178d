-- What a parser of blocks answers: the longest block that stands at a place.
use Rattle.std.specs.Prelude.{◌≡◌, ℕ, ◌≤◌, List, ◌++◌, drop, length, Result, Ok, Err}
use Rattle.rf_jtree.specs.declared.stmts.Stmt.{Stmt}
use Rattle.rf_jtree.specs.declared.tokens.Tok.{Tok}
use Rattle.rf_jtree.specs.StmtFits.{StmtFits}
use Rattle.rf_jtree.specs.StmtShown.{stmt_shown}
use Rattle.rf_jtree.specs.StmtTrees.{StmtTree, Block, stmt_yield, stmt_depth}
use Rattle.rf_jexpr.specs.declared.parse_err.ParseErr.{ParseErr}
use Rattle.rf_jexpr.specs.declared.parse_err.ParseErr.TheVariants.{NoTree, Memory}

-- statements in braces (JLS 14.2)
abbrev pub IsBlock : StmtTree → Type 0
IsBlock (Block block) = Unit {0}
IsBlock stmt = ⊥

-- A block that fits, and is no deeper than the room, has these tokens from one place to another.
pub record IsBlockAt (toks : List Tok) (start room : ℕ) (tree : StmtTree) (end : ℕ) : Type 0 where
  pub is_block : IsBlock tree
  pub fits : StmtFits tree
  pub shallow : stmt_depth tree ≤ room
  pub within : end ≤ length toks
  pub takes : drop start toks ≡ stmt_yield tree ++ drop end toks

-- no other such block ends behind this place
abbrev pub NoBlockIsLonger : List Tok → ℕ → ℕ → ℕ → Type 0
NoBlockIsLonger toks start room end = (other : StmtTree) (to : ℕ) → IsBlockAt toks start room other to → to ≤ end

-- no such block stands there
abbrev pub NoBlockStands : List Tok → ℕ → ℕ → Type 0
NoBlockStands toks start room = (other : StmtTree) (to : ℕ) → IsBlockAt toks start room other to → ⊥

abbrev pub IsLongestBlock : List Tok → ℕ → ℕ → Result (Stmt × ℕ) ParseErr → Type 0
IsLongestBlock toks start room (Ok found) = IsBlockAt toks start room (stmt_shown found.0) found.1 × NoBlockIsLonger toks start room found.1
IsLongestBlock toks start room (Err NoTree) = NoBlockStands toks start room
IsLongestBlock toks start room (Err Memory) = Unit {0}
