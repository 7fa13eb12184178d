-- What a parser of files answers: the tree that fits and has all the tokens.
use Rattle.std.specs.Prelude.{◌≡◌, ℕ, ◌≤◌, List, Result, Ok, Err}
use Rattle.rf_jtree.specs.declared.decls.Unit.{Unit as File}
use Rattle.rf_jtree.specs.declared.tokens.Tok.{Tok}
use Rattle.rf_jtree.specs.DeclFits.{UnitFits}
use Rattle.rf_jtree.specs.DeclShown.{unit_shown}
use Rattle.rf_jtree.specs.DeclTrees.{UnitTree, unit_yield, unit_depth}
use Rattle.rf_jexpr.specs.declared.parse_err.ParseErr.{ParseErr}
use Rattle.rf_jexpr.specs.declared.parse_err.ParseErr.TheVariants.{NoTree, Memory}
use Rattle.rf_jdecl.specs.UnitReads.{ROOM}

-- A tree that fits, and is no deeper than the room, has these tokens.
pub record IsTreeOf (toks : List Tok) (room : ℕ) (tree : UnitTree) : Type 0 where
  pub fits : UnitFits tree
  pub shallow : unit_depth tree ≤ room
  pub yields : unit_yield tree ≡ toks

-- no such tree has them
abbrev pub NoTreeHas : List Tok → ℕ → Type 0
NoTreeHas toks room = (other : UnitTree) → IsTreeOf toks room other → ⊥

-- no other tree that fits has them, however deep it is
abbrev pub NoOtherHas : List Tok → UnitTree → Type 0
NoOtherHas toks tree = (other : UnitTree) → UnitFits other → unit_yield other ≡ toks → other ≡ tree

abbrev pub IsFile : List Tok → Result File ParseErr → Type 0
IsFile toks (Ok found) = IsTreeOf toks ROOM (unit_shown found) × NoOtherHas toks (unit_shown found)
IsFile toks (Err NoTree) = NoTreeHas toks ROOM
IsFile toks (Err Memory) = Unit {0}
