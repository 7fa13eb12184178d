-- The files of a project, by their numbers, and what stands at their tokens.
use Rattle.std.specs.Prelude.{◌≡◌, ℕ, List, Some, slice_get}
use Rattle.rf_jtree.specs.declared.tokens.Tok.{Tok}
use Rattle.rf_jtree.specs.DeclShown.{unit_shown}
use Rattle.rf_jtree.specs.DeclTrees.{UnitTree}
use Rattle.rf_jview.specs.declared.marks.Mark.{Mark}
use Rattle.rf_jview.specs.DeclMarks.{unit_marks}
use Rattle.rf_jmodel.specs.declared.projects.PlacedUnit.{PlacedUnit}
use Rattle.rf_jmodel.specs.declared.projects.Project.{Project}

-- the file with this number
abbrev pub HasUnit : Project → ℕ → PlacedUnit → Type 0
HasUnit project u unit = slice_get project.units u ≡ Some unit

-- its tree, and what stands at its tokens
abbrev pub tree_of : PlacedUnit → UnitTree
tree_of unit = unit_shown unit.tree

abbrev pub marks_of : PlacedUnit → List Mark
marks_of unit = unit_marks (tree_of unit)

-- token k of file u
pub record TokAt (project : Project) (u k : ℕ) (tok : Tok) : Type 0 where
  pub unit : PlacedUnit
  pub has_unit : HasUnit project u unit
  pub has_tok : slice_get unit.toks.list k ≡ Some tok

-- what stands there
pub record MarkAt (project : Project) (u k : ℕ) (mark : Mark) : Type 0 where
  pub unit : PlacedUnit
  pub has_unit : HasUnit project u unit
  pub has_mark : slice_get (marks_of unit) k ≡ Some mark

-- the file and the token that it was when the project was numbered
pub record KeyAt (project : Project) (u k : ℕ) (key : ℕ × ℕ) : Type 0 where
  pub unit : PlacedUnit
  pub has_unit : HasUnit project u unit
  pub has_key : slice_get unit.from k ≡ Some (Some key)
