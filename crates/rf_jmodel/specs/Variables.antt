-- Where local variables and parameters are in scope (JLS 6.3).
use Rattle.std.specs.Prelude.{◌≡◌, ℕ, ◌<◌, ◌≤◌, List, Some, slice_get, take}
use Rattle.rf_jtree.specs.declared.tokens.Tok.{Tok}
use Rattle.rf_jview.specs.declared.marks.Mark.{Mark}
use Rattle.rf_jview.specs.MarkWords.{counted, steady}
use Rattle.rf_jview.specs.Scopes.{scope_of}
use Rattle.rf_jmodel.specs.declared.projects.PlacedUnit.{PlacedUnit}
use Rattle.rf_jmodel.specs.Units.{marks_of}

-- the place of a token among those that distances count
abbrev pub steady_place : List Mark → ℕ → ℕ
steady_place marks k = counted (take k marks)

-- the variable at token `declared` has this name, and token k stands in its scope
pub record IsInScope (unit : PlacedUnit) (declared : ℕ) (name : List ℕ) (k : ℕ) : Type 0 where
  pub tok : Tok
  pub has_tok : slice_get unit.toks.list declared ≡ Some tok
  pub is_named : tok.text ≡ name
  pub range : ℕ × ℕ
  pub has_scope : scope_of (steady (marks_of unit)) (steady_place (marks_of unit) declared) ≡ Some range
  pub begun : range.0 ≤ steady_place (marks_of unit) k
  pub not_ended : steady_place (marks_of unit) k < range.1
