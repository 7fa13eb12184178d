-- A file declares one type (JLS 7.6): one of its marks says so.
use Rattle.std.specs.Prelude.{◌≡◌, ℕ, List, Some, slice_get}
use Rattle.rf_jview.specs.declared.marks.Mark.{Mark}
use Rattle.rf_jview.specs.declared.marks.Mark.TheVariants as m

pub record DeclaresOneType (marks : List Mark) : Type 0 where
  pub at : ℕ
  pub declared : slice_get marks at ≡ Some m.Type
  pub only : (k : ℕ) → slice_get marks k ≡ Some m.Type → k ≡ at
