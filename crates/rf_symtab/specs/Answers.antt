-- What an answer says of a set of types.
use Rattle.std.specs.Prelude.{◌≢◌, ℕ, AllPairs}
use Rattle.rf_jmodel.specs.declared.ids.TypeId.{TypeId}
use Rattle.rf_jmodel.specs.declared.projects.Project.{Project}
use Rattle.rf_jmodel.specs.Sets.{IsEmpty, IsOnly, HasSeveral}
use Rattle.rf_jmodel.specs.Subtypes.{IsTypeId}
use Rattle.rf_symtab.specs.declared.answers.Answer.{Answer}
use Rattle.rf_symtab.specs.declared.answers.Answer.TheVariants as answer

-- no text stands twice among the names of a project
abbrev pub HasNamesOnce : Project → Type 0
HasNamesOnce project = AllPairs (λ one other. one ≢ other) project.names

-- the type with this id is one of the set, and the only one
pub record IsOne (project : Project) (set : ℕ → Type 0) (id : TypeId) : Type 0 where
  pub x : ℕ
  pub has_id : IsTypeId project id x
  pub is_only : IsOnly set x

abbrev pub IsAnswer : Project → (ℕ → Type 0) → Answer → Type 0
IsAnswer project set (answer.One id) = IsOne project set id
IsAnswer project set answer.None = IsEmpty set
IsAnswer project set answer.Several = HasSeveral set
