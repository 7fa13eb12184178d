-- The one mark of a file that declares its type.
use Rattle.std.proofs.Common.{◌≡◌, ℕ, true, false, Some, refl, ap, ◌∙◌, subst, slice_get}
use Rattle.rf_jview.specs.declared.marks.Mark.{Mark}
use Rattle.rf_jview.specs.declared.marks.Mark.TheVariants as m
use Rattle.rf_jmodel.specs.declared.projects.PlacedUnit.{PlacedUnit}
use Rattle.rf_jmodel.specs.declared.projects.Project.{Project}
use Rattle.rf_jmodel.specs.Elements.{StandsAt, is_type}
use Rattle.rf_jmodel.specs.Units.{HasUnit, tree_of, marks_of}
use Rattle.rf_jmodel.proofs.DeclTypes.{unit_typed}
use Rattle.rf_symtab.proofs.TypeIdLemmas.{unit-one}

not-both : false ≡ true → ⊥
not-both same = cc

pub is-type : (mark : Mark) → is_type mark ≡ true → mark ≡ m.Type
is-type m.Type is = refl
is-type m.Plain is = absurd (not-both is)
is-type m.Front is = absurd (not-both is)
is-type m.TypeName is = absurd (not-both is)
is-type (m.Part back) is = absurd (not-both is)
is-type (m.Name back) is = absurd (not-both is)
is-type m.FieldAccess is = absurd (not-both is)
is-type (m.Invokes invocation back) is = absurd (not-both is)
is-type m.Field is = absurd (not-both is)
is-type m.NextField is = absurd (not-both is)
is-type m.Method is = absurd (not-both is)
is-type m.Ctor is = absurd (not-both is)
is-type m.DefaultCtor is = absurd (not-both is)
is-type (m.Opens opening width) is = absurd (not-both is)
is-type (m.Local back) is = absurd (not-both is)
is-type (m.Ahead ahead) is = absurd (not-both is)

-- where a file's type stands
pub place : (project : Project) (x k : ℕ) (key : ℕ × ℕ) (unit : PlacedUnit) → HasUnit project x unit → StandsAt project is_type x k key
    → k ≡ (unit_typed (tree_of unit)).at
place project x k key unit has stands =
    let same = unit-one project x stands.has_mark.unit unit stands.has_mark.has_unit has in
    let at = subst (λ (one : PlacedUnit). slice_get (marks_of one) k ≡ Some stands.mark) same stands.has_mark.has_mark in
    (unit_typed (tree_of unit)).only k (at ∙ ap (λ (mark : Mark). Some mark) (is-type stands.mark stands.is_of))
