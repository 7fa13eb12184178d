-- Types and their ids, one for one.
use Rattle.std.proofs.Common.{◌≡◌, ℕ, true, false, Some, refl, sym, ap, ◌∙◌, subst, slice_get}
use Rattle.rf_jview.specs.declared.marks.Mark.{Mark}
use Rattle.rf_jview.specs.declared.marks.Mark.TheVariants as m
use Rattle.rf_jmodel.specs.declared.ids.TypeId.{TypeId}
use Rattle.rf_jmodel.specs.declared.projects.PlacedUnit.{PlacedUnit}
use Rattle.rf_jmodel.specs.declared.projects.Project.{Project}
use Rattle.rf_jmodel.specs.Elements.{HasId, StandsAt, is_type}
use Rattle.rf_jmodel.specs.Subtypes.{IsTypeId}
use Rattle.rf_jmodel.specs.Units.{KeyAt, HasUnit, tree_of, marks_of}
use Rattle.rf_jmodel.specs.Whole.{IsWhole}
use Rattle.rf_jmodel.proofs.DeclTypes.{unit_typed}
use Rattle.rf_jmodel.proofs.IdLemmas.{one-element, one-id}
use Rattle.rf_symtab.proofs.ListLemmas.{some-is}

not-both : false ≡ true → ⊥
not-both same = cc

is-type : (mark : Mark) → is_type mark ≡ true → mark ≡ m.Type
is-type m.Type is = refl
is-type m.Plain is = absurd (not-both is)
is-type m.Front is = absurd (not-both is)
is-type m.TypeName is = absurd (not-both is)
is-type (m.Part back) is = absurd (not-both is)
is-type (m.Name back) is = absurd (not-both is)
is-type m.FieldAccess is = absurd (not-both is)
is-type (m.Invokes invocation back) is = absurd (not-both is)
is-type m.Field is = absurd (not-both is)
is-type m.NextField is = absurd (not-both is)
is-type m.Method is = absurd (not-both is)
is-type m.Ctor is = absurd (not-both is)
is-type m.DefaultCtor is = absurd (not-both is)
is-type (m.Opens opening width) is = absurd (not-both is)
is-type (m.Local back) is = absurd (not-both is)
is-type (m.Ahead ahead) is = absurd (not-both is)

pub unit-one : (project : Project) (u : ℕ) (one other : PlacedUnit) → HasUnit project u one → HasUnit project u other → one ≡ other
unit-one project u one other has other-has = some-is (sym has ∙ other-has)

-- an id is that of one file's type
pub one-type : (project : Project) (id : TypeId) (x y : ℕ) → IsWhole project → IsTypeId project id x → IsTypeId project id y → x ≡ y
one-type project id x y whole one other =
    let same = one-element project is_type id.0 one.key other.key one.has_id other.has_id in
    let first = subst (λ (key : ℕ × ℕ). KeyAt project x one.k key) same one.stands.has_key in
    (whole.once x one.k y other.k other.key first other.stands.has_key).0

-- where a file's type stands
place : (project : Project) (x k : ℕ) (key : ℕ × ℕ) (unit : PlacedUnit) → HasUnit project x unit → StandsAt project is_type x k key
    → k ≡ (unit_typed (tree_of unit)).at
place project x k key unit has stands =
    let same = unit-one project x stands.has_mark.unit unit stands.has_mark.has_unit has in
    let at = subst (λ (one : PlacedUnit). slice_get (marks_of one) k ≡ Some stands.mark) same stands.has_mark.has_mark in
    (unit_typed (tree_of unit)).only k (at ∙ ap (λ (mark : Mark). Some mark) (is-type stands.mark stands.is_of))

key-one : (project : Project) (u k : ℕ) (one other : ℕ × ℕ) → KeyAt project u k one → KeyAt project u k other → one ≡ other
key-one project u k one other first second =
    let same = unit-one project u first.unit second.unit first.has_unit second.has_unit in
    let at = subst (λ (unit : PlacedUnit). slice_get unit.from k ≡ Some (Some one)) same first.has_key in
    some-is (some-is (sym at ∙ second.has_key))

abbrev numbered : ℕ → TypeId
numbered number = record { 0 = number }

pub number-of : (one other : TypeId) → one.0 ≡ other.0 → one ≡ other
number-of one other same = ap numbered same

-- and a file's type has one id
pub one-type-id : (project : Project) (one other : TypeId) (x : ℕ) → IsTypeId project one x → IsTypeId project other x → one ≡ other
one-type-id project one other x first second =
    let unit = first.stands.has_mark.unit in
    let has = first.stands.has_mark.has_unit in
    let tokens = place project x first.k first.key unit has first.stands ∙ sym (place project x second.k second.key unit has second.stands) in
    let at = subst (λ (k : ℕ). KeyAt project x k first.key) tokens first.stands.has_key in
    let keys = key-one project x second.k first.key second.key at second.stands.has_key in
    let has-id = subst (λ (key : ℕ × ℕ). HasId project is_type one.0 key) keys first.has_id in
    number-of one other (one-id project is_type one.0 other.0 second.key has-id second.has_id)
