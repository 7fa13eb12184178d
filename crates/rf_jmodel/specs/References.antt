-- The references of a project, each at its place: the last token of its expression, or an identifier inside a name of an
-- expression, or the brace that begins what invokes a constructor without a word.
use Rattle.std.specs.Prelude.{◌≡◌, ◌≢◌, ℕ, zero, suc, ◌+◌, ◌*◌, ◌-◌, ◌<◌, ◌≤◌, Bool, true, false, List, [], ◌∷◌, Option, Some, None, slice_get, drop}
use Rattle.rf_jtree.specs.declared.tokens.Tok.{Tok}
use Rattle.rf_jview.specs.declared.marks.Mark.{Mark}
use Rattle.rf_jview.specs.declared.marks.Mark.TheVariants as m
use Rattle.rf_jview.specs.declared.marks.Opening.TheVariants as o
use Rattle.rf_jview.specs.MarkWords.{may_refer, identifier_back}
use Rattle.rf_jmodel.specs.declared.projects.PlacedUnit.{PlacedUnit}
use Rattle.rf_jmodel.specs.declared.projects.Project.{Project}
use Rattle.rf_jmodel.specs.Fields.{Access, HasField}
use Rattle.rf_jmodel.specs.FullNames.{IsTypeOf}
use Rattle.rf_jmodel.specs.Sets.{IsEmpty}
use Rattle.rf_jmodel.specs.Supertypes.{IsObject}
use Rattle.rf_jmodel.specs.TypeNames.{TypeAt}
use Rattle.rf_jmodel.specs.Units.{HasUnit, MarkAt, KeyAt, marks_of}
use Rattle.rf_jmodel.specs.Variables.{IsInScope, steady_place}

-- the texts of the first n identifiers of a name that stands at the head of these tokens
abbrev pub ids_of : ℕ → List Tok → List (List ℕ)
ids_of zero toks = []
ids_of (suc n) [] = []
ids_of (suc n) (id ∷ []) = id.text ∷ []
ids_of (suc n) (id ∷ dot ∷ toks) = id.text ∷ ids_of n toks

-- where the name of an expression begins that an identifier is part of
abbrev pub name_start : ℕ → Mark → Option ℕ
name_start k (m.Part back) = Some (k - back)
name_start k (m.Name back) = Some (k - back)
name_start k mark = None

-- The identifiers of a name of an expression up to this one name a package: the first one is no variable in scope, no field
-- of the type around it and no type, and no further one is a type of the package before it (JLS 6.5.2).
pub record IsPackagePart (project : Project) (u k : ℕ) : Type 0 where
  pub unit : PlacedUnit
  pub has_unit : HasUnit project u unit
  pub mark : Mark
  pub has_mark : slice_get (marks_of unit) k ≡ Some mark
  pub start : ℕ
  pub starts : name_start k mark ≡ Some start
  pub first : Tok
  pub has_first : slice_get unit.toks.list start ≡ Some first
  pub no_variable : (declared : ℕ) → IsInScope unit declared first.text start → ⊥
  pub no_field : (owner : ℕ) (access : Access) → HasField project first.text u owner access → ⊥
  pub no_type : IsEmpty (TypeAt project u first.text)
  pub no_type_behind : (n : ℕ) (tok : Tok) → 0 < n → start + 2 * n ≤ k → slice_get unit.toks.list (start + 2 * n) ≡ Some tok
      → IsEmpty (IsTypeOf project (ids_of n (drop start unit.toks.list)) tok.text)

-- an identifier of such a name that isn't its last; what invokes a superclass's constructor without a word
abbrev pub is_part : Mark → Bool
is_part (m.Part back) = true
is_part mark = false

abbrev pub is_implicit : Mark → Bool
is_implicit m.DefaultCtor = true
is_implicit (m.Opens o.ImplicitSuper width) = true
is_implicit mark = false

-- A reference has its place at token k of file u. A package is none, where something else comes behind it; and the
-- constructors of Object invoke none of a superclass (JLS 6.5.2, 8.8.7, 8.8.9).
pub record IsReference (project : Project) (u k : ℕ) : Type 0 where
  pub mark : Mark
  pub has_mark : MarkAt project u k mark
  pub refers : may_refer mark ≡ true
  pub not_package : is_part mark ≡ true → IsPackagePart project u k → ⊥
  pub not_of_object : is_implicit mark ≡ true → IsObject project u → ⊥

-- the reference with this key as its id
pub record HasReference (project : Project) (key : ℕ × ℕ) : Type 0 where
  pub u : ℕ
  pub k : ℕ
  pub is_reference : IsReference project u k
  pub has_key : KeyAt project u k key

-- Token i is the identifier of the reference whose place is token k, or its keyword.
pub record HasIdentifier (project : Project) (u k i : ℕ) : Type 0 where
  pub unit : PlacedUnit
  pub has_unit : HasUnit project u unit
  pub mark : Mark
  pub has_mark : slice_get (marks_of unit) k ≡ Some mark
  pub own : Mark
  pub has_own : slice_get (marks_of unit) i ≡ Some own
  pub counts : own ≢ m.Front
  pub so_far : steady_place (marks_of unit) i + identifier_back mark ≡ steady_place (marks_of unit) k
