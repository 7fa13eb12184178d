-- When tables stand for a project. Ids of names are places in the project's names, a package being its dotted text.
use Rattle.std.specs.Prelude.{◌≡◌, ℕ, ◌↔◌, ◌&&◌, Bool, true, false, List, [], ◌∷◌, ◌++◌, Option, Some, None, is_none, AllPairs, Contains, length, nat_eq, slice_get}
use Rattle.std.specs.HashMap.{get}
use Rattle.std.specs.List.{AllZip, flat_map}
use Rattle.std.specs.Ordering.{nat_cmp, is_lt}
use Rattle.std.specs.Cmp.Lexicographic.{slice_cmp}
use Rattle.rf_text.specs.declared.span.NameId.{NameId}
use Rattle.rf_jtree.specs.declared.tokens.Tok.{Tok}
use Rattle.rf_jtree.specs.DeclTrees.{ImportTree, UnitTree}
use Rattle.rf_jtree.specs.NameText.{dotted, dotted_text}
use Rattle.rf_jtree.specs.NameTrees.{NameTree}
use Rattle.rf_jmodel.specs.declared.ids.TypeId.{TypeId}
use Rattle.rf_jmodel.specs.declared.projects.PlacedUnit.{PlacedUnit}
use Rattle.rf_jmodel.specs.declared.projects.Project.{Project}
use Rattle.rf_jmodel.specs.declared.tables.Tables.{Tables}
use Rattle.rf_jmodel.specs.declared.tables.TypeRow.{TypeRow}
use Rattle.rf_jmodel.specs.declared.tables.UnitRow.{UnitRow}
use Rattle.rf_jmodel.specs.FullNames.{is_class, is_interface, is_public, names_in}
use Rattle.rf_jmodel.specs.Packages.{IsPackage, java_lang}
use Rattle.rf_jmodel.specs.ProjectNames.{package_text, with_texts}
use Rattle.rf_jmodel.specs.Subtypes.{IsTypeId}
use Rattle.rf_jmodel.specs.Supertypes.{IsObject}
use Rattle.rf_jmodel.specs.TypeNames.{IsSingle, TypeNamed}
use Rattle.rf_jmodel.specs.Units.{HasUnit, tree_of}

-- the text of a name
abbrev pub IsText : Project → NameId → List ℕ → Type 0
IsText project id text = slice_get project.names id.0 ≡ Some text

-- names are the same where their ids are, and so are pairs of them
abbrev pub name_eq : NameId → NameId → Bool
name_eq one other = nat_eq one.0 other.0

abbrev pub names_eq : NameId × NameId → NameId × NameId → Bool
names_eq one other = name_eq one.0 other.0 && name_eq one.1 other.1

-- the packages, each once and in byte order
abbrev pub is_text_before : List ℕ → List ℕ → Bool
is_text_before one other = is_lt (slice_cmp nat_cmp one other)

pub record IsPackageText (project : Project) (text : List ℕ) : Type 0 where
  pub ids : List (List ℕ)
  pub is_package : IsPackage project ids
  pub is_text : text ≡ dotted ids

-- the type under its package and its name
pub record IsTypeRow (project : Project) (in_package name : NameId) (row : TypeRow) : Type 0 where
  pub x : ℕ
  pub unit : PlacedUnit
  pub has_unit : HasUnit project x unit
  pub has_id : IsTypeId project row.id x
  pub package_is : IsText project in_package (package_text unit.tree)
  pub name_is : IsText project name (tree_of unit).decl.id.text
  pub public_is : row.is_public ≡ is_public (tree_of unit)

-- The packages that a file imports on demand as they stand, `java.lang` before them (JLS 7.5.2, 7.5.5).
abbrev demand_text : NameTree → Option (Tok × Tok) → List (List ℕ)
demand_text name None = []
demand_text name (Some star) = dotted_text name ∷ []

abbrev pub demand_texts : UnitTree → List (List ℕ)
demand_texts tree = dotted java_lang ∷ flat_map (λ (import : ImportTree). demand_text import.name import.star) tree.imports

-- the types that a file imports one by one, under their last identifiers
pub record IsSingleRow (project : Project) (u : ℕ) (name : NameId) (id : TypeId) : Type 0 where
  pub text : List ℕ
  pub is_text : IsText project name text
  pub x : ℕ
  pub has_id : IsTypeId project id x
  pub imported : IsSingle project u text x

pub record IsUnitRow (project : Project) (u : ℕ) (row : UnitRow) : Type 0 where
  pub unit : PlacedUnit
  pub has_unit : HasUnit project u unit
  pub package_is : IsText project row.package (package_text unit.tree)
  pub own_name : IsText project row.own.0 (tree_of unit).decl.id.text
  pub own_id : IsTypeId project row.own.1 u
  pub single : (name : NameId) (id : TypeId) → (get name_eq row.single name ≡ Some id) ↔ IsSingleRow project u name id
  pub demand : AllZip (IsText project) row.demand (with_texts [] (demand_texts (tree_of unit)))

-- The direct supertypes of a type: those that it names, in order, the superclass first; before them Object for a class that
-- names no superclass, and for an interface that names no supertype.
abbrev pub has_no_first : UnitTree → Bool
has_no_first tree = is_none tree.decl.extends

pub record IsNamedType (project : Project) (x : ℕ) (name : NameTree) (id : TypeId) : Type 0 where
  pub y : ℕ
  pub named : TypeNamed project x name y
  pub has_id : IsTypeId project id y

pub record IsObjectId (project : Project) (id : TypeId) : Type 0 where
  pub x : ℕ
  pub is_object : IsObject project x
  pub has_id : IsTypeId project id x

pub data IsFirstSuper (project : Project) (x : ℕ) (tree : UnitTree) : List TypeId → Type 0 where
  named : has_no_first tree ≡ false → IsFirstSuper project x tree []
  of_object : is_class tree ≡ true → IsObject project x → IsFirstSuper project x tree []
  of_class : (object : TypeId) → has_no_first tree ≡ true → is_class tree ≡ true → ¬ IsObject project x
      → IsObjectId project object → IsFirstSuper project x tree (object ∷ [])
  of_interface : (object : TypeId) → has_no_first tree ≡ true → is_interface tree ≡ true
      → IsObjectId project object → IsFirstSuper project x tree (object ∷ [])

pub record AreSupers (project : Project) (x : ℕ) (supers : List TypeId) : Type 0 where
  pub unit : PlacedUnit
  pub has_unit : HasUnit project x unit
  pub first : List TypeId
  pub is_first : IsFirstSuper project x (tree_of unit) first
  pub named : List TypeId
  pub are_named : AllZip (IsNamedType project x) (names_in (tree_of unit).decl.extends ++ names_in (tree_of unit).decl.implements) named
  pub is : supers ≡ first ++ named

-- the tables are a project's
pub record StandsFor (tables : Tables) (project : Project) : Type 0 where
  pub packages : (text : List ℕ) → Contains tables.packages text ↔ IsPackageText project text
  pub packages_rise : AllPairs (λ one other. is_text_before one other ≡ true) tables.packages
  pub types : (in_package name : NameId) (row : TypeRow)
      → (get names_eq tables.types (in_package, name) ≡ Some row) ↔ IsTypeRow project in_package name row
  pub types_in_order : (id : ℕ) (entry : (NameId × NameId) × TypeRow) → slice_get tables.types.entries id ≡ Some entry → entry.1.id.0 ≡ id
  pub unit_each : length tables.units ≡ length project.units
  pub units : (u : ℕ) (row : UnitRow) → slice_get tables.units u ≡ Some row → IsUnitRow project u row
  pub supers_each : length tables.supers ≡ length project.units
  pub supers : (id : TypeId) (x : ℕ) (list : List TypeId) → IsTypeId project id x → slice_get tables.supers id.0 ≡ Some list
      → AreSupers project x list
