-- What names of types mean (JLS 6.4.1, 6.5.5, 7.5). A type goes by the number of its file.
use Rattle.std.specs.Prelude.{◌≡◌, ℕ, ◌⊎◌, true, List, [], ◌∷◌, IsSome, None, Contains}
use Rattle.rf_jtree.specs.DeclTrees.{ImportTree}
use Rattle.rf_jtree.specs.NameText.{id_texts}
use Rattle.rf_jtree.specs.NameTrees.{NameTree}
use Rattle.rf_jmodel.specs.declared.projects.PlacedUnit.{PlacedUnit}
use Rattle.rf_jmodel.specs.declared.projects.Project.{Project}
use Rattle.rf_jmodel.specs.FullNames.{IsTypeOf, package_ids, last_id, front_ids, is_public}
use Rattle.rf_jmodel.specs.Packages.{IsInPackageOf, java_lang}
use Rattle.rf_jmodel.specs.Sets.{IsEmpty, OrElse}
use Rattle.rf_jmodel.specs.Units.{HasUnit, tree_of}

-- A type is accessible from a file if it is public or in the file's package (JLS 6.6.1).
pub record IsPublic (project : Project) (x : ℕ) : Type 0 where
  pub unit : PlacedUnit
  pub has_unit : HasUnit project x unit
  pub is : is_public (tree_of unit) ≡ true

abbrev pub IsAccessible : Project → ℕ → ℕ → Type 0
IsAccessible project u x = (IsPublic project x) ⊎ (IsInPackageOf project u x)

-- the type of a package that has this name, if it is accessible
abbrev pub IsQualified : Project → ℕ → List (List ℕ) → List ℕ → ℕ → Type 0
IsQualified project u ids name x = IsTypeOf project ids name x × IsAccessible project u x

-- the file's own type
pub record IsOwn (project : Project) (u : ℕ) (name : List ℕ) (x : ℕ) : Type 0 where
  pub unit : PlacedUnit
  pub has_unit : HasUnit project u unit
  pub is_named : (tree_of unit).decl.id.text ≡ name
  pub is_own : x ≡ u

-- a type that the file imports by its full name (JLS 7.5.1). Nothing obscures a name in an import.
pub record IsSingle (project : Project) (u : ℕ) (name : List ℕ) (x : ℕ) : Type 0 where
  pub unit : PlacedUnit
  pub has_unit : HasUnit project u unit
  pub import : ImportTree
  pub imports : Contains (tree_of unit).imports import
  pub is_single : import.star ≡ None
  pub is_named : last_id import.name ≡ name
  pub is_type : IsQualified project u (front_ids import.name) name x

-- a type of the file's package (JLS 6.3)
pub record IsBeside (project : Project) (u : ℕ) (name : List ℕ) (x : ℕ) : Type 0 where
  pub unit : PlacedUnit
  pub has_unit : HasUnit project u unit
  pub is_type : IsTypeOf project (package_ids (tree_of unit)) name x

-- a package that the file imports on demand (JLS 7.5.2), `java.lang` too (JLS 7.5.5)
pub record IsImported (project : Project) (u : ℕ) (ids : List (List ℕ)) : Type 0 where
  pub unit : PlacedUnit
  pub has_unit : HasUnit project u unit
  pub import : ImportTree
  pub imports : Contains (tree_of unit).imports import
  pub on_demand : IsSome import.star
  pub is_named : id_texts import.name ≡ ids

abbrev pub IsDemanded : Project → ℕ → List (List ℕ) → Type 0
IsDemanded project u ids = (ids ≡ java_lang) ⊎ (IsImported project u ids)

-- an accessible type of such a package
pub record IsOnDemand (project : Project) (u : ℕ) (name : List ℕ) (x : ℕ) : Type 0 where
  pub ids : List (List ℕ)
  pub demanded : IsDemanded project u ids
  pub is_type : IsQualified project u ids name x

-- A simple name is the file's own type, or else a type that it imports by its name, or else one of its package, or else
-- one that it imports on demand (JLS 6.4.1).
abbrev pub TypeAt : Project → ℕ → List ℕ → ℕ → Type 0
TypeAt project u name =
    OrElse (IsOwn project u name) (OrElse (IsSingle project u name) (OrElse (IsBeside project u name) (IsOnDemand project u name)))

-- A name of a type in a file, as the identifiers before its last one, and that one. A qualified name is that of a type of a
-- package, unless its first identifier is a type: types have no member types here (JLS 6.5.2, 6.5.5).
abbrev pub TypeNamedBy : Project → ℕ → List (List ℕ) → List ℕ → ℕ → Type 0
TypeNamedBy project u [] name x = TypeAt project u name x
TypeNamedBy project u (first ∷ ids) name x = IsEmpty (TypeAt project u first) × IsQualified project u (first ∷ ids) name x

abbrev pub TypeNamed : Project → ℕ → NameTree → ℕ → Type 0
TypeNamed project u name x = TypeNamedBy project u (front_ids name) (last_id name) x
