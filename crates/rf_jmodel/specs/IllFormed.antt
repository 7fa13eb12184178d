-- The rules on files, names of types and supertypes, by their numbers (JLS 6.4, 7.5, 7.6, 8.1.4, 8.1.5, 9.1.3). Types go by
-- the numbers of their files.
use Rattle.std.specs.Prelude.{◌≡◌, ◌≢◌, ℕ, ◌<◌, true, List, [], ◌∷◌, ◌++◌, Some, None, IsSome, cond, Contains, codes, slice_get}
use Rattle.std.specs.List.{flat_map}
use Rattle.rf_jtree.specs.DeclTrees.{ImportTree, UnitTree}
use Rattle.rf_jtree.specs.NameText.{id_texts}
use Rattle.rf_jtree.specs.NameTrees.{NameTree}
use Rattle.rf_jmodel.specs.declared.projects.PlacedUnit.{PlacedUnit}
use Rattle.rf_jmodel.specs.declared.projects.Project.{Project}
use Rattle.rf_jmodel.specs.Elements.{IsBefore, StandsAt, is_type}
use Rattle.rf_jmodel.specs.FullNames.{IsTypeOf, package_ids, last_id, names_in, is_class, is_interface}
use Rattle.rf_jmodel.specs.Packages.{IsPackage}
use Rattle.rf_jmodel.specs.Supertypes.{IsAbove}
use Rattle.rf_jmodel.specs.TypeNames.{TypeNamed}
use Rattle.rf_jmodel.specs.Units.{HasUnit, tree_of}

-- the full name of a file's type (JLS 6.7)
abbrev pub full_ids : UnitTree → List (List ℕ)
full_ids tree = package_ids tree ++ tree.decl.id.text ∷ []

-- of two types this one is the earlier in element order
pub record IsTypeBefore (project : Project) (x y : ℕ) : Type 0 where
  pub k : ℕ
  pub l : ℕ
  pub key : ℕ × ℕ
  pub other : ℕ × ℕ
  pub stands : StandsAt project is_type x k key
  pub other_stands : StandsAt project is_type y l other
  pub order : IsBefore key other

-- 1: the path isn't the package with `/` for dots, and then the name with `.java` (JLS 7.6)
abbrev pub path_of : UnitTree → List ℕ
path_of tree = flat_map (λ id. id ++ codes "/") (package_ids tree) ++ tree.decl.id.text ++ codes ".java"

pub record HasWrongPath (project : Project) (x : ℕ) : Type 0 where
  pub unit : PlacedUnit
  pub has_unit : HasUnit project x unit
  pub differs : unit.path ≢ path_of (tree_of unit)

-- 2: two types have one full name (JLS 7.6)
pub record HaveOneName (project : Project) (x y : ℕ) : Type 0 where
  pub one : PlacedUnit
  pub other : PlacedUnit
  pub has_one : HasUnit project x one
  pub has_other : HasUnit project y other
  pub order : IsTypeBefore project x y
  pub same : full_ids (tree_of one) ≡ full_ids (tree_of other)

-- 3: a type's full name is a package (JLS 7.1)
pub record IsNamedAsPackage (project : Project) (x : ℕ) : Type 0 where
  pub unit : PlacedUnit
  pub has_unit : HasUnit project x unit
  pub is_package : IsPackage project (full_ids (tree_of unit))

-- a file has this import
pub record HasImport (project : Project) (x : ℕ) (import : ImportTree) : Type 0 where
  pub unit : PlacedUnit
  pub has_unit : HasUnit project x unit
  pub imports : Contains (tree_of unit).imports import

-- 4: an import on demand of a package that has no type of its own (JLS 7.5.2)
pub record ImportsNothing (project : Project) (x : ℕ) : Type 0 where
  pub import : ImportTree
  pub imports : HasImport project x import
  pub on_demand : IsSome import.star
  pub none : (name : List ℕ) (y : ℕ) → IsTypeOf project (id_texts import.name) name y → ⊥

-- 5: an import of one type that clashes with another one, or with the file's own type (JLS 7.5.1)
pub record ImportsTwo (project : Project) (x : ℕ) : Type 0 where
  pub one : ImportTree
  pub other : ImportTree
  pub imports_one : HasImport project x one
  pub imports_other : HasImport project x other
  pub one_is_single : one.star ≡ None
  pub other_is_single : other.star ≡ None
  pub one_name : last_id one.name ≡ last_id other.name
  pub differ : id_texts one.name ≢ id_texts other.name

pub record ImportsOwnName (project : Project) (x : ℕ) : Type 0 where
  pub unit : PlacedUnit
  pub has_unit : HasUnit project x unit
  pub import : ImportTree
  pub imports : HasImport project x import
  pub is_single : import.star ≡ None
  pub own_name : last_id import.name ≡ (tree_of unit).decl.id.text
  pub differs : id_texts import.name ≢ full_ids (tree_of unit)

-- 6: what a class extends is no class, what it implements no interface, what an interface extends is a class, or a
-- superinterface stands twice (JLS 8.1.4, 8.1.5, 9.1.3). It is read where names of types mean one type each.
pub record NamesClass (project : Project) (x : ℕ) (name : NameTree) : Type 0 where
  pub y : ℕ
  pub named : TypeNamed project x name y
  pub unit : PlacedUnit
  pub has_unit : HasUnit project y unit
  pub is : is_class (tree_of unit) ≡ true

pub record NamesInterface (project : Project) (x : ℕ) (name : NameTree) : Type 0 where
  pub y : ℕ
  pub named : TypeNamed project x name y
  pub unit : PlacedUnit
  pub has_unit : HasUnit project y unit
  pub is : is_interface (tree_of unit) ≡ true

abbrev pub superinterfaces : UnitTree → List NameTree
superinterfaces tree = cond (is_class tree) (names_in tree.decl.implements) (names_in tree.decl.extends)

pub data HasWrongSuper (project : Project) : ℕ → Type 0 where
  extends_interface : (x : ℕ) (unit : PlacedUnit) (name : NameTree) → HasUnit project x unit → is_class (tree_of unit) ≡ true
      → Contains (names_in (tree_of unit).decl.extends) name → NamesInterface project x name → HasWrongSuper project x
  takes_class : (x : ℕ) (unit : PlacedUnit) (name : NameTree) → HasUnit project x unit
      → Contains (superinterfaces (tree_of unit)) name → NamesClass project x name → HasWrongSuper project x
  repeats : (x i j y : ℕ) (unit : PlacedUnit) (one other : NameTree) → HasUnit project x unit → i < j
      → slice_get (superinterfaces (tree_of unit)) i ≡ Some one → slice_get (superinterfaces (tree_of unit)) j ≡ Some other
      → TypeNamed project x one y → TypeNamed project x other y → HasWrongSuper project x

-- The rule with a number is broken at two types, which are one where it speaks of one. 7: a type above itself (JLS 8.1.4,
-- 9.1.3).
pub data IsBroken (project : Project) : ℕ → ℕ → ℕ → Type 0 where
  path : (x : ℕ) → HasWrongPath project x → IsBroken project 1 x x
  twice : (x y : ℕ) → HaveOneName project x y → IsBroken project 2 x y
  as_package : (x : ℕ) → IsNamedAsPackage project x → IsBroken project 3 x x
  of_nothing : (x : ℕ) → ImportsNothing project x → IsBroken project 4 x x
  two_imports : (x : ℕ) → ImportsTwo project x → IsBroken project 5 x x
  own_name : (x : ℕ) → ImportsOwnName project x → IsBroken project 5 x x
  wrong_super : (x : ℕ) → HasWrongSuper project x → IsBroken project 6 x x
  above_itself : (x : ℕ) → IsAbove project x x → IsBroken project 7 x x
