-- Direct supertypes and supertypes (JLS 4.10, 8.1.4, 8.1.5, 9.1.3). A type goes by the number of its file.
use Rattle.std.specs.Prelude.{◌≡◌, ℕ, true, None, Contains, codes}
use Rattle.rf_jtree.specs.NameTrees.{NameTree}
use Rattle.rf_jmodel.specs.declared.projects.PlacedUnit.{PlacedUnit}
use Rattle.rf_jmodel.specs.declared.projects.Project.{Project}
use Rattle.rf_jmodel.specs.FullNames.{IsTypeOf, names_in, is_class, is_interface}
use Rattle.rf_jmodel.specs.Packages.{java_lang}
use Rattle.rf_jmodel.specs.TypeNames.{TypeNamed}
use Rattle.rf_jmodel.specs.Units.{HasUnit, tree_of}

-- `java.lang.Object`
abbrev pub IsObject : Project → ℕ → Type 0
IsObject project x = IsTypeOf project java_lang (codes "Object") x

-- A class without `extends` has the direct superclass Object, except Object itself; and an interface without
-- superinterfaces has Object above it for its public methods (JLS 8.1.4, 9.2).
pub data DirectSuper (project : Project) : ℕ → ℕ → Type 0 where
  extended : (u x : ℕ) (unit : PlacedUnit) (name : NameTree) → HasUnit project u unit
      → Contains (names_in (tree_of unit).decl.extends) name → TypeNamed project u name x → DirectSuper project u x
  implemented : (u x : ℕ) (unit : PlacedUnit) (name : NameTree) → HasUnit project u unit
      → Contains (names_in (tree_of unit).decl.implements) name → TypeNamed project u name x → DirectSuper project u x
  of_class : (u x : ℕ) (unit : PlacedUnit) → HasUnit project u unit → is_class (tree_of unit) ≡ true
      → (tree_of unit).decl.extends ≡ None → ¬ IsObject project u → IsObject project x → DirectSuper project u x
  of_interface : (u x : ℕ) (unit : PlacedUnit) → HasUnit project u unit → is_interface (tree_of unit) ≡ true
      → (tree_of unit).decl.extends ≡ None → IsObject project x → DirectSuper project u x

-- a type and all above it; those above it alone
pub data IsBelow (project : Project) : ℕ → ℕ → Type 0 where
  itself : (x : ℕ) → IsBelow project x x
  above : (x y z : ℕ) → DirectSuper project x y → IsBelow project y z → IsBelow project x z

pub record IsAbove (project : Project) (x z : ℕ) : Type 0 where
  pub between : ℕ
  pub direct : DirectSuper project x between
  pub below : IsBelow project between z
