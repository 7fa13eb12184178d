-- The packages of a project (JLS 7.1).
use Rattle.std.specs.Prelude.{◌≡◌, ◌≢◌, ℕ, List, [], ◌∷◌, ◌++◌, codes}
use Rattle.rf_jmodel.specs.declared.projects.PlacedUnit.{PlacedUnit}
use Rattle.rf_jmodel.specs.declared.projects.Project.{Project}
use Rattle.rf_jmodel.specs.FullNames.{package_ids}
use Rattle.rf_jmodel.specs.Units.{HasUnit, tree_of}

-- `java.lang` (JLS 7.5.5)
abbrev pub java_lang : List (List ℕ)
java_lang = codes "java" ∷ codes "lang" ∷ []

-- The package of each file is a package, and so is each that it is a part of.
pub record IsPackage (project : Project) (ids : List (List ℕ)) : Type 0 where
  pub u : ℕ
  pub unit : PlacedUnit
  pub has_unit : HasUnit project u unit
  pub more : List (List ℕ)
  pub begins : package_ids (tree_of unit) ≡ ids ++ more
  pub is_named : ids ≢ []

-- two types are in one package
pub record IsInPackageOf (project : Project) (x y : ℕ) : Type 0 where
  pub one : PlacedUnit
  pub other : PlacedUnit
  pub has_one : HasUnit project x one
  pub has_other : HasUnit project y other
  pub same : package_ids (tree_of one) ≡ package_ids (tree_of other)
