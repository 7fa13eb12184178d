-- The package and the name of a file's type (JLS 6.7, 7.4), and names of types and packages as lists of texts.
use Rattle.std.specs.Prelude.{◌≡◌, ℕ, Bool, List, [], ◌∷◌, map, Option, Some, None}
use Rattle.rf_jtree.specs.declared.keyword_names.TheConstants.{CLASS, INTERFACE, PUBLIC}
use Rattle.rf_jtree.specs.declared.tokens.Tok.{Tok}
use Rattle.rf_jtree.specs.DeclFits.{has_word_of}
use Rattle.rf_jtree.specs.DeclTrees.{UnitTree}
use Rattle.rf_jtree.specs.Kinds.{is_key_of}
use Rattle.rf_jtree.specs.NameText.{id_texts}
use Rattle.rf_jtree.specs.NameTrees.{ManyTree, NameTree}
use Rattle.rf_jmodel.specs.declared.projects.PlacedUnit.{PlacedUnit}
use Rattle.rf_jmodel.specs.declared.projects.Project.{Project}
use Rattle.rf_jmodel.specs.Units.{HasUnit, tree_of}

-- the identifiers of a file's package, none for the unnamed one (JLS 7.4.2)
abbrev clause_ids : Option (Tok × NameTree × Tok) → List (List ℕ)
clause_ids None = []
clause_ids (Some clause) = id_texts clause.1

abbrev pub package_ids : UnitTree → List (List ℕ)
package_ids tree = clause_ids tree.package

-- the last identifier of a name, and those before it
abbrev last_text : List ℕ → List (Tok × Tok) → List ℕ
last_text text [] = text
last_text text (item ∷ rest) = last_text item.1.text rest

abbrev front_texts : List ℕ → List (Tok × Tok) → List (List ℕ)
front_texts text [] = []
front_texts text (item ∷ rest) = text ∷ front_texts item.1.text rest

abbrev pub last_id : NameTree → List ℕ
last_id name = last_text name.ids.first.text name.ids.rest

abbrev pub front_ids : NameTree → List (List ℕ)
front_ids name = front_texts name.ids.first.text name.ids.rest

-- names of types behind a keyword, as they stand (JLS 8.1.4, 8.1.5, 9.1.3)
abbrev pub names_in : Option (Tok × ManyTree NameTree) → List NameTree
names_in None = []
names_in (Some names) = names.1.first ∷ map (λ item. item.1) names.1.rest

-- a class, an interface, a public type (JLS 8.1, 9.1, 6.6.1)
abbrev pub is_class : UnitTree → Bool
is_class tree = is_key_of (CLASS ∷ []) tree.decl.word

abbrev pub is_interface : UnitTree → Bool
is_interface tree = is_key_of (INTERFACE ∷ []) tree.decl.word

abbrev pub is_public : UnitTree → Bool
is_public tree = has_word_of (PUBLIC ∷ []) tree.decl.mods

-- the type of file x is that of this package and this name
pub record IsTypeOf (project : Project) (ids : List (List ℕ)) (name : List ℕ) (x : ℕ) : Type 0 where
  pub unit : PlacedUnit
  pub has_unit : HasUnit project x unit
  pub in_package : package_ids (tree_of unit) ≡ ids
  pub is_named : (tree_of unit).decl.id.text ≡ name
