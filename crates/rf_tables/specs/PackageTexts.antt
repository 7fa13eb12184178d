-- The packages that the clauses of files name, as texts: each front of a clause's name is one (JLS 7.1).
use Rattle.std.specs.Prelude.{ℕ, List, [], ◌∷◌, ◌++◌, Option, Some, None, codes}
use Rattle.std.specs.List.{flat_map}
use Rattle.rf_jtree.specs.declared.tokens.Tok.{Tok}
use Rattle.rf_jtree.specs.DeclTrees.{UnitTree}
use Rattle.rf_jtree.specs.NameTrees.{NameTree}
use Rattle.rf_jmodel.specs.declared.projects.PlacedUnit.{PlacedUnit}
use Rattle.rf_jmodel.specs.Units.{tree_of}

-- a text with one identifier more, with two more, and so on
abbrev pub longer_texts : List ℕ → List (Tok × Tok) → List (List ℕ)
longer_texts text [] = []
longer_texts text (item ∷ rest) = ((text ++ codes ".") ++ item.1.text) ∷ longer_texts ((text ++ codes ".") ++ item.1.text) rest

abbrev pub front_texts : NameTree → List (List ℕ)
front_texts name = name.ids.first.text ∷ longer_texts name.ids.first.text name.ids.rest

abbrev pub clause_fronts : Option (Tok × NameTree × Tok) → List (List ℕ)
clause_fronts None = []
clause_fronts (Some clause) = front_texts clause.1

abbrev pub package_fronts : UnitTree → List (List ℕ)
package_fronts tree = clause_fronts tree.package

abbrev pub all_fronts : List PlacedUnit → List (List ℕ)
all_fronts units = flat_map (λ unit. package_fronts (tree_of unit)) units
