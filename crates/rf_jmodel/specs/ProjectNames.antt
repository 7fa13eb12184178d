-- The names of a project that is numbered: of each file the text of its package, and then those of its identifiers.
use Rattle.std.specs.Prelude.{ℕ, List, [], ◌∷◌, ◌++◌, Option, Some, None, cond}
use Rattle.std.specs.List.{flat_map, list_any}
use Rattle.std.specs.Str.{bytes_eq}
use Rattle.rf_jtree.specs.declared.decls.Unit.{Unit as File}
use Rattle.rf_jtree.specs.declared.tokens.Tok.{Tok}
use Rattle.rf_jtree.specs.declared.tokens.TokKind.{TokKind}
use Rattle.rf_jtree.specs.declared.tokens.TokKind.TheVariants as kind
use Rattle.rf_jtree.specs.DeclShown.{unit_shown}
use Rattle.rf_jtree.specs.NameText.{dotted_text}
use Rattle.rf_jtree.specs.NameTrees.{NameTree}
use Rattle.rf_jmodel.specs.declared.projects.PlacedUnit.{PlacedUnit}

-- distinct texts, with one more at the end if it isn't among them
abbrev pub with_text : List (List ℕ) → List ℕ → List (List ℕ)
with_text known text = cond (list_any (bytes_eq text) known) known (known ++ text ∷ [])

abbrev pub with_texts : List (List ℕ) → List (List ℕ) → List (List ℕ)
with_texts known [] = known
with_texts known (text ∷ texts) = with_texts (with_text known text) texts

-- the text of a token that is an identifier
abbrev pub identifier_text : TokKind → List ℕ → List (List ℕ)
identifier_text kind.Ident text = text ∷ []
identifier_text kind text = []

abbrev pub identifier_texts : List Tok → List (List ℕ)
identifier_texts toks = flat_map (λ tok. identifier_text tok.kind tok.text) toks

-- A package is its dotted text, the unnamed one the empty text (JLS 7.4).
abbrev pub clause_text : Option (Tok × NameTree × Tok) → List ℕ
clause_text None = []
clause_text (Some clause) = dotted_text clause.1

abbrev pub package_text : File → List ℕ
package_text tree = clause_text (unit_shown tree).package

-- the names that stand in a file, and in files one after the other
abbrev pub unit_texts : PlacedUnit → List (List ℕ)
unit_texts unit = package_text unit.tree ∷ identifier_texts unit.toks.list

abbrev pub texts_of : List PlacedUnit → List (List ℕ)
texts_of units = flat_map unit_texts units
