-- The identifiers of a file's package and of its imports, and their dotted texts.
use Rattle.std.proofs.Common.{◌≡◌, ℕ, ◌⊎◌, List, [], ◌∷◌, Option, Some, None, All, Contains, IfSome, map, refl, sym, ◌∙◌, subst, inl, inr}
use Rattle.std.specs.List.{flat_map, AllByRecursion}
use Rattle.std.proofs.lemmas.List.Elements.{All-get_or}
use Rattle.std.proofs.lemmas.Option.{slice_get_within, get_or_from_slice_get}
use Rattle.rf_jtree.specs.declared.decls.Unit.{Unit as File}
use Rattle.rf_jtree.specs.declared.names.Name.{Name}
use Rattle.rf_jtree.specs.declared.operator_names.TheConstants.{DOT}
use Rattle.rf_jtree.specs.declared.tokens.Tok.{Tok}
use Rattle.rf_jtree.specs.declared.tokens.TokKind.{TokKind}
use Rattle.rf_jtree.specs.declared.tokens.TokKind.TheVariants as kind
use Rattle.rf_jtree.specs.DeclFits.{ImportFits, PackageFits}
use Rattle.rf_jtree.specs.DeclShown.{unit_shown}
use Rattle.rf_jtree.specs.DeclTrees.{ImportTree, UnitTree, unit_yield, import_yield, package_yield}
use Rattle.rf_jtree.specs.Kinds.{IsIdent, IsOp}
use Rattle.rf_jtree.specs.NameFits.{EachFits, NameFits}
use Rattle.rf_jtree.specs.NameText.{dotted, id_texts}
use Rattle.rf_jtree.specs.NameTrees.{NameTree, name_yield, option_yield}
use Rattle.rf_jtree.specs.Tokens.{IsToken, CutsTokens}
use Rattle.rf_jmodel.specs.declared.projects.PlacedUnit.{PlacedUnit}
use Rattle.rf_jmodel.specs.declared.projects.Project.{Project}
use Rattle.rf_jmodel.specs.FullNames.{package_ids}
use Rattle.rf_jmodel.specs.ProjectNames.{package_text}
use Rattle.rf_jmodel.specs.Units.{HasUnit, tree_of}
use Rattle.rf_jmodel.specs.Whole.{IsParsed}
use Rattle.rf_symtab.proofs.ListLemmas.{either, each-front, each-rest}
use Rattle.rf_jmodel.proofs.NameLemmas.{in-none}
use Rattle.rf_symtab.proofs.PointLemmas.{IsPlain, dotted-one}
use Rattle.rf_symtab.proofs.WordLemmas.{word-plain}

-- each token of a text is one of its kind, so an identifier is plain
abbrev IsPiece : Tok → Type 0
IsPiece tok = IsToken tok.kind tok.text

abbrev Pieces : List Tok → Type 0
Pieces toks = AllByRecursion IsPiece toks

pieces : (text : List ℕ) (toks : List Tok) (rest : List ℕ) → CutsTokens text toks rest → Pieces toks
pieces text [] rest cut = tt
pieces text (tok ∷ toks) rest cut = (cut.3.matches.is_piece, pieces cut.1 toks rest cut.4)

id-plain : (tok : Tok) → IsIdent tok → IsPiece tok → IsPlain tok.text
id-plain tok is piece = word-plain tok.text (subst (λ (sort : TokKind). IsToken sort tok.text) is piece).0

rest-plain : (rest : List (Tok × Tok)) → Pieces (flat_map (λ item. item.0 ∷ item.1 ∷ []) rest)
    → EachFits (λ (item : Tok × Tok). IsOp DOT item.0 × IsIdent item.1) rest → AllByRecursion IsPlain (map (λ (item : Tok × Tok). item.1.text) rest)
rest-plain [] each fit = tt
rest-plain (item ∷ rest) each fit = (id-plain item.1 fit.0.1 each.1.0, rest-plain rest each.1.1 fit.1)

name-plain : (name : NameTree) → Pieces (name_yield name) → NameFits name → AllByRecursion IsPlain (id_texts name)
name-plain name each fit = (id-plain name.ids.first fit.0 each.0, rest-plain name.ids.rest each.1 fit.1)

-- the package
abbrev with-package : UnitTree → Option (Tok × NameTree × Tok) → UnitTree
with-package tree clause = record { «package» = clause; imports = tree.imports; decl = tree.decl; semis = tree.semis }

clause-plain : (tree : UnitTree) (clause : Option (Tok × NameTree × Tok)) → Pieces (option_yield package_yield clause) → IfSome clause PackageFits
    → AllByRecursion IsPlain (package_ids (with-package tree clause))
clause-plain tree None each fit = tt
clause-plain tree (Some clause) each fit = name-plain clause.1 (each-front IsPiece (name_yield clause.1) (clause.2 ∷ []) each.1) fit.1

-- the imports
import-plain : (import : ImportTree) → Pieces (import_yield import) → ImportFits import → AllByRecursion IsPlain (id_texts import.name)
import-plain import each fit = name-plain import.name (each-front IsPiece (name_yield import.name) _ each.1) fit.name_fits

imports-plain : (imports : List ImportTree) (import : ImportTree) → Contains imports import → Pieces (flat_map import_yield imports)
    → EachFits ImportFits imports → AllByRecursion IsPlain (id_texts import.name)
imports-plain [] import has each fit = absurd (in-none import has)
imports-plain (first ∷ imports) import has each fit =
    by (either first imports import has) (λ rest. imports-plain imports import rest (each-rest IsPiece (import_yield first) (flat_map import_yield imports) each) fit.1)
  where
    by : (first ≡ import) ⊎ (Contains imports import) → (Contains imports import → AllByRecursion IsPlain (id_texts import.name)) → AllByRecursion IsPlain (id_texts import.name)
    by (inl same) later = subst (λ (one : ImportTree). AllByRecursion IsPlain (id_texts one.name)) same
        (import-plain first (each-front IsPiece (import_yield first) (flat_map import_yield imports) each) fit.0)
    by (inr rest) later = later rest

-- in a file that is parsed
parsed-pieces : (unit : PlacedUnit) → IsParsed unit → Pieces (unit_yield (tree_of unit))
parsed-pieces unit parsed =
    let cut = parsed.is_tree.tokens.cut in
    subst Pieces (sym parsed.is_tree.yields) (pieces _ parsed.is_tree.toks.list parsed.is_tree.toks.tail cut)

pub package-plain : (unit : PlacedUnit) → IsParsed unit → AllByRecursion IsPlain (package_ids (tree_of unit))
package-plain unit parsed =
    clause-plain (tree_of unit) (tree_of unit).package
    (each-front IsPiece (option_yield package_yield (tree_of unit).package) _ (parsed-pieces unit parsed)) parsed.is_tree.fits.package_fits

pub demanded-plain : (unit : PlacedUnit) (import : ImportTree) → IsParsed unit → Contains (tree_of unit).imports import → AllByRecursion IsPlain (id_texts import.name)
demanded-plain unit import parsed has =
    imports-plain (tree_of unit).imports import has
    (each-front IsPiece (flat_map import_yield (tree_of unit).imports) _
    (each-rest IsPiece (option_yield package_yield (tree_of unit).package) _ (parsed-pieces unit parsed))) parsed.is_tree.fits.imports_fit

-- the text of a package is that of its identifiers
abbrev with-clause : File → Option (Tok × Name × Tok) → File
with-clause file clause = record { «package» = clause; imports = file.imports; decl = file.decl; semis = file.semis }

clause-dotted : (file : File) (clause : Option (Tok × Name × Tok)) → package_text (with-clause file clause) ≡ dotted (package_ids (unit_shown (with-clause file clause)))
clause-dotted file None = refl
clause-dotted file (Some clause) = refl

pub package-dotted : (unit : PlacedUnit) → package_text unit.tree ≡ dotted (package_ids (tree_of unit))
package-dotted unit = clause-dotted unit.tree unit.tree.package

-- so packages are told apart by their texts
pub package-one : (unit other : PlacedUnit) → IsParsed unit → IsParsed other → package_text unit.tree ≡ package_text other.tree
    → package_ids (tree_of unit) ≡ package_ids (tree_of other)
package-one unit other parsed other-parsed same =
    dotted-one (package_ids (tree_of unit)) (package_ids (tree_of other)) (package-plain unit parsed) (package-plain other other-parsed)
    (sym (package-dotted unit) ∙ same ∙ package-dotted other)

pub unit-parsed : (project : Project) (u : ℕ) (unit : PlacedUnit) → All IsParsed project.units → HasUnit project u unit → IsParsed unit
unit-parsed project u unit all has =
    subst IsParsed (get_or_from_slice_get project.units u unit unit has) (All-get_or IsParsed project.units u unit (slice_get_within project.units u unit has) all)
