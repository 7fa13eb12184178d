-- New names and packages are written as names.
use Rattle.std.proofs.Common.{◌≢◌, ℕ, suc, List, [], ◌∷◌, ◌++◌, map, Option, Some, None, refl}
use Rattle.rf_jtree.specs.declared.tokens.Tok.{Tok}
use Rattle.rf_jtree.specs.declared.operator_names.TheConstants.{DOT}
use Rattle.rf_jtree.specs.Kinds.{IsOp, IsIdent}
use Rattle.rf_jtree.specs.NameFits.{EachFits, NameFits}
use Rattle.rf_jview.specs.Namings.{PackageName, Naming, with_text, dotted, last_of, renamed_rest, moved_rest, written_name, rewriting}
use Rattle.rf_jview.specs.Rewritings.{WritesNames}

abbrev ItemFits : Tok × Tok → Type 0
ItemFits item = IsOp DOT item.0 × IsIdent item.1

dotted_fit : (texts : List (List ℕ)) (last : Tok × Tok) → ItemFits last → EachFits (λ item. IsOp DOT item.0 × IsIdent item.1) (map dotted texts ++ last ∷ [])
dotted_fit [] last fit = (fit, tt)
dotted_fit (text ∷ texts) last fit = ((refl, refl), dotted_fit texts last fit)

renamed_fit : (names : Naming) (n : ℕ) (rest : List (Tok × Tok)) → EachFits (λ item. IsOp DOT item.0 × IsIdent item.1) rest
    → EachFits (λ item. IsOp DOT item.0 × IsIdent item.1) (renamed_rest names n rest)
renamed_fit names n [] fit = tt
renamed_fit names n (item ∷ []) fit = ((fit.0.0, fit.0.1), tt)
renamed_fit names n (item ∷ next ∷ rest) fit = (fit.0, renamed_fit names (suc (suc n)) (next ∷ rest) fit.1)

moved_fit : (names : Naming) (texts : List (List ℕ)) (n : ℕ) (rest : List (Tok × Tok)) → EachFits (λ item. IsOp DOT item.0 × IsIdent item.1) rest
    → EachFits (λ item. IsOp DOT item.0 × IsIdent item.1) (moved_rest names texts n rest)
moved_fit names texts n [] fit = tt
moved_fit names texts n (item ∷ []) fit = dotted_fit texts (item.0, with_text item.1 (names.text (suc n) item.1)) (fit.0.0, fit.0.1)
moved_fit names texts n (item ∷ next ∷ rest) fit = moved_fit names texts (suc (suc n)) (next ∷ rest) fit.1

written_fits : (names : Naming) (n : ℕ) (first : Tok) (rest : List (Tok × Tok)) (moved : Option PackageName) → IsIdent first
    → EachFits (λ item. IsOp DOT item.0 × IsIdent item.1) rest → NameFits (written_name names n first rest moved)
written_fits names n first [] moved is fit = (is, tt)
written_fits names n first (item ∷ rest) None is fit = (is, renamed_fit names (suc n) (item ∷ rest) fit)
written_fits names n first (item ∷ rest) (Some moved) is fit = (is, moved_fit names moved.more (suc n) (item ∷ rest) fit)

no_cons : (texts : List (List ℕ)) (last : Tok × Tok) → map dotted texts ++ last ∷ [] ≢ []
no_cons [] last = λ same. cc
no_cons (text ∷ texts) last = λ same. cc

renamed_some : (names : Naming) (n : ℕ) (item : Tok × Tok) (rest : List (Tok × Tok)) → renamed_rest names n (item ∷ rest) ≢ []
renamed_some names n item [] = λ same. cc
renamed_some names n item (next ∷ rest) = λ same. cc

moved_some : (names : Naming) (texts : List (List ℕ)) (n : ℕ) (item : Tok × Tok) (rest : List (Tok × Tok)) → moved_rest names texts n (item ∷ rest) ≢ []
moved_some names texts n item [] = no_cons texts (item.0, with_text item.1 (names.text (suc n) item.1))
moved_some names texts n item (next ∷ rest) = moved_some names texts (suc (suc n)) next rest

written_some : (names : Naming) (n : ℕ) (first : Tok) (rest : List (Tok × Tok)) (moved : Option PackageName) → rest ≢ []
    → (written_name names n first rest moved).ids.rest ≢ []
written_some names n first [] moved some = some
written_some names n first (item ∷ rest) None some = renamed_some names (suc n) item rest
written_some names n first (item ∷ rest) (Some moved) some = moved_some names moved.more (suc n) item rest

pub writes_names : (names : Naming) → WritesNames (rewriting names)
writes_names names = record {
  names = λ n name fit. written_fits names n name.ids.first name.ids.rest (names.package_at (last_of n name.ids.rest)) fit.0 fit.1;
  packages = λ n name some. written_some names n name.ids.first name.ids.rest (names.package_at (last_of n name.ids.rest)) some;
}
