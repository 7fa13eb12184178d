-- New names for elements and new packages in types' names, as a rewriting.
use Rattle.std.specs.Prelude.{ℕ, suc, List, [], ◌∷◌, ◌++◌, map, Option, Some, None, codes}
use Rattle.rf_jtree.specs.declared.operator_names.TheConstants.{DOT}
use Rattle.rf_jtree.specs.declared.tokens.Tok.{Tok}
use Rattle.rf_jtree.specs.declared.tokens.TokKind.TheVariants as kind
use Rattle.rf_jtree.specs.NameTrees.{NameTree}
use Rattle.rf_jview.specs.Rewritings.{Rewriting}

-- the identifiers of a package's name
pub record PackageName : Type 0 where
  pub first : List ℕ
  pub more : List (List ℕ)

-- the text of each identifier at which an element or a reference stands, by its number; and the package that is written
-- in a type's name, where it gets another one, by the number of the name's last identifier
pub record Naming : Type 0 where
  pub text : ℕ → Tok → List ℕ
  pub package_at : ℕ → Option PackageName

-- a token with another text
abbrev pub with_text : Tok → List ℕ → Tok
with_text tok text = record { kind = tok.kind; lead = tok.lead; text = text }

-- a dot and an identifier behind it, without trivia before them
abbrev pub dotted : List ℕ → Tok × Tok
dotted text =
    let dot : Tok = record { kind = kind.Op DOT; lead = []; text = codes "." } in
    let id : Tok = record { kind = kind.Ident; lead = []; text = text } in
    (dot, id)

-- the number of the last identifier of a name, whose first one has number n
abbrev pub last_of : ℕ → List (Tok × Tok) → ℕ
last_of n [] = n
last_of n (item ∷ rest) = last_of (suc (suc n)) rest

-- The last identifier gets its text; those before it stay, or are the package's with the first token's trivia.
abbrev pub renamed_rest : Naming → ℕ → List (Tok × Tok) → List (Tok × Tok)
renamed_rest names n [] = []
renamed_rest names n (item ∷ []) = (item.0, with_text item.1 (names.text (suc n) item.1)) ∷ []
renamed_rest names n (item ∷ next ∷ rest) = item ∷ renamed_rest names (suc (suc n)) (next ∷ rest)

abbrev pub moved_rest : Naming → List (List ℕ) → ℕ → List (Tok × Tok) → List (Tok × Tok)
moved_rest names texts n [] = []
moved_rest names texts n (item ∷ []) = map dotted texts ++ (item.0, with_text item.1 (names.text (suc n) item.1)) ∷ []
moved_rest names texts n (item ∷ next ∷ rest) = moved_rest names texts (suc (suc n)) (next ∷ rest)

abbrev pub written_name : Naming → ℕ → Tok → List (Tok × Tok) → Option PackageName → NameTree
written_name names n first [] moved = record { ids = record { first = with_text first (names.text n first); rest = [] } }
written_name names n first (item ∷ rest) None = record { ids = record { first = first; rest = renamed_rest names (suc n) (item ∷ rest) } }
written_name names n first (item ∷ rest) (Some moved) =
    record { ids = record { first = with_text first moved.first; rest = moved_rest names moved.more (suc n) (item ∷ rest) } }

abbrev pub rewriting : Naming → Rewriting
rewriting names = record {
  text = names.text;
  written = λ n name. written_name names n name.ids.first name.ids.rest (names.package_at (last_of n name.ids.rest));
}
