-- How a tree is rewritten where elements and references stand: identifiers get other texts, and types' names other packages.
use Rattle.std.specs.Prelude.{◌≢◌, ℕ, suc, List, [], ◌∷◌, Option, Some, None}
use Rattle.rf_jtree.specs.declared.tokens.Tok.{Tok}
use Rattle.rf_jtree.specs.NameFits.{NameFits}
use Rattle.rf_jtree.specs.NameTrees.{ManyTree, NameTree, TypeBaseTree, Prim, Named, TypeUseTree, tok_yield}

-- the text that an identifier gets, by its number among the tokens; and the name that a type's name becomes, by the number
-- of its first token
pub record Rewriting : Type 0 where
  pub text : ℕ → Tok → List ℕ
  pub written : ℕ → NameTree → NameTree

-- What is written in place of a name is a name, and has a package where that one had one.
pub record WritesNames (g : Rewriting) : Type 0 where
  pub names : (n : ℕ) (name : NameTree) → NameFits name → NameFits (g.written n name)
  pub packages : (n : ℕ) (name : NameTree) → name.ids.rest ≢ [] → (g.written n name).ids.rest ≢ []

-- the number of the next token, where these have numbers from n on
abbrev pub behind : ℕ → List Tok → ℕ
behind n [] = n
behind n (tok ∷ toks) = behind (suc n) toks

-- an identifier with its text
abbrev pub retext : Rewriting → ℕ → Tok → Tok
retext g n tok = record { kind = tok.kind; lead = tok.lead; text = g.text n tok }

-- parts that may be left out, parts behind a token, and lists of parts, with the number of their first token
abbrev pub option_with : {A : Type 0} → (ℕ → A → A) → ℕ → Option A → Option A
option_with change n None = None
option_with change n (Some part) = Some (change n part)

abbrev pub behind_with : {A : Type 0} → (ℕ → A → A) → ℕ → Tok × A → Tok × A
behind_with change n part = (part.0, change (suc n) part.1)

abbrev pub list_with : {A : Type 0} → (A → List Tok) → (ℕ → A → A) → ℕ → List A → List A
list_with yield change n [] = []
list_with yield change n (part ∷ parts) = change n part ∷ list_with yield change (behind n (yield part)) parts

abbrev pub rest_with : {A : Type 0} → (A → List Tok) → (ℕ → A → A) → ℕ → List (Tok × A) → List (Tok × A)
rest_with yield change n [] = []
rest_with yield change n (item ∷ rest) = behind_with change n item ∷ rest_with yield change (behind (suc n) (yield item.1)) rest

abbrev pub many_with : {A : Type 0} → (A → List Tok) → (ℕ → A → A) → ℕ → ManyTree A → ManyTree A
many_with yield change n many =
    record { first = change n many.first; rest = rest_with yield change (behind n (yield many.first)) many.rest }

-- an expression name: each identifier gets its text
abbrev pub name_with : Rewriting → ℕ → NameTree → NameTree
name_with g n name = record { ids = many_with tok_yield (retext g) n name.ids }

-- the use of a type
abbrev pub base_with : Rewriting → ℕ → TypeBaseTree → TypeBaseTree
base_with g n (Prim tok) = Prim tok
base_with g n (Named name) = Named (g.written n name)

abbrev pub type_with : Rewriting → ℕ → TypeUseTree → TypeUseTree
type_with g n used_type = record { base = base_with g n used_type.base; dims = used_type.dims }
