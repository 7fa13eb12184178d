-- What becomes of tokens, for lists of them one behind the other, and for names and types.
use Rattle.std.proofs.Common.{ℕ, suc, List, [], ◌∷◌, ◌++◌, Option, Some, None}
use Rattle.std.specs.List.{flat_map}
use Rattle.rf_jtree.specs.declared.tokens.Tok.{Tok}
use Rattle.rf_jtree.specs.NameTrees.{ManyTree, NameTree, TypeBaseTree, Prim, Named, TypeUseTree, name_yield, base_yield, type_yield, dims_yield, tok_yield, option_yield, behind_yield, many_yield}
use Rattle.rf_jview.specs.Rewritings.{Rewriting, behind, retext, option_with, behind_with, list_with, rest_with, many_with, name_with, base_with, type_with}
use Rattle.rf_jview.specs.Rewritten.{Rewritten, none, kept, text, type_name, join}

pub joined : {g : Rewriting} {n : ℕ} {olds news more_olds more_news : List Tok} → Rewritten g n olds news → Rewritten g (behind n olds) more_olds more_news
    → Rewritten g n (olds ++ more_olds) (news ++ more_news)
joined {g} {n} {olds} {news} {more_olds} {more_news} one two = join n olds news more_olds more_news one two

pub kept_then : {g : Rewriting} {n : ℕ} (tok : Tok) {olds news : List Tok} → Rewritten g (suc n) olds news → Rewritten g n (tok ∷ olds) (tok ∷ news)
kept_then {g} {n} tok {olds} {news} rest = join n (tok ∷ []) (tok ∷ []) olds news (kept n tok) rest

pub text_then : {g : Rewriting} {n : ℕ} (tok : Tok) {olds news : List Tok} → Rewritten g (suc n) olds news → Rewritten g n (tok ∷ olds) (retext g n tok ∷ news)
text_then {g} {n} tok {olds} {news} rest = join n (tok ∷ []) (retext g n tok ∷ []) olds news (text n tok) rest

pub same : {g : Rewriting} {n : ℕ} (toks : List Tok) → Rewritten g n toks toks
same {g} {n} [] = none n
same {g} {n} (tok ∷ toks) = kept_then tok (same toks)

-- parts that may be left out, parts behind a token, and lists of parts
pub optional_tokens : {g : Rewriting} {A : Type 0} (yield : A → List Tok) (change : ℕ → A → A) → ((n : ℕ) (part : A) → Rewritten g n (yield part) (yield (change n part)))
    → (n : ℕ) (part : Option A) → Rewritten g n (option_yield yield part) (option_yield yield (option_with change n part))
optional_tokens yield change each n None = none n
optional_tokens yield change each n (Some part) = each n part

pub behind_tokens : {g : Rewriting} {A : Type 0} (yield : A → List Tok) (change : ℕ → A → A) → ((n : ℕ) (part : A) → Rewritten g n (yield part) (yield (change n part)))
    → (n : ℕ) (part : Tok × A) → Rewritten g n (behind_yield yield part) (behind_yield yield (behind_with change n part))
behind_tokens yield change each n part = kept_then part.0 (each (suc n) part.1)

pub list_tokens : {g : Rewriting} {A : Type 0} (yield : A → List Tok) (change : ℕ → A → A) → ((n : ℕ) (part : A) → Rewritten g n (yield part) (yield (change n part)))
    → (n : ℕ) (parts : List A) → Rewritten g n (flat_map yield parts) (flat_map yield (list_with yield change n parts))
list_tokens yield change each n [] = none n
list_tokens yield change each n (part ∷ parts) = joined (each n part) (list_tokens yield change each (behind n (yield part)) parts)

rest_tokens : {g : Rewriting} {A : Type 0} (yield : A → List Tok) (change : ℕ → A → A) → ((n : ℕ) (part : A) → Rewritten g n (yield part) (yield (change n part)))
    → (n : ℕ) (rest : List (Tok × A)) → Rewritten g n (flat_map (λ item. item.0 ∷ yield item.1) rest) (flat_map (λ item. item.0 ∷ yield item.1) (rest_with yield change n rest))
rest_tokens yield change each n [] = none n
rest_tokens yield change each n (item ∷ rest) =
    kept_then item.0 (joined (each (suc n) item.1) (rest_tokens yield change each (behind (suc n) (yield item.1)) rest))

pub many_tokens : {g : Rewriting} {A : Type 0} (yield : A → List Tok) (change : ℕ → A → A) → ((n : ℕ) (part : A) → Rewritten g n (yield part) (yield (change n part)))
    → (n : ℕ) (many : ManyTree A) → Rewritten g n (many_yield yield many) (many_yield yield (many_with yield change n many))
many_tokens yield change each n many = joined (each n many.first) (rest_tokens yield change each (behind n (yield many.first)) many.rest)

-- names and types
pub name_tokens : (g : Rewriting) (n : ℕ) (name : NameTree) → Rewritten g n (name_yield name) (name_yield (name_with g n name))
name_tokens g n name = many_tokens tok_yield (retext g) (λ n tok. text n tok) n name.ids

pub base_tokens : (g : Rewriting) (n : ℕ) (base : TypeBaseTree) → Rewritten g n (base_yield base) (base_yield (base_with g n base))
base_tokens g n (Prim tok) = kept n tok
base_tokens g n (Named name) = type_name n name

pub type_tokens : (g : Rewriting) (n : ℕ) (used_type : TypeUseTree) → Rewritten g n (type_yield used_type) (type_yield (type_with g n used_type))
type_tokens g n used_type = joined (base_tokens g n used_type.base) (same (dims_yield used_type.dims))
