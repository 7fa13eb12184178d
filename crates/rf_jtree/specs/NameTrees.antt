-- The trees of names, types and modifiers, without the pointers that programs keep between their parts, and the tokens
-- of each from left to right.
use Rattle.std.specs.Prelude.{ℕ, max, List, [], ◌∷◌, ◌++◌, Option, Some, None}
use Rattle.std.specs.List.{flat_map}
use Rattle.rf_jtree.specs.declared.names.Dims.{Dims}
use Rattle.rf_jtree.specs.declared.tokens.Tok.{Tok}

-- one item or more, with a token between two of them
pub record ManyTree (A : Type 0) : Type 0 where
  pub first : A
  pub rest : List (Tok × A)

-- a dotted name (JLS 6.2)
pub record NameTree : Type 0 where
  pub ids : ManyTree Tok

-- the type without its brackets: a primitive type or a named one (JLS 4.2, 4.3)
pub data TypeBaseTree : Type 0 where
  Prim : Tok → TypeBaseTree
  Named : NameTree → TypeBaseTree

-- the use of a type (JLS 4.1). Brackets hold no pointer, so they stand as they are.
pub record TypeUseTree : Type 0 where
  pub base : TypeBaseTree
  pub dims : Dims

-- the strings of `@SuppressWarnings`: one, or any number in braces (JLS 9.7)
pub data StrsTree : Type 0 where
  One : Tok → StrsTree
  Braced : (left : Tok) (list : Option (ManyTree Tok)) (right : Tok) → StrsTree

-- a modifier: a word, or one of the three annotations (JLS 8.1.1, 8.3.1, 8.4.3, 9.7)
pub data ModTree : Type 0 where
  Word : Tok → ModTree
  Mark : (at id : Tok) (parens : Option (Tok × Tok)) → ModTree
  Suppress : (at id left : Tok) (strs : StrsTree) (right : Tok) → ModTree

-- the tokens of a token, of a pair of them, and of a part that may be left out
abbrev pub tok_yield : Tok → List Tok
tok_yield tok = tok ∷ []

abbrev pub pair_yield : Tok × Tok → List Tok
pair_yield pair = pair.0 ∷ pair.1 ∷ []

abbrev pub option_yield : {A : Type 0} → (A → List Tok) → Option A → List Tok
option_yield yield None = []
option_yield yield (Some part) = yield part

-- the tokens of one item or more, and of a list of them behind a word, as behind `throws`
abbrev pub many_yield : {A : Type 0} → (A → List Tok) → ManyTree A → List Tok
many_yield yield many = yield many.first ++ flat_map (λ item. item.0 ∷ yield item.1) many.rest

abbrev pub behind_yield : {A : Type 0} → (A → List Tok) → Tok × A → List Tok
behind_yield yield part = part.0 ∷ yield part.1

abbrev pub name_yield : NameTree → List Tok
name_yield name = many_yield tok_yield name.ids

abbrev pub dims_yield : Dims → List Tok
dims_yield dims = flat_map pair_yield dims.list

abbrev pub base_yield : TypeBaseTree → List Tok
base_yield (Prim tok) = tok ∷ []
base_yield (Named name) = name_yield name

abbrev pub type_yield : TypeUseTree → List Tok
type_yield used_type = base_yield used_type.base ++ dims_yield used_type.dims

abbrev pub strs_yield : StrsTree → List Tok
strs_yield (One tok) = tok ∷ []
strs_yield (Braced left list right) = left ∷ (option_yield (many_yield tok_yield) list ++ right ∷ [])

abbrev pub mod_yield : ModTree → List Tok
mod_yield (Word tok) = tok ∷ []
mod_yield (Mark at id parens) = at ∷ id ∷ option_yield pair_yield parens
mod_yield (Suppress at id left strs right) = at ∷ id ∷ left ∷ (strs_yield strs ++ right ∷ [])

abbrev pub mods_yield : List ModTree → List Tok
mods_yield mods = flat_map mod_yield mods

-- the deepest of the parts, 0 where there is none
abbrev pub option_depth : {A : Type 0} → (A → ℕ) → Option A → ℕ
option_depth depth None = 0
option_depth depth (Some part) = depth part

abbrev pub list_depth : {A : Type 0} → (A → ℕ) → List A → ℕ
list_depth depth [] = 0
list_depth depth (part ∷ parts) = max (depth part) (list_depth depth parts)

abbrev pub many_depth : {A : Type 0} → (A → ℕ) → ManyTree A → ℕ
many_depth depth many = max (depth many.first) (list_depth (λ item. depth item.1) many.rest)
