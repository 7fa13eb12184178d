-- When names, types and modifiers fit.
use Rattle.std.specs.Prelude.{◌≡◌, ℕ, ◌==◌, List, [], ◌∷◌, ◌⊎◌, Bool, true, false, IsTrue, IfSome, codes}
use Rattle.std.specs.Str.{bytes_eq}
use Rattle.rf_jtree.specs.declared.names.Dims.{Dims}
use Rattle.rf_jtree.specs.declared.operators.Op.{Op}
use Rattle.rf_jtree.specs.declared.tokens.Tok.{Tok}
use Rattle.rf_jtree.specs.declared.tokens.TokKind.{TokKind}
use Rattle.rf_jtree.specs.declared.tokens.TokKind.TheVariants as kind
use Rattle.rf_jtree.specs.declared.operator_names.TheConstants.{COMMA, DOT, AT}
use Rattle.rf_jtree.specs.declared.keyword_names.TheConstants.{PRIMITIVES, MODIFIERS, ACCESSES}
use Rattle.rf_jtree.specs.Kinds.{IsOp, IsIdent, IsStr, AreParens, AreBrackets, AreBraces, is_key_of}
use Rattle.rf_jtree.specs.NameTrees.{ManyTree, NameTree, TypeBaseTree, Prim, Named, TypeUseTree, StrsTree, One, Braced, ModTree, Word, Mark, Suppress}

-- each item of a list fits
abbrev pub EachFits : {A : Type 0} → (A → Type 0) → List A → Type 0
EachFits Fits [] = Unit {0}
EachFits Fits (item ∷ items) = Fits item × EachFits Fits items

-- one item or more fit, with this separator between two of them
abbrev pub ManyFit : {A : Type 0} → (A → Type 0) → Op → ManyTree A → Type 0
ManyFit Fits between many = Fits many.first × EachFits (λ item. IsOp between item.0 × Fits item.1) many.rest

-- a dotted name: identifiers with dots between them (JLS 6.2)
abbrev pub NameFits : NameTree → Type 0
NameFits name = ManyFit IsIdent DOT name.ids

-- pairs of brackets
abbrev pub BracketsFit : Tok × Tok → Type 0
BracketsFit pair = AreBrackets pair.0 pair.1

abbrev pub DimsFit : Dims → Type 0
DimsFit dims = EachFits BracketsFit dims.list

-- a primitive type or a named one (JLS 4.2, 4.3)
abbrev pub BaseFits : TypeBaseTree → Type 0
BaseFits (Prim tok) = IsTrue (is_key_of PRIMITIVES tok)
BaseFits (Named name) = NameFits name

-- the use of a type (JLS 4.1)
abbrev pub TypeFits : TypeUseTree → Type 0
TypeFits used_type = BaseFits used_type.base × DimsFit used_type.dims

-- the annotations that may stand are `@Override`, `@Deprecated` and `@SuppressWarnings` (JLS 9.6.3)
abbrev pub IsMarkName : Tok → Type 0
IsMarkName tok = IsIdent tok × ((tok.text ≡ codes "Override") ⊎ (tok.text ≡ codes "Deprecated"))

abbrev pub IsSuppressName : Tok → Type 0
IsSuppressName tok = IsIdent tok × (tok.text ≡ codes "SuppressWarnings")

abbrev pub ParensFit : Tok × Tok → Type 0
ParensFit pair = AreParens pair.0 pair.1

-- strings, one alone or any number in braces with commas between them (JLS 9.7.1)
abbrev pub StrsFit : StrsTree → Type 0
StrsFit (One tok) = IsStr tok
StrsFit (Braced left list right) = AreBraces left right × IfSome list (ManyFit IsStr COMMA)

-- an annotation with strings in parentheses
pub record IsSuppress (at id left right : Tok) : Type 0 where
  pub at_is : IsOp AT at
  pub id_is : IsSuppressName id
  pub parens : AreParens left right

-- a modifier: a word, or an annotation (JLS 8.1.1, 8.3.1, 8.4.3, 9.7)
abbrev pub ModFits : ModTree → Type 0
ModFits (Word tok) = IsTrue (is_key_of MODIFIERS tok)
ModFits (Mark at id parens) = IsOp AT at × IsMarkName id × IfSome parens ParensFit
ModFits (Suppress at id left strs right) = IsSuppress at id left right × StrsFit strs

-- two modifiers are the same: one word, or two annotations of one name
abbrev pub key_number : TokKind → ℕ
key_number (kind.Key word) = word.0
key_number kind = 50

abbrev pub is_same_mod : ModTree → ModTree → Bool
is_same_mod (Word tok) (Word other) = key_number tok.kind == key_number other.kind
is_same_mod (Mark at id parens) (Mark other_at other_id other_parens) = bytes_eq id.text other_id.text
is_same_mod (Suppress at id left strs right) (Suppress other_at other_id other_left other_strs other_right) = bytes_eq id.text other_id.text
is_same_mod one other = false

-- no modifier stands twice (JLS 8.1.1, 8.3.1, 8.4.3, 9.7)
abbrev pub NoneStandsTwice : List ModTree → Type 0
NoneStandsTwice [] = Unit {0}
NoneStandsTwice (one ∷ mods) = EachFits (λ other. is_same_mod one other ≡ false) mods × NoneStandsTwice mods

-- at most one of `public`, `protected` and `private` stands (JLS 8.1.1, 8.3.1, 8.4.3, 8.8.3)
abbrev pub is_access : ModTree → Bool
is_access (Word tok) = is_key_of ACCESSES tok
is_access one = false

abbrev pub HasOneAccessAtMost : List ModTree → Type 0
HasOneAccessAtMost [] = Unit {0}
HasOneAccessAtMost (one ∷ mods) = (is_access one ≡ true → EachFits (λ other. is_access other ≡ false) mods) × HasOneAccessAtMost mods

-- modifiers before a declaration. Which of them may stand there, the declaration says.
pub record ModsFit (mods : List ModTree) : Type 0 where
  pub each : EachFits ModFits mods
  pub none_twice : NoneStandsTwice mods
  pub one_access : HasOneAccessAtMost mods
