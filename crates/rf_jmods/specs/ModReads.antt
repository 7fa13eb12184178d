-- The readers of modifiers, as many as stand there.
use Rattle.std.specs.Prelude.{List, [], ◌∷◌, Some, Bool, true, false, ◌&&◌, ◌||◌, if◌then◌else◌, codes}
use Rattle.std.specs.Str.{bytes_eq}
use Rattle.rf_jtree.specs.declared.tokens.Tok.{Tok}
use Rattle.rf_jtree.specs.declared.tokens.TokKind.{TokKind}
use Rattle.rf_jtree.specs.declared.tokens.TokKind.TheVariants as kind
use Rattle.rf_jtree.specs.declared.operator_names.TheConstants.{LEFT_PAREN, RIGHT_PAREN, LEFT_BRACE, RIGHT_BRACE, COMMA, AT}
use Rattle.rf_jtree.specs.declared.keyword_names.TheConstants.{MODIFIERS}
use Rattle.rf_jtree.specs.Kinds.{is_key_of}
use Rattle.rf_jtree.specs.NameTrees.{StrsTree, One, Braced, ModTree, Word, Mark, Suppress}
use Rattle.rf_jexpr.specs.Reads.{Reads, ◌>>=◌, when, is_op, is_ident, begins, token, optional, many, separated}
use Rattle.rf_jmods.specs.ModTests.{variable_mods_fit}

abbrev is_str_kind : TokKind → Bool
is_str_kind kind.Str = true
is_str_kind kind = false

-- a string (JLS 3.10.5)
unfoldable pub is_str : Tok → Bool
is_str tok = is_str_kind tok.kind

-- the names of the annotations that may stand (JLS 9.6.3)
unfoldable pub is_mark_name : Tok → Bool
is_mark_name tok = is_ident tok && (bytes_eq tok.text (codes "Override") || bytes_eq tok.text (codes "Deprecated"))

unfoldable pub is_suppress_name : Tok → Bool
is_suppress_name tok = is_ident tok && bytes_eq tok.text (codes "SuppressWarnings")

-- `(` and `)`
unfoldable pub parens : Reads (Tok × Tok)
parens toks = do
  left ← token (is_op LEFT_PAREN) toks
  right ← token (is_op RIGHT_PAREN) left.1
  Some ((left.0, right.0), right.1)

-- strings, one alone or any number in braces (JLS 9.7)
unfoldable pub one_str : Reads StrsTree
one_str toks = token is_str toks >>= λ tok. Some (One tok.0, tok.1)

unfoldable pub braced_strs : Reads StrsTree
braced_strs toks = do
  left ← token (is_op LEFT_BRACE) toks
  list ← optional (separated COMMA (token is_str)) left.1
  right ← token (is_op RIGHT_BRACE) list.1
  Some (Braced left.0 list.0 right.0, right.1)

unfoldable pub strs : Reads StrsTree
strs toks = if begins (is_op LEFT_BRACE) toks then braced_strs toks else one_str toks

-- `@SuppressWarnings(..)` (JLS 9.6.3.5)
unfoldable pub suppress : Reads ModTree
suppress toks = do
  at ← token (is_op AT) toks
  id ← token is_suppress_name at.1
  left ← token (is_op LEFT_PAREN) id.1
  list ← strs left.1
  right ← token (is_op RIGHT_PAREN) list.1
  Some (Suppress at.0 id.0 left.0 list.0 right.0, right.1)

-- `@Override` or `@Deprecated`, with `()` or without (JLS 9.6.3.4, 9.6.3.6)
unfoldable pub mark : Reads ModTree
mark toks = do
  at ← token (is_op AT) toks
  id ← token is_mark_name at.1
  pair ← optional parens id.1
  Some (Mark at.0 id.0 pair.0, pair.1)

-- whether the second token passes a test
unfoldable pub goes_on_with : (Tok → Bool) → List Tok → Bool
goes_on_with test toks = second toks
  where
    second : List Tok → Bool
    second [] = false
    second (tok ∷ toks) = begins test toks

unfoldable pub word : Reads ModTree
word toks = token (is_key_of MODIFIERS) toks >>= λ tok. Some (Word tok.0, tok.1)

-- a modifier: a word, or an annotation (JLS 8.1.1, 8.3.1, 8.4.3, 9.7)
unfoldable pub modifier : Reads ModTree
modifier toks = if begins (is_op AT) toks then (if goes_on_with is_suppress_name toks then suppress toks else mark toks) else word toks

unfoldable pub mods : Reads (List ModTree)
mods = many modifier

-- the modifiers of a local variable or a parameter (JLS 8.4.1, 14.4)
unfoldable pub variable_mods : Reads (List ModTree)
variable_mods toks = mods toks >>= λ found. when (variable_mods_fit found.0) (Some found)
