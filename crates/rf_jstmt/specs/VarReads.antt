-- The readers of variables and of local declarations, and where such a declaration stands.
use Rattle.std.specs.Prelude.{List, [], ◌∷◌, Option, Some, None, Bool, false, ◌&&◌, ◌||◌}
use Rattle.rf_jtree.specs.declared.tokens.Tok.{Tok}
use Rattle.rf_jtree.specs.declared.operator_names.TheConstants.{COMMA, COLON, ASSIGN, AT}
use Rattle.rf_jtree.specs.declared.keyword_names.TheConstants.{FINAL, PRIMITIVES}
use Rattle.rf_jtree.specs.Kinds.{is_key_of}
use Rattle.rf_jtree.specs.NameTrees.{ModTree, TypeUseTree}
use Rattle.rf_jtree.specs.StmtTrees.{VarTree, LocalTree}
use Rattle.rf_jexpr.specs.NameReads.{dims, type_use}
use Rattle.rf_jexpr.specs.PartReads.{Parsers}
use Rattle.rf_jexpr.specs.Reads.{Reads, ◌>>=◌, is_op, is_key, is_ident, begins, token, optional, behind, separated}
use Rattle.rf_jmods.specs.ModReads.{variable_mods}

-- In what follows `p` has the room that is left for expressions.

-- a variable: its name, brackets, and what it begins with (JLS 8.3, 14.4)
unfoldable pub var : Parsers → Reads VarTree
var p toks = do
  id ← token is_ident toks
  bracket_pairs ← dims id.1
  beginning ← optional (behind (is_op ASSIGN) p.init) bracket_pairs.1
  Some (record { id = id.0; dims = bracket_pairs.0; init = beginning.0 }, beginning.1)

-- the variables of a local declaration, behind its modifiers and its type
unfoldable pub local_vars : Parsers → List ModTree → TypeUseTree → Reads LocalTree
local_vars p found used_type toks = separated COMMA (var p) toks >>= λ vars. Some (record { mods = found; used_type = used_type; vars = vars.0 }, vars.1)

-- a local declaration, without its `;` (JLS 14.4)
unfoldable pub local : Parsers → Reads LocalTree
local p toks = do
  found ← variable_mods toks
  used_type ← type_use found.1
  local_vars p found.0 used_type.0 used_type.1

-- A declaration begins with `final`, an annotation or a primitive type, or with a type and a name behind it.
unfoldable pub marks_local : Tok → Bool
marks_local tok = is_key FINAL tok || (is_op AT tok || is_key_of PRIMITIVES tok)

unfoldable pub ends_before : (Tok → Bool) → Option (TypeUseTree × List Tok) → Bool
ends_before test None = false
ends_before test (Some used_type) = begins test used_type.1

unfoldable pub begins_local : List Tok → Bool
begins_local toks = begins marks_local toks || ends_before is_ident (type_use toks)

-- an identifier with `:` behind it, as a label is one (JLS 14.7, 14.14.2)
unfoldable pub begins_label : List Tok → Bool
begins_label [] = false
begins_label (id ∷ toks) = is_ident id && begins (is_op COLON) toks
