-- The readers of types and of files. A file is read where all its tokens are.
use Rattle.std.specs.Prelude.{ℕ, List, [], ◌∷◌, Option, Some, None, Bool, ◌||◌}
use Rattle.rf_jtree.specs.declared.tokens.Tok.{Tok}
use Rattle.rf_jtree.specs.declared.operator_names.TheConstants.{LEFT_BRACE, RIGHT_BRACE, SEMICOLON, DOT, TIMES}
use Rattle.rf_jtree.specs.declared.keyword_names.TheConstants.{CLASS, EXTENDS, IMPLEMENTS, IMPORT, INTERFACE, PACKAGE}
use Rattle.rf_jtree.specs.DeclTrees.{TypeDeclTree, ImportTree, UnitTree}
use Rattle.rf_jtree.specs.NameTrees.{NameTree}
use Rattle.rf_jexpr.specs.NameReads.{name}
use Rattle.rf_jexpr.specs.Reads.{Reads, ◌>>=◌, when, is_op, is_key, is_ident, token, optional, many}
use Rattle.rf_jdecl.specs.DeclTests.{decl_fits, names_package}
use Rattle.rf_jdecl.specs.HeadReads.{fitting_mods, names_behind}
use Rattle.rf_jdecl.specs.MemberReads.{members}

-- ---- types

unfoldable pub begins_type : Tok → Bool
begins_type tok = is_key CLASS tok || is_key INTERFACE tok

-- a class or an interface, whatever it asks of its parts (JLS 8.1, 9.1)
unfoldable pub any_decl : ℕ → Reads TypeDeclTree
any_decl m toks = do
  found ← fitting_mods toks
  word ← token begins_type found.1
  id ← token is_ident word.1
  extended ← optional (names_behind EXTENDS) id.1
  implemented ← optional (names_behind IMPLEMENTS) extended.1
  left ← token (is_op LEFT_BRACE) implemented.1
  list ← members m left.1
  right ← token (is_op RIGHT_BRACE) list.1
  Some (record { mods = found.0; word = word.0; id = id.0; extends = extended.0; implements = implemented.0; left = left.0; members = list.0; right = right.0 }, right.1)

unfoldable pub type_decl : ℕ → Reads TypeDeclTree
type_decl m toks = any_decl m toks >>= λ decl. when (decl_fits decl.0) (Some decl)

-- ---- imports (JLS 7.5)

unfoldable pub on_demand : Reads (Tok × Tok)
on_demand toks = do
  dot ← token (is_op DOT) toks
  times ← token (is_op TIMES) dot.1
  Some ((dot.0, times.0), times.1)

unfoldable pub import_decl : Reads ImportTree
import_decl toks = do
  word ← token (is_key IMPORT) toks
  found ← name word.1
  star ← optional on_demand found.1
  semi ← when (names_package found.0 star.0) (token (is_op SEMICOLON) star.1)
  Some (record { word = word.0; name = found.0; star = star.0; semi = semi.0 }, semi.1)

-- ---- files (JLS 7.3)

-- the package clause (JLS 7.4)
unfoldable pub package_clause : Reads (Tok × NameTree × Tok)
package_clause toks = do
  word ← token (is_key PACKAGE) toks
  found ← name word.1
  semi ← token (is_op SEMICOLON) found.1
  Some ((word.0, found.0, semi.0), semi.1)

unfoldable pub front_unit : ℕ → Reads UnitTree
front_unit m toks = do
  clause ← optional package_clause toks
  imports ← many import_decl clause.1
  decl ← type_decl m imports.1
  semis ← many (token (is_op SEMICOLON)) decl.1
  Some (record { «package» = clause.0; imports = imports.0; decl = decl.0; semis = semis.0 }, semis.1)

-- where nothing is left
unfoldable pub all_read : {A : Type 0} → A → List Tok → Option A
all_read x [] = Some x
all_read x (tok ∷ toks) = None

-- a file with no expression or statement in it deeper than this
unfoldable pub whole_unit : ℕ → List Tok → Option UnitTree
whole_unit m toks = front_unit m toks >>= λ found. all_read found.0 found.1

-- The greatest depth of a file.
abbrev pub ROOM : ℕ
ROOM = 200

unfoldable pub unit : List Tok → Option UnitTree
unit toks = whole_unit ROOM toks
