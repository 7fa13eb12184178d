-- The readers of the members of types, of initializers and of stray `;`s. No expression or statement in them is deeper
-- than the room `m`.
use Rattle.std.specs.Prelude.{ℕ, List, Some, Bool, true, ◌&&◌, ◌||◌, if◌then◌else◌}
use Rattle.std.specs.List.{list_all}
use Rattle.rf_jtree.specs.declared.tokens.Tok.{Tok}
use Rattle.rf_jtree.specs.declared.operator_names.TheConstants.{LEFT_BRACE, RIGHT_BRACE, SEMICOLON, COMMA}
use Rattle.rf_jtree.specs.declared.keyword_names.TheConstants.{STATIC, SUPER, THIS, THROWS, VOID, ACCESSES}
use Rattle.rf_jtree.specs.DeclTrees.{CtorCallTree, RetTree, Void, Typed, BodyTree, Block, MemberTree, Init, Ctor, Method, Field}
use Rattle.rf_jtree.specs.Kinds.{is_key_of}
use Rattle.rf_jtree.specs.NameTrees.{ModTree, Word, TypeUseTree}
use Rattle.rf_jexpr.specs.Descent.{parsers}
use Rattle.rf_jexpr.specs.NameReads.{type_use}
use Rattle.rf_jexpr.specs.PartReads.{args}
use Rattle.rf_jexpr.specs.Reads.{Reads, ◌>>=◌, when, is_op, is_key, is_ident, begins, token, optional, many, separated}
use Rattle.rf_jmods.specs.ModReads.{goes_on_with}
use Rattle.rf_jstmt.specs.StmtParts.{stmts, block}
use Rattle.rf_jstmt.specs.StmtReads.{stmt_parsers}
use Rattle.rf_jstmt.specs.VarReads.{var}
use Rattle.rf_jdecl.specs.HeadReads.{fitting_mods, names_behind, params, begins_callable}

-- ---- without modifiers

unfoldable pub stray : Reads MemberTree
stray toks = token (is_op SEMICOLON) toks >>= λ semi. Some (MemberTree.Semi semi.0, semi.1)

-- `{..}` or `static {..}` (JLS 8.6, 8.7)
unfoldable pub begins_initializer : List Tok → Bool
begins_initializer toks = begins (is_op LEFT_BRACE) toks || (begins (is_key STATIC) toks && goes_on_with (is_op LEFT_BRACE) toks)

unfoldable pub initializer : ℕ → Reads MemberTree
initializer m toks = do
  word ← optional (token (is_key STATIC)) toks
  body ← block (stmt_parsers m) word.1
  Some (Init word.0 body.0, body.1)

-- ---- constructors (JLS 8.8)

-- `this(..);` or `super(..);` (JLS 8.8.7.1)
unfoldable pub calls_ctor : Tok → Bool
calls_ctor tok = is_key THIS tok || is_key SUPER tok

unfoldable pub ctor_call : ℕ → Reads CtorCallTree
ctor_call m toks = do
  word ← token calls_ctor toks
  list ← args (parsers m) word.1
  semi ← token (is_op SEMICOLON) list.1
  Some (record { word = word.0; args = list.0; semi = semi.0 }, semi.1)

-- an access word or an annotation (JLS 8.8.3)
unfoldable pub is_ctor_mod : ModTree → Bool
is_ctor_mod (Word tok) = is_key_of ACCESSES tok
is_ctor_mod annotation = true

unfoldable pub ctor : ℕ → List ModTree → Reads MemberTree
ctor m found toks = do
  id ← when (list_all is_ctor_mod found) (token is_ident toks)
  list ← params id.1
  thrown ← optional (names_behind THROWS) list.1
  left ← token (is_op LEFT_BRACE) thrown.1
  call ← optional (ctor_call m) left.1
  body ← stmts (stmt_parsers m) call.1
  right ← token (is_op RIGHT_BRACE) body.1
  Some (Ctor found id.0 list.0 thrown.0 left.0 call.0 body.0 right.0, right.1)

-- ---- methods (JLS 8.4, 9.4)

unfoldable pub block_body : ℕ → Reads BodyTree
block_body m toks = block (stmt_parsers m) toks >>= λ found. Some (Block found.0, found.1)

unfoldable pub no_body : Reads BodyTree
no_body toks = token (is_op SEMICOLON) toks >>= λ semi. Some (BodyTree.Semi semi.0, semi.1)

unfoldable pub body : ℕ → Reads BodyTree
body m toks = if begins (is_op SEMICOLON) toks then no_body toks else block_body m toks

unfoldable pub method : ℕ → List ModTree → RetTree → Reads MemberTree
method m found ret toks = do
  id ← token is_ident toks
  list ← params id.1
  thrown ← optional (names_behind THROWS) list.1
  end ← body m thrown.1
  Some (Method found ret id.0 list.0 thrown.0 end.0, end.1)

unfoldable pub void_method : ℕ → List ModTree → Reads MemberTree
void_method m found toks = token (is_key VOID) toks >>= λ word. method m found (Void word.0) word.1

-- ---- fields (JLS 8.3, 9.3)

unfoldable pub field : ℕ → List ModTree → TypeUseTree → Reads MemberTree
field m found used_type toks = do
  vars ← separated COMMA (var (parsers m)) toks
  semi ← token (is_op SEMICOLON) vars.1
  Some (Field found used_type vars.0 semi.0, semi.1)

-- ---- all of them, by what stands first

-- a method or a field, behind its modifiers
unfoldable pub typed : ℕ → List ModTree → Reads MemberTree
typed m found toks = type_use toks >>= λ used_type. if begins_callable used_type.1 then method m found (Typed used_type.0) used_type.1 else field m found used_type.0 used_type.1

unfoldable pub behind_mods : ℕ → List ModTree → Reads MemberTree
behind_mods m found toks =
    if begins_callable toks then ctor m found toks
    else (if begins (is_key VOID) toks then void_method m found toks
    else typed m found toks)

unfoldable pub modified : ℕ → Reads MemberTree
modified m toks = fitting_mods toks >>= λ found. behind_mods m found.0 found.1

unfoldable pub member : ℕ → Reads MemberTree
member m toks =
    if begins (is_op SEMICOLON) toks then stray toks
    else (if begins_initializer toks then initializer m toks
    else modified m toks)

unfoldable pub members : ℕ → Reads (List MemberTree)
members m = many (member m)
