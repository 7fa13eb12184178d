-- Each statement that fits and is no deeper than the room is read where it stands, in each room.
use Rattle.std.proofs.Common.{◌≡◌, ℕ, zero, suc, ◌+◌, ◌≤◌, List, [], ◌∷◌, ◌++◌, Some, false, IsTrue, inl, inr, refl, ◌∙◌, sym, subst, arith, append_assoc}
use Rattle.rf_jtree.specs.declared.tokens.Tok.{Tok}
use Rattle.rf_jtree.specs.declared.operator_names.TheConstants.{LEFT_BRACE, SEMICOLON}
use Rattle.rf_jtree.specs.declared.keyword_names.TheConstants.{ASSERT, BREAK, CONTINUE, DO, FOR, IF, RETURN, SWITCH, SYNCHRONIZED, THROW, TRY, WHILE}
use Rattle.rf_jtree.specs.ExprTrees.{expr_yield}
use Rattle.rf_jtree.specs.Kinds.{IsOp}
use Rattle.rf_jtree.specs.StmtFits.{IsNoLocal, StmtFits, BlockFits}
use Rattle.rf_jtree.specs.StmtTrees.{LocalTree, StmtTree, Block, Empty, Label, Expression, If, While, Do, For, Each, Switch, Jump, Return, Throw, Sync, Assert, Try, BlockTree, Braces, local_yield, stmt_yield, block_yield, local_depth, stmt_depth, block_depth}
use Rattle.rf_jexpr.specs.Descent.{parsers}
use Rattle.rf_jexpr.specs.PartReads.{Parsers}
use Rattle.rf_jexpr.specs.Reads.{is_op}
use Rattle.rf_jexpr.proofs.CompleteParts.{reads-same}
use Rattle.rf_jexpr.proofs.Tools.{bind-Some, if-true, if-false, token-at, IsOp-is_op}
use Rattle.rf_jstmt.specs.StmtParts.{StmtParsers}
use Rattle.rf_jstmt.specs.StmtReads.{local_stmt, block_stmt, no_stmts, with_stmt_room, stmt_parsers, whole_block}
use Rattle.rf_jstmt.specs.StmtStops.{Over}
use Rattle.rf_jstmt.specs.VarReads.{local, begins_local}
use Rattle.rf_jstmt.proofs.Dispatch.{key_no_local, op_no_local, label_no_local, expr_no_local, no_stmt, to_block}
use Rattle.rf_jstmt.proofs.ExactForms.{IsReadWhere, block_alone-exact, empty-exact, labeled-exact, expression_stmt-exact, if_stmt-exact, while_stmt-exact, do_stmt-exact, jump-exact, return_stmt-exact, throw_stmt-exact, assert_stmt-exact, sync_stmt-exact}
use Rattle.rf_jstmt.proofs.ExactLists.{for_stmt-exact, each_for-exact, switch_stmt-exact, try_stmt-exact}
use Rattle.rf_jmods.proofs.ExactMods.{variable_mods-exact, type_no_mod}
use Rattle.rf_jstmt.proofs.ExactParts.{AreExactStmts}
use Rattle.rf_jstmt.proofs.ExactVars.{AreExact, parsers-exact, type-exact, declaration_begins, local_vars-exact}
use Rattle.rf_jstmt.proofs.SoundParts.{GoodStmt}
use Rattle.rf_jstmt.proofs.SoundVars.{GoodLocal}
use Rattle.rf_jstmt.proofs.StmtFirst.{local_tokens}

-- no local declaration begins where another statement stands
no_local_begins : (t : StmtTree) (rest : List Tok) → StmtFits t → IsNoLocal t → begins_local (stmt_yield t ++ rest) ≡ false
no_local_begins (Block (Braces left list right)) rest fit none = op_no_local LEFT_BRACE refl left _ fit.0.0
no_local_begins (Empty semi) rest fit none = op_no_local SEMICOLON refl semi rest fit
no_local_begins (StmtTree.Local found semi) rest fit none = absurd none
no_local_begins (Label id colon body) rest fit none = label_no_local id colon _ fit.0.id_is fit.0.colon_is
no_local_begins (Expression expression semi) rest fit none = subst (λ toks. begins_local toks ≡ false) (sym (append_assoc (expr_yield expression) (semi ∷ []) rest)) (expr_no_local expression (semi ∷ rest) fit.1 fit.0.statement)
no_local_begins (If word left test right first other) rest fit none = key_no_local IF refl refl word _ fit.0.head.word_is
no_local_begins (While word left test right body) rest fit none = key_no_local WHILE refl refl word _ fit.0.head.word_is
no_local_begins (Do word body until left test right semi) rest fit none = key_no_local DO refl refl word _ fit.0.word_is
no_local_begins (For word left first semi1 test semi2 last right body) rest fit none = key_no_local FOR refl refl word _ fit.0.head.word_is
no_local_begins (Each word left mods used_type id colon over right body) rest fit none = key_no_local FOR refl refl word _ fit.0.head.word_is
no_local_begins (Switch word left on right brace parts end) rest fit none = key_no_local SWITCH refl refl word _ fit.0.head.word_is
no_local_begins (Jump word label semi) rest fit none = elim fit.word_is [ inl one ↦ key_no_local BREAK refl refl word _ one | inr other ↦ key_no_local CONTINUE refl refl word _ other ]
no_local_begins (Return word expression semi) rest fit none = key_no_local RETURN refl refl word _ fit.0.word_is
no_local_begins (Throw word expression semi) rest fit none = key_no_local THROW refl refl word _ fit.0.word_is
no_local_begins (Sync word left on right body) rest fit none = key_no_local SYNCHRONIZED refl refl word _ fit.0.word_is
no_local_begins (Assert word test message semi) rest fit none = key_no_local ASSERT refl refl word _ fit.0.word_is
no_local_begins (Try word body parts last) rest fit none = key_no_local TRY refl refl word _ fit.0.word_is

-- a declaration before a `;`
pub local-exact : (m : ℕ) (p : Parsers) → AreExact m p → (found : LocalTree) (semi : Tok) (rest : List Tok) → GoodLocal m found → IsOp SEMICOLON semi → local p (local_yield found ++ semi ∷ rest) ≡ Some (found, semi ∷ rest)
unfolding local
local-exact m p exact found semi rest good is =
    reads-same (local p) (local_tokens found (semi ∷ rest))
    (bind-Some _ _ _ _ (variable_mods-exact found.mods _ good.fits.mods_fit (type_no_mod found.used_type _ good.fits.used_type_fits))
    (bind-Some _ _ _ _ (type-exact found.used_type found.vars.first.id _ good.fits.used_type_fits good.fits.vars_fit.0.id_is) (local_vars-exact m p exact found semi rest good is)))

-- ---- one room from the room below it

module _ (m : ℕ) (p : Parsers) (s : StmtParsers) (exprs : AreExact m p) (stmts : AreExactStmts m s) where
  braces-exact : (braces : BlockTree) → IsReadWhere m p s exprs stmts (Block braces)
  braces-exact (Braces left list right) rest fit shallow over = to_block p s left _ fit.0.0 ∙ block_alone-exact m p s exprs stmts (Braces left list right) rest fit (omega arith)

  stmt-exact : (t : StmtTree) → IsNoLocal t → IsReadWhere m p s exprs stmts t
  stmt-exact (Block braces) none = braces-exact braces
  stmt-exact (Empty semi) none = empty-exact m p s exprs stmts semi
  stmt-exact (StmtTree.Local found semi) none = absurd none
  stmt-exact (Label id colon body) none = labeled-exact m p s exprs stmts id colon body
  stmt-exact (Expression expression semi) none = expression_stmt-exact m p s exprs stmts expression semi
  stmt-exact (If word left test right first other) none = if_stmt-exact m p s exprs stmts word left test right first other
  stmt-exact (While word left test right body) none = while_stmt-exact m p s exprs stmts word left test right body
  stmt-exact (Do word body until left test right semi) none = do_stmt-exact m p s exprs stmts word body until left test right semi
  stmt-exact (For word left first semi1 test semi2 last right body) none = for_stmt-exact m p s exprs stmts word left first semi1 test semi2 last right body
  stmt-exact (Each word left mods used_type id colon over right body) none = each_for-exact m p s exprs stmts word left mods used_type id colon over right body
  stmt-exact (Switch word left on right brace parts end) none = switch_stmt-exact m p s exprs stmts word left on right brace parts end
  stmt-exact (Jump word label semi) none = jump-exact m p s exprs stmts word label semi
  stmt-exact (Return word expression semi) none = return_stmt-exact m p s exprs stmts word expression semi
  stmt-exact (Throw word expression semi) none = throw_stmt-exact m p s exprs stmts word expression semi
  stmt-exact (Sync word left on right body) none = sync_stmt-exact m p s exprs stmts word left on right body
  stmt-exact (Assert word test message semi) none = assert_stmt-exact m p s exprs stmts word test message semi
  stmt-exact (Try word body parts last) none = try_stmt-exact m p s exprs stmts word body parts last

  local_stmt-exact : (found : LocalTree) (semi : Tok) (rest : List Tok) → GoodLocal m found → IsOp SEMICOLON semi → block_stmt p s ((local_yield found ++ semi ∷ []) ++ rest) ≡ Some (StmtTree.Local found semi, rest)
  unfolding block_stmt local_stmt
  local_stmt-exact found semi rest good is =
      let begin = declaration_begins found.mods found.used_type found.vars.first.id _ good.fits.mods_fit good.fits.used_type_fits good.fits.vars_fit.0.id_is in
      reads-same (block_stmt p s) (append_assoc (local_yield found) (semi ∷ []) rest)
      (if-true _ _ _ (subst (λ toks. IsTrue (begins_local toks)) (sym (local_tokens found (semi ∷ rest))) begin)
      ∙ bind-Some _ _ _ _ (local-exact m p exprs found semi rest good is) (bind-Some _ _ _ _ (token-at (is_op SEMICOLON) semi rest (IsOp-is_op SEMICOLON semi is)) refl))

  other_stmt-exact : (t : StmtTree) (rest : List Tok) → IsNoLocal t → GoodStmt (suc m) t → Over t rest → block_stmt p s (stmt_yield t ++ rest) ≡ Some (t, rest)
  unfolding block_stmt
  other_stmt-exact t rest none good over = if-false _ _ _ (no_local_begins t rest good.fits none) ∙ stmt-exact t none rest good.fits good.shallow over

  block_stmt-exact : (t : StmtTree) (rest : List Tok) → GoodStmt (suc m) t → Over t rest → block_stmt p s (stmt_yield t ++ rest) ≡ Some (t, rest)
  block_stmt-exact (StmtTree.Local found semi) rest good over = let shallow : local_depth found + 1 ≤ suc m = good.shallow in local_stmt-exact found semi rest (record { fits = good.fits.0; shallow = omega arith }) good.fits.1
  block_stmt-exact t rest good over = other_stmt-exact t rest tt good over

  with_stmt_room-exact : AreExactStmts (suc m) (with_stmt_room p s)
  unfolding with_stmt_room
  with_stmt_room-exact = record { stmt = λ t rest good over. stmt-exact t good.no_local rest good.fits good.shallow over; block_stmt = block_stmt-exact; ends = no_stmt p s }

-- Each statement has a depth of one at least.
some_depth : (t : StmtTree) → 1 ≤ stmt_depth t
some_depth (Empty semi) = omega arith
some_depth t = omega arith

-- in each room
pub stmt_parsers-exact : (m : ℕ) → AreExactStmts m (stmt_parsers m)
unfolding stmt_parsers no_stmts
stmt_parsers-exact zero = record {
  stmt = λ t rest good over. absurd (omega (arith, some_depth t, good.shallow));
  block_stmt = λ t rest good over. absurd (omega (arith, some_depth t, good.shallow));
  ends = λ rest ends. refl;
}
stmt_parsers-exact (suc m) = with_stmt_room-exact m (parsers m) (stmt_parsers m) (parsers-exact m) (stmt_parsers-exact m)

pub whole_block-exact : (room : ℕ) (block : BlockTree) (rest : List Tok) → BlockFits block → block_depth block + 1 ≤ room → whole_block room (block_yield block ++ rest) ≡ Some (Block block, rest)
unfolding whole_block
whole_block-exact zero block rest fit shallow = absurd (omega arith)
whole_block-exact (suc m) block rest fit shallow = block_alone-exact m (parsers m) (stmt_parsers m) (parsers-exact m) (stmt_parsers-exact m) block rest fit (omega arith)
