-- What the readers of statements read fits and is no deeper than the room, in each room.
use Rattle.std.proofs.Common.{ℕ, zero, suc, List}
use Rattle.rf_jtree.specs.declared.tokens.Tok.{Tok}
use Rattle.rf_jtree.specs.declared.operator_names.TheConstants.{LEFT_BRACE, SEMICOLON}
use Rattle.rf_jtree.specs.declared.keyword_names.TheConstants.{ASSERT, DO, FOR, IF, RETURN, SWITCH, SYNCHRONIZED, THROW, TRY, WHILE}
use Rattle.rf_jtree.specs.StmtTrees.{StmtTree}
use Rattle.rf_jtree.specs.StmtTrees.{stmt_yield}
use Rattle.rf_jexpr.specs.Descent.{parsers}
use Rattle.rf_jexpr.specs.PartReads.{Parsers}
use Rattle.rf_jexpr.specs.Reads.{is_op, is_key, begins}
use Rattle.rf_jexpr.specs.Stops.{begins_expr}
use Rattle.rf_jexpr.proofs.LoopLemmas.{Read, IsSound}
use Rattle.rf_jexpr.proofs.Sound.{parsers-sound}
use Rattle.rf_jexpr.proofs.SoundParts.{AreSound}
use Rattle.rf_jexpr.proofs.Tools.{either_way, is_op-IsOp}
use Rattle.rf_jstmt.specs.StmtParts.{StmtParsers}
use Rattle.rf_jstmt.specs.StmtReads.{by_word, stmt, local_stmt, block_stmt, no_stmts, with_stmt_room, stmt_parsers}
use Rattle.rf_jstmt.specs.VarReads.{local, begins_local, begins_label}
use Rattle.rf_jstmt.proofs.SoundParts.{GoodStmt, GoodPart, AreSoundStmts}
use Rattle.rf_jstmt.proofs.SoundForms.{block_alone-sound, empty-sound, labeled-sound, expression_stmt-sound, if_stmt-sound, while_stmt-sound, do_stmt-sound, jump-sound, return_stmt-sound, throw_stmt-sound, sync_stmt-sound, assert_stmt-sound}
use Rattle.rf_jstmt.proofs.SoundLists.{for_stmt-sound, switch_stmt-sound, try_stmt-sound}
use Rattle.rf_jstmt.proofs.SoundVars.{local-sound}
use Rattle.rf_jmods.proofs.Steps.{step_tok, step_part, part_then, tok_last, done, one_more}

-- ---- one room from the room below it

module _ (m : ℕ) (p : Parsers) (s : StmtParsers) (sound : AreSound m p) (sounds : AreSoundStmts m s) where
  by_word-sound : IsSound (GoodPart (suc m)) stmt_yield (by_word p s)
  unfolding by_word
  by_word-sound toks y =
      either_way (begins (is_op LEFT_BRACE) toks) _ _ y (block_alone-sound m p s sound sounds toks y)
      (either_way (begins (is_op SEMICOLON) toks) _ _ y (empty-sound m p s sound sounds toks y)
      (either_way (begins (is_key IF) toks) _ _ y (if_stmt-sound m p s sound sounds toks y)
      (either_way (begins (is_key WHILE) toks) _ _ y (while_stmt-sound m p s sound sounds toks y)
      (either_way (begins (is_key DO) toks) _ _ y (do_stmt-sound m p s sound sounds toks y)
      (either_way (begins (is_key FOR) toks) _ _ y (for_stmt-sound m p s sound sounds toks y)
      (either_way (begins (is_key SWITCH) toks) _ _ y (switch_stmt-sound m p s sound sounds toks y)
      (either_way (begins (is_key RETURN) toks) _ _ y (return_stmt-sound m p s sound sounds toks y)
      (either_way (begins (is_key THROW) toks) _ _ y (throw_stmt-sound m p s sound sounds toks y)
      (either_way (begins (is_key SYNCHRONIZED) toks) _ _ y (sync_stmt-sound m p s sound sounds toks y)
      (either_way (begins (is_key ASSERT) toks) _ _ y (assert_stmt-sound m p s sound sounds toks y)
      (either_way (begins (is_key TRY) toks) _ _ y (try_stmt-sound m p s sound sounds toks y) (jump-sound m p s sound sounds toks y))))))))))))

  stmt-sound : IsSound (GoodPart (suc m)) stmt_yield (stmt p s)
  unfolding stmt
  stmt-sound toks y =
      either_way (begins begins_expr toks) _ _ y
      (either_way (begins_label toks) _ _ y (labeled-sound m p s sound sounds toks y) (expression_stmt-sound m p s sound sounds toks y))
      (by_word-sound toks y)

  any_part : (toks : List Tok) (y : StmtTree × List Tok) → Read (GoodPart (suc m)) stmt_yield toks y.0 y.1 → Read (GoodStmt (suc m)) stmt_yield toks y.0 y.1
  any_part toks y part = record { fits = record { fits = part.fits.fits; shallow = part.fits.shallow }; takes = part.takes }

  local_stmt-sound : IsSound (GoodStmt (suc m)) stmt_yield (local_stmt p)
  unfolding local_stmt
  local_stmt-sound toks y h =
      step_part _ _ (local p) toks _ y (local-sound m p sound) h (λ found a k.
      step_tok (is_op SEMICOLON) found.1 _ y k (λ semi b same.
      done (GoodStmt (suc m)) stmt_yield toks (StmtTree.Local found.0 semi.0) semi.1 y same
      (record { fits = (a.fits.fits, is_op-IsOp SEMICOLON semi.0 b.is); shallow = one_more _ m a.fits.shallow })
      (part_then _ a.takes (tok_last b.takes))))

  block_stmt-sound : IsSound (GoodStmt (suc m)) stmt_yield (block_stmt p s)
  unfolding block_stmt
  block_stmt-sound toks y = either_way (begins_local toks) _ _ y (local_stmt-sound toks y) (λ h. any_part toks y (stmt-sound toks y h))

  with_stmt_room-sound : AreSoundStmts (suc m) (with_stmt_room p s)
  unfolding with_stmt_room
  with_stmt_room-sound = record { stmt = stmt-sound; block_stmt = block_stmt-sound }

-- in each room
pub stmt_parsers-sound : (m : ℕ) → AreSoundStmts m (stmt_parsers m)
unfolding stmt_parsers no_stmts
stmt_parsers-sound zero = record { stmt = λ toks y h. cc; block_stmt = λ toks y h. cc }
stmt_parsers-sound (suc m) = with_stmt_room-sound m (parsers m) (stmt_parsers m) (parsers-sound m) (stmt_parsers-sound m)
