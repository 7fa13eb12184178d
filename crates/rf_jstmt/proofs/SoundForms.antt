-- What the readers of statements without lists read fits and is no deeper than the room.
use Rattle.std.proofs.Common.{ℕ, suc, ◌≤◌, [], Option, Some, None, Bool, true, false, not, IsTrue, IfSome, ◌⊎◌, inl, inr, refl, arith}
use Rattle.rf_jtree.specs.declared.tokens.Tok.{Tok}
use Rattle.rf_jtree.specs.declared.levels.TheConstants.{ASSIGNMENT_LEVEL}
use Rattle.rf_jtree.specs.declared.operator_names.TheConstants.{SEMICOLON, COLON}
use Rattle.rf_jtree.specs.declared.keyword_names.TheConstants.{ASSERT, BREAK, CONTINUE, DO, ELSE, IF, RETURN, SYNCHRONIZED, THROW, WHILE}
use Rattle.rf_jtree.specs.ExprTrees.{ExprTree, expr_yield, expr_depth}
use Rattle.rf_jtree.specs.Kinds.{IsOp, IsKey, IsIdent}
use Rattle.rf_jtree.specs.NameTrees.{tok_yield, option_depth}
use Rattle.rf_jtree.specs.StmtFits.{IsStatementExpr, EndsOpen, ends_open, IsNearestIf, MessageFits, OtherFits}
use Rattle.rf_jtree.specs.StmtTrees.{StmtTree, Block, Empty, Label, Expression, If, While, Do, Jump, Return, Throw, Sync, Assert}
use Rattle.rf_jtree.specs.StmtTrees.{OtherTree, NoOther, Other}
use Rattle.rf_jtree.specs.StmtTrees.{stmt_yield, other_yield, other_depth}
use Rattle.rf_jexpr.specs.PartReads.{Parsers}
use Rattle.rf_jexpr.specs.Reads.{when, is_op, is_key, is_ident, begins, token, optional, behind}
use Rattle.rf_jexpr.proofs.LoopLemmas.{IsSound, behind-sound}
use Rattle.rf_jexpr.proofs.SoundNames.{token-sound, optional-sound}
use Rattle.rf_jexpr.proofs.SoundParts.{Good, AreSound}
use Rattle.rf_jexpr.proofs.Tools.{either_way, token_takes, is_op-IsOp, is_key-IsKey, is_ident-IsIdent}
use Rattle.rf_jstmt.specs.StmtParts.{StmtParsers, block, optional_expr}
use Rattle.rf_jstmt.specs.StmtReads.{block_alone, empty, labeled, expression_stmt, other_part, other, if_stmt, while_stmt, do_stmt, jumps, jump, return_stmt, throw_stmt, sync_stmt, assert_stmt, stmt}
use Rattle.rf_jstmt.specs.StmtTests.{is_statement_expr}
use Rattle.rf_jstmt.proofs.SoundParts.{GoodPart, AreSoundStmts, block-sound, head_then, step_head, optional_expr-sound}
use Rattle.rf_jmods.proofs.Steps.{step_tok, step_part, step_when, tok_then, part_then, at_last, tok_last, done, max_le, one_more, alone}
use Rattle.rf_jmods.proofs.ModTestLemmas.{or_true}
use Rattle.rf_jstmt.proofs.TestLemmas.{is_statement_expr-Is}

-- ---- parts that may be left out

pub record GoodOther (room : ℕ) (then : StmtTree) (other : OtherTree) : Type 0 where
  pub fits : OtherFits other
  pub nearest : IsNearestIf then other
  pub shallow : other_depth other ≤ room

abbrev pub GoodMessage : ℕ → Tok × ExprTree → Type 0
GoodMessage room message = IsOp COLON message.0 × Good ASSIGNMENT_LEVEL room message.1

message_fits : (room : ℕ) (found : Option (Tok × ExprTree)) → IfSome found (GoodMessage room) → IfSome found MessageFits
message_fits room None good = tt
message_fits room (Some message) good = (good.0, good.1.fits)

message_shallow : (room : ℕ) (found : Option (Tok × ExprTree)) → IfSome found (GoodMessage room) → option_depth (λ (part : Tok × ExprTree). expr_depth part.1) found ≤ room
message_shallow room None good = omega arith
message_shallow room (Some message) good = good.1.shallow

jumps-Is : (tok : Tok) → IsTrue (jumps tok) → (IsKey BREAK tok) ⊎ (IsKey CONTINUE tok)
unfolding jumps
jumps-Is tok h = elim (or_true (is_key BREAK tok) (is_key CONTINUE tok) h) [ inl one ↦ inl (is_key-IsKey BREAK tok one) | inr other ↦ inr (is_key-IsKey CONTINUE tok other) ]

not_open : (stmt : StmtTree) → IsTrue (not (ends_open stmt)) → ¬ (EndsOpen stmt)
not_open stmt h = λ is. no (ends_open stmt) h is
  where
    no : (test : Bool) → IsTrue (not test) → IsTrue test → ⊥
    no true h is = cc
    no false h is = cc

-- a `;` behind an expression that may stand as a statement
abbrev EndsExpression : ExprTree → Tok → Type 0
EndsExpression found semi = IsStatementExpr found × IsOp SEMICOLON semi

semi-sound : (found : ExprTree) → IsSound (EndsExpression found) tok_yield (λ toks. when (is_statement_expr found) (token (is_op SEMICOLON) toks))
semi-sound found toks y h =
    step_when (is_statement_expr found) _ y h (λ is k.
    let took = token_takes (is_op SEMICOLON) toks y k in
    record { fits = (is_statement_expr-Is found is, is_op-IsOp SEMICOLON y.0 took.is); takes = took.takes })

-- ---- one room from the room below it

module _ (m : ℕ) (p : Parsers) (s : StmtParsers) (sound : AreSound m p) (sounds : AreSoundStmts m s) where
  pub block_alone-sound : IsSound (GoodPart (suc m)) stmt_yield (block_alone s)
  unfolding block_alone
  block_alone-sound toks y h =
      step_part _ _ (block s) toks _ y (block-sound m s sounds) h (λ braces a same.
      done (GoodPart (suc m)) stmt_yield toks (Block braces.0) braces.1 y same (record { fits = a.fits.fits; no_local = tt; shallow = one_more _ m a.fits.shallow }) (at_last _ a.takes))

  pub empty-sound : IsSound (GoodPart (suc m)) stmt_yield empty
  unfolding empty
  empty-sound toks y h =
      step_tok (is_op SEMICOLON) toks _ y h (λ semi a same.
      done (GoodPart (suc m)) stmt_yield toks (Empty semi.0) semi.1 y same (record { fits = is_op-IsOp SEMICOLON semi.0 a.is; no_local = tt; shallow = alone m }) (tok_last a.takes))

  pub labeled-sound : IsSound (GoodPart (suc m)) stmt_yield (labeled s)
  unfolding labeled
  labeled-sound toks y h =
      step_tok is_ident toks _ y h (λ id a k.
      step_tok (is_op COLON) id.1 _ y k (λ colon b l.
      step_part _ _ s.stmt colon.1 _ y sounds.stmt l (λ body c same.
      done (GoodPart (suc m)) stmt_yield toks (Label id.0 colon.0 body.0) body.1 y same
      (record {
        fits = (record { id_is = is_ident-IsIdent id.0 a.is; colon_is = is_op-IsOp COLON colon.0 b.is; no_local = c.fits.no_local }, c.fits.fits);
        no_local = tt;
        shallow = one_more _ m c.fits.shallow;
      })
      (tok_then a.takes (tok_then b.takes (at_last _ c.takes))))))

  pub expression_stmt-sound : IsSound (GoodPart (suc m)) stmt_yield (expression_stmt p)
  unfolding expression_stmt
  expression_stmt-sound toks y h =
      step_part _ _ p.expr toks _ y sound.expr h (λ found a k.
      step_part _ _ (λ others. when (is_statement_expr found.0) (token (is_op SEMICOLON) others)) found.1 _ y (semi-sound found.0) k (λ semi b same.
      done (GoodPart (suc m)) stmt_yield toks (Expression found.0 semi.0) semi.1 y same
      (record { fits = (record { statement = b.fits.0; semi_is = b.fits.1 }, a.fits.fits); no_local = tt; shallow = one_more _ m a.fits.shallow })
      (part_then _ a.takes (at_last _ b.takes))))

  other-sound : (then : StmtTree) → IsSound (GoodOther m then) other_yield (other s then)
  unfolding other other_part
  other-sound then toks y =
      either_way (begins (is_key ELSE) toks) _ _ y
      (λ h. step_when (not (ends_open then)) _ y h (λ nearest k.
      step_tok (is_key ELSE) toks _ y k (λ word a l.
      step_part _ _ s.stmt word.1 _ y sounds.stmt l (λ body b same.
      done (GoodOther m then) other_yield toks (Other word.0 body.0) body.1 y same
      (record { fits = (is_key-IsKey ELSE word.0 a.is, b.fits.no_local, b.fits.fits); nearest = not_open then nearest; shallow = b.fits.shallow })
      (tok_then a.takes (at_last _ b.takes))))))
      (λ same. done (GoodOther m then) other_yield toks NoOther toks y same (record { fits = tt; nearest = tt; shallow = omega arith }) (at_last [] refl))

  pub if_stmt-sound : IsSound (GoodPart (suc m)) stmt_yield (if_stmt p s)
  unfolding if_stmt
  if_stmt-sound toks y h =
      step_head m p sound IF toks _ y h (λ test a k.
      step_part _ _ s.stmt test.1 _ y sounds.stmt k (λ first b l.
      step_part _ _ (other s first.0) first.1 _ y (other-sound first.0) l (λ end c same.
      done (GoodPart (suc m)) stmt_yield toks (If test.0.word test.0.left test.0.expression test.0.right first.0 end.0) end.1 y same
      (record {
        fits = (record { head = a.head; nearest = c.fits.nearest; no_local = b.fits.no_local }, a.fits, b.fits.fits, c.fits.fits);
        no_local = tt;
        shallow = one_more _ m (max_le _ _ m a.shallow (max_le _ _ m b.fits.shallow c.fits.shallow));
      })
      (head_then _ _ test.0.expression _ a.takes (part_then _ b.takes (at_last _ c.takes))))))

  pub while_stmt-sound : IsSound (GoodPart (suc m)) stmt_yield (while_stmt p s)
  unfolding while_stmt
  while_stmt-sound toks y h =
      step_head m p sound WHILE toks _ y h (λ test a k.
      step_part _ _ s.stmt test.1 _ y sounds.stmt k (λ body b same.
      done (GoodPart (suc m)) stmt_yield toks (While test.0.word test.0.left test.0.expression test.0.right body.0) body.1 y same
      (record { fits = (record { head = a.head; no_local = b.fits.no_local }, a.fits, b.fits.fits); no_local = tt; shallow = one_more _ m (max_le _ _ m a.shallow b.fits.shallow) })
      (head_then _ _ test.0.expression _ a.takes (at_last _ b.takes))))

  pub do_stmt-sound : IsSound (GoodPart (suc m)) stmt_yield (do_stmt p s)
  unfolding do_stmt
  do_stmt-sound toks y h =
      step_tok (is_key DO) toks _ y h (λ word a k.
      step_part _ _ s.stmt word.1 _ y sounds.stmt k (λ body b l.
      step_head m p sound WHILE body.1 _ y l (λ test c n.
      step_tok (is_op SEMICOLON) test.1 _ y n (λ semi d same.
      done (GoodPart (suc m)) stmt_yield toks (Do word.0 body.0 test.0.word test.0.left test.0.expression test.0.right semi.0) semi.1 y same
      (record {
        fits = (record { word_is = is_key-IsKey DO word.0 a.is; no_local = b.fits.no_local; until_is = c.head; semi_is = is_op-IsOp SEMICOLON semi.0 d.is }, b.fits.fits, c.fits);
        no_local = tt;
        shallow = one_more _ m (max_le _ _ m b.fits.shallow c.shallow);
      })
      (tok_then a.takes (part_then _ b.takes (head_then _ _ test.0.expression _ c.takes (tok_last d.takes))))))))

  pub jump-sound : IsSound (GoodPart (suc m)) stmt_yield jump
  unfolding jump
  jump-sound toks y h =
      step_tok jumps toks _ y h (λ word a k.
      step_part _ _ (optional (token is_ident)) word.1 _ y (optional-sound IsIdent tok_yield (token is_ident) (token-sound IsIdent is_ident is_ident-IsIdent)) k (λ label b l.
      step_tok (is_op SEMICOLON) label.1 _ y l (λ semi c same.
      done (GoodPart (suc m)) stmt_yield toks (Jump word.0 label.0 semi.0) semi.1 y same
      (record { fits = record { word_is = jumps-Is word.0 a.is; label_is = b.fits; semi_is = is_op-IsOp SEMICOLON semi.0 c.is }; no_local = tt; shallow = alone m })
      (tok_then a.takes (part_then _ b.takes (tok_last c.takes))))))

  pub return_stmt-sound : IsSound (GoodPart (suc m)) stmt_yield (return_stmt p)
  unfolding return_stmt
  return_stmt-sound toks y h =
      step_tok (is_key RETURN) toks _ y h (λ word a k.
      step_part _ _ (optional_expr p) word.1 _ y (optional_expr-sound m p sound) k (λ found b l.
      step_tok (is_op SEMICOLON) found.1 _ y l (λ semi c same.
      done (GoodPart (suc m)) stmt_yield toks (Return word.0 found.0 semi.0) semi.1 y same
      (record { fits = (record { word_is = is_key-IsKey RETURN word.0 a.is; semi_is = is_op-IsOp SEMICOLON semi.0 c.is }, b.fits.fits); no_local = tt; shallow = one_more _ m b.fits.shallow })
      (tok_then a.takes (part_then _ b.takes (tok_last c.takes))))))

  pub throw_stmt-sound : IsSound (GoodPart (suc m)) stmt_yield (throw_stmt p)
  unfolding throw_stmt
  throw_stmt-sound toks y h =
      step_tok (is_key THROW) toks _ y h (λ word a k.
      step_part _ _ p.expr word.1 _ y sound.expr k (λ found b l.
      step_tok (is_op SEMICOLON) found.1 _ y l (λ semi c same.
      done (GoodPart (suc m)) stmt_yield toks (Throw word.0 found.0 semi.0) semi.1 y same
      (record { fits = (record { word_is = is_key-IsKey THROW word.0 a.is; semi_is = is_op-IsOp SEMICOLON semi.0 c.is }, b.fits.fits); no_local = tt; shallow = one_more _ m b.fits.shallow })
      (tok_then a.takes (part_then _ b.takes (tok_last c.takes))))))

  pub sync_stmt-sound : IsSound (GoodPart (suc m)) stmt_yield (sync_stmt p s)
  unfolding sync_stmt
  sync_stmt-sound toks y h =
      step_head m p sound SYNCHRONIZED toks _ y h (λ on a k.
      step_part _ _ (block s) on.1 _ y (block-sound m s sounds) k (λ body b same.
      done (GoodPart (suc m)) stmt_yield toks (Sync on.0.word on.0.left on.0.expression on.0.right body.0) body.1 y same
      (record { fits = (a.head, a.fits, b.fits.fits); no_local = tt; shallow = one_more _ m (max_le _ _ m a.shallow b.fits.shallow) })
      (head_then _ _ on.0.expression _ a.takes (at_last _ b.takes))))

  pub assert_stmt-sound : IsSound (GoodPart (suc m)) stmt_yield (assert_stmt p)
  unfolding assert_stmt
  assert_stmt-sound toks y h =
      step_tok (is_key ASSERT) toks _ y h (λ word a k.
      step_part _ _ p.expr word.1 _ y sound.expr k (λ test b l.
      step_part _ _ (optional (behind (is_op COLON) p.expr)) test.1 _ y (optional-sound _ _ _ (behind-sound (Good ASSIGNMENT_LEVEL m) expr_yield COLON p.expr sound.expr)) l (λ message c n.
      step_tok (is_op SEMICOLON) message.1 _ y n (λ semi d same.
      done (GoodPart (suc m)) stmt_yield toks (Assert word.0 test.0 message.0 semi.0) semi.1 y same
      (record {
        fits = (record { word_is = is_key-IsKey ASSERT word.0 a.is; semi_is = is_op-IsOp SEMICOLON semi.0 d.is }, b.fits.fits, message_fits m message.0 c.fits);
        no_local = tt;
        shallow = one_more _ m (max_le _ _ m b.fits.shallow (message_shallow m message.0 c.fits));
      })
      (tok_then a.takes (part_then _ b.takes (part_then _ c.takes (tok_last d.takes))))))))
