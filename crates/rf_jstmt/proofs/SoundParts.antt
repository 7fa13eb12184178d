-- What the readers of statements in braces, and of the parts that several forms of statement have, read fits and is no
-- deeper than the room that is left for parts.
use Rattle.std.proofs.Common.{◌≡◌, ℕ, ◌≤◌, List, [], ◌∷◌, ◌++◌, Option, Some, None, IfSome, refl, ap, ◌∙◌, arith}
use Rattle.std.specs.List.{flat_map}
use Rattle.rf_jtree.specs.declared.tokens.Tok.{Tok}
use Rattle.rf_jtree.specs.declared.words.Kw.{Kw}
use Rattle.rf_jtree.specs.declared.levels.TheConstants.{ASSIGNMENT_LEVEL}
use Rattle.rf_jtree.specs.declared.operator_names.TheConstants.{LEFT_PAREN, RIGHT_PAREN, LEFT_BRACE, RIGHT_BRACE, COMMA}
use Rattle.rf_jtree.specs.ExprFits.{ExprFits, ExprsFit}
use Rattle.rf_jtree.specs.ExprTrees.{ExprTree, ExprsTree, NoExprs, expr_yield, exprs_yield, expr_depth, exprs_depth}
use Rattle.rf_jtree.specs.NameFits.{EachFits}
use Rattle.rf_jtree.specs.NameTrees.{option_yield, option_depth}
use Rattle.rf_jtree.specs.StmtFits.{IsNoLocal, AreStatementExprs, IsHead, StmtFits, BlockFits, StmtsFit}
use Rattle.rf_jtree.specs.StmtShown.{stmts_tree}
use Rattle.rf_jtree.specs.StmtTrees.{StmtTree, BlockTree, Braces, StmtsTree, stmt_yield, block_yield, stmts_yield, stmt_depth, block_depth, stmts_depth}
use Rattle.rf_jmake.specs.ExprMade.{exprs_of}
use Rattle.rf_jexpr.specs.PartReads.{Parsers}
use Rattle.rf_jexpr.specs.Reads.{◌>>=◌, is_op, is_key, begins, many, separated}
use Rattle.rf_jexpr.specs.Stops.{begins_expr}
use Rattle.rf_jexpr.proofs.LoopLemmas.{IsSound, many-sound, separated-sound}
use Rattle.rf_jexpr.proofs.SoundParts.{Good, AreSound, exprs-good, exprs_yield-of}
use Rattle.rf_jexpr.proofs.Tools.{either_way, bound, of_bind, is_op-IsOp, is_key-IsKey, by_some}
use Rattle.rf_jstmt.specs.StmtParts.{StmtParsers, stmts, block, Head, head, optional_expr, some_exprs, statement_exprs}
use Rattle.rf_jstmt.specs.StmtTests.{are_statement_exprs}
use Rattle.rf_jmods.proofs.Steps.{step_tok, step_part, step_when, Takes, tok_then, part_then, at_last, tok_last, done, max_le}
use Rattle.rf_jstmt.proofs.TestLemmas.{are_statement_exprs-Are}

-- ---- statements

-- a statement that fits and is no deeper than the room
pub record GoodStmt (room : ℕ) (stmt : StmtTree) : Type 0 where
  pub fits : StmtFits stmt
  pub shallow : stmt_depth stmt ≤ room

-- the same, but for a local declaration
pub record GoodPart (room : ℕ) (stmt : StmtTree) : Type 0 where
  pub fits : StmtFits stmt
  pub no_local : IsNoLocal stmt
  pub shallow : stmt_depth stmt ≤ room

pub record GoodStmts (room : ℕ) (stmts : StmtsTree) : Type 0 where
  pub fits : StmtsFit stmts
  pub shallow : stmts_depth stmts ≤ room

pub record GoodBlock (room : ℕ) (block : BlockTree) : Type 0 where
  pub fits : BlockFits block
  pub shallow : block_depth block ≤ room

-- what the readers of a room read is so
pub record AreSoundStmts (room : ℕ) (s : StmtParsers) : Type 0 where
  pub stmt : IsSound (GoodPart room) stmt_yield s.stmt
  pub block_stmt : IsSound (GoodStmt room) stmt_yield s.block_stmt

stmts-good : (room : ℕ) (list : List StmtTree) → EachFits (GoodStmt room) list → GoodStmts room (stmts_tree list)
stmts-good room [] each = record { fits = tt; shallow = omega arith }
stmts-good room (stmt ∷ rest) each =
    let more = stmts-good room rest each.1 in
    record { fits = (each.0.fits, more.fits); shallow = max_le _ _ room each.0.shallow more.shallow }

pub stmts_yield-tree : (list : List StmtTree) → flat_map stmt_yield list ≡ stmts_yield (stmts_tree list)
stmts_yield-tree [] = refl
stmts_yield-tree (stmt ∷ rest) = ap (λ others. stmt_yield stmt ++ others) (stmts_yield-tree rest)

module _ (m : ℕ) (s : StmtParsers) (sound : AreSoundStmts m s) where
  pub stmts-sound : IsSound (GoodStmts m) stmts_yield (stmts s)
  unfolding stmts
  stmts-sound toks y h =
      step_part _ _ (many s.block_stmt) toks _ y (many-sound (GoodStmt m) stmt_yield s.block_stmt sound.block_stmt) h (λ list a same.
      done (GoodStmts m) stmts_yield toks (stmts_tree list.0) list.1 y same (stmts-good m list.0 a.fits) (at_last _ (a.takes ∙ ap (λ front. front ++ list.1) (stmts_yield-tree list.0))))

  pub block-sound : IsSound (GoodBlock m) block_yield (block s)
  unfolding block
  block-sound toks y h =
      step_tok (is_op LEFT_BRACE) toks _ y h (λ left a k.
      step_part _ _ (stmts s) left.1 _ y stmts-sound k (λ list b l.
      step_tok (is_op RIGHT_BRACE) list.1 _ y l (λ right c same.
      done (GoodBlock m) block_yield toks (Braces left.0 list.0 right.0) right.1 y same
      (record { fits = ((is_op-IsOp LEFT_BRACE left.0 a.is, is_op-IsOp RIGHT_BRACE right.0 c.is), b.fits.fits); shallow = b.fits.shallow })
      (tok_then a.takes (part_then _ b.takes (tok_last c.takes))))))

-- ---- a keyword with an expression in parentheses

pub record ReadsHead (room : ℕ) (key : Kw) (toks : List Tok) (found : Head) (rest : List Tok) : Type 0 where
  pub head : IsHead key found.word found.left found.right
  pub fits : ExprFits found.expression
  pub shallow : expr_depth found.expression ≤ room
  pub takes : toks ≡ found.word ∷ found.left ∷ (expr_yield found.expression ++ found.right ∷ rest)

pub head_then : {toks mid more rest : List Tok} (word left : Tok) (expression : ExprTree) (right : Tok) → toks ≡ word ∷ left ∷ (expr_yield expression ++ right ∷ mid) → Takes mid more rest → Takes toks (word ∷ left ∷ (expr_yield expression ++ right ∷ more)) rest
head_then {mid = mid} word left expression right h k =
    let inner : Takes (right ∷ mid) (right ∷ _) _ = tok_then refl k in
    let behind : Takes (left ∷ (expr_yield expression ++ right ∷ mid)) _ _ = tok_then refl (part_then (expr_yield expression) refl inner) in
    tok_then h behind

pub record GoodExprs (room : ℕ) (exprs : ExprsTree) : Type 0 where
  pub fits : ExprsFit exprs
  pub statements : AreStatementExprs exprs
  pub shallow : exprs_depth exprs ≤ room

pub record GoodOption (room : ℕ) (found : Option ExprTree) : Type 0 where
  pub fits : IfSome found ExprFits
  pub shallow : option_depth expr_depth found ≤ room

module _ (m : ℕ) (p : Parsers) (sound : AreSound m p) where
  head-sound : (key : Kw) (toks : List Tok) (y : Head × List Tok) → head p key toks ≡ Some y → ReadsHead m key toks y.0 y.1
  unfolding head
  head-sound key toks y h =
      step_tok (is_key key) toks _ y h (λ word a k.
      step_tok (is_op LEFT_PAREN) word.1 _ y k (λ left b l.
      step_part _ _ p.expr left.1 _ y sound.expr l (λ expression c n.
      step_tok (is_op RIGHT_PAREN) expression.1 _ y n (λ right d same.
      let all : ReadsHead m key toks (record { word = word.0; left = left.0; expression = expression.0; right = right.0 }) right.1 =
      record {
        head = record { word_is = is_key-IsKey key word.0 a.is; parens = (is_op-IsOp LEFT_PAREN left.0 b.is, is_op-IsOp RIGHT_PAREN right.0 d.is) };
        fits = c.fits.fits;
        shallow = c.fits.shallow;
        takes = a.takes ∙ ap (λ others. word.0 ∷ others) (b.takes ∙ ap (λ others. left.0 ∷ others) (c.takes ∙ ap (λ others. expr_yield expression.0 ++ others) d.takes));
      } in
      by_some (λ z. ReadsHead m key toks z.0 z.1) (record { word = word.0; left = left.0; expression = expression.0; right = right.0 }, right.1) y same all))))

  pub step_head : {B P : Type 0} (key : Kw) (toks : List Tok) (next : Head × List Tok → Option B) (y : B) → (head p key toks >>= next) ≡ Some y
      → ((x : Head × List Tok) → ReadsHead m key toks x.0 x.1 → next x ≡ Some y → P) → P
  step_head key toks next y h further = elim (of_bind (head p key toks) next y h) [ bound x found after ↦ further x (head-sound key toks x found) after ]

  -- ---- expressions that may be left out

  pub optional_expr-sound : IsSound (GoodOption m) (option_yield expr_yield) (optional_expr p)
  unfolding optional_expr
  optional_expr-sound toks y =
      either_way (begins begins_expr toks) _ _ y
      (λ h. step_part _ _ p.expr toks _ y sound.expr h (λ expression a same. done (GoodOption m) (option_yield expr_yield) toks (Some expression.0) expression.1 y same (record { fits = a.fits.fits; shallow = a.fits.shallow }) (at_last _ a.takes)))
      (λ same. done (GoodOption m) (option_yield expr_yield) toks None toks y same (record { fits = tt; shallow = omega arith }) (at_last [] refl))

  some_exprs-sound : IsSound (GoodExprs m) exprs_yield (some_exprs p)
  unfolding some_exprs
  some_exprs-sound toks y h =
      step_part _ _ (separated COMMA p.expr) toks _ y (separated-sound (Good ASSIGNMENT_LEVEL m) expr_yield COMMA p.expr sound.expr) h (λ list a k.
      step_when (are_statement_exprs (exprs_of (Some list.0))) _ y k (λ are same.
      let good = exprs-good m (Some list.0) a.fits in
      done (GoodExprs m) exprs_yield toks (exprs_of (Some list.0)) list.1 y same
      (record { fits = good.fits; statements = are_statement_exprs-Are (exprs_of (Some list.0)) are; shallow = good.shallow })
      (at_last _ (a.takes ∙ ap (λ front. front ++ list.1) (exprs_yield-of (Some list.0))))))

  pub statement_exprs-sound : IsSound (GoodExprs m) exprs_yield (statement_exprs p)
  unfolding statement_exprs
  statement_exprs-sound toks y =
      either_way (begins begins_expr toks) _ _ y (some_exprs-sound toks y)
      (λ same. done (GoodExprs m) exprs_yield toks NoExprs toks y same (record { fits = tt; statements = tt; shallow = omega arith }) (at_last [] refl))
