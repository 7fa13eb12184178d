-- Statements in braces, and the parts that several forms of statement have, are read where they stand.
use Rattle.std.proofs.Common.{◌≡◌, ℕ, ◌≤◌, List, [], ◌∷◌, ◌++◌, Option, Some, None, false, IsTrue, refl, ap, ◌∙◌, sym, subst, arith, append_assoc}
use Rattle.std.specs.List.{flat_map}
use Rattle.rf_jtree.specs.declared.tokens.Tok.{Tok}
use Rattle.rf_jtree.specs.declared.words.Kw.{Kw}
use Rattle.rf_jtree.specs.declared.levels.TheConstants.{ASSIGNMENT_LEVEL}
use Rattle.rf_jtree.specs.declared.operator_names.TheConstants.{LEFT_PAREN, RIGHT_PAREN, LEFT_BRACE, RIGHT_BRACE, COMMA, SEMICOLON}
use Rattle.rf_jtree.specs.ExprFits.{ExprFits, MoreExprsFit}
use Rattle.rf_jtree.specs.ExprShown.{more_exprs_tree}
use Rattle.rf_jtree.specs.ExprTrees.{ExprTree, ExprsTree, NoExprs, Exprs, MoreExprsTree, NoMoreExprs, MoreExprs, expr_yield, exprs_yield, expr_depth, exprs_depth, more_exprs_depth}
use Rattle.rf_jtree.specs.Kinds.{IsOp}
use Rattle.rf_jtree.specs.NameFits.{EachFits}
use Rattle.rf_jtree.specs.NameTrees.{ManyTree, option_yield, many_yield}
use Rattle.rf_jtree.specs.StmtFits.{IsHead, StmtsFit}
use Rattle.rf_jtree.specs.StmtShown.{stmts_tree}
use Rattle.rf_jtree.specs.StmtTrees.{StmtTree, Braces, StmtsTree, NoStmts, Stmts, stmt_yield, block_yield, stmts_yield, stmts_depth}
use Rattle.rf_jmake.specs.ExprMade.{exprs_of}
use Rattle.rf_jexpr.specs.PartReads.{Parsers}
use Rattle.rf_jexpr.specs.Reads.{is_op, is_key, begins, behind}
use Rattle.rf_jexpr.specs.Stops.{Stops, begins_expr}
use Rattle.rf_jexpr.proofs.CompleteNames.{Anything}
use Rattle.rf_jexpr.proofs.CompleteParts.{reads-same}
use Rattle.rf_jexpr.proofs.LoopLemmas.{IsExact, many-exact, separated-exact}
use Rattle.rf_jexpr.proofs.SoundParts.{Good, exprs_yield-of}
use Rattle.rf_jexpr.proofs.StopLemmas.{stops_comma, stops_paren, stops_semicolon}
use Rattle.rf_jexpr.proofs.Tools.{bind-Some, bind-None, if-true, if-false, when-true, token-at, token-other, IsOp-is_op, IsKey-is_key}
use Rattle.rf_jstmt.specs.StmtParts.{StmtParsers, stmts, block, head, optional_expr, some_exprs, statement_exprs}
use Rattle.rf_jstmt.specs.StmtStops.{Over, may_go_on, EndsStmts}
use Rattle.rf_jstmt.specs.StmtTests.{are_statement_exprs}
use Rattle.rf_jstmt.proofs.ExactVars.{AreExact}
use Rattle.rf_jstmt.proofs.Over.{over_calm, ends_calm, brace_ends}
use Rattle.rf_jstmt.proofs.SoundParts.{GoodStmt, GoodPart, GoodStmts, GoodBlock, GoodExprs, GoodOption}
use Rattle.rf_jstmt.proofs.StmtFirst.{begins_with_expr, stmt_calm, stmt_some}
use Rattle.rf_jstmt.proofs.TestLemmas.{Are-are_statement_exprs}

-- the readers of statements of a room read each one that fits where it stands, and none where statements end
pub record AreExactStmts (room : ℕ) (s : StmtParsers) : Type 0 where
  pub stmt : (stmt : StmtTree) (rest : List Tok) → GoodPart room stmt → Over stmt rest → s.stmt (stmt_yield stmt ++ rest) ≡ Some (stmt, rest)
  pub block_stmt : (stmt : StmtTree) (rest : List Tok) → GoodStmt room stmt → Over stmt rest → s.block_stmt (stmt_yield stmt ++ rest) ≡ Some (stmt, rest)
  pub ends : (rest : List Tok) → EndsStmts rest → s.block_stmt rest ≡ None

-- ---- statements in braces

stmts_list : StmtsTree → List StmtTree
stmts_list NoStmts = []
stmts_list (Stmts stmt rest) = stmt ∷ stmts_list rest

stmts-same : (stmts : StmtsTree) → stmts_tree (stmts_list stmts) ≡ stmts
unfolding stmts_list
stmts-same NoStmts = refl
stmts-same (Stmts stmt rest) = ap (λ others. Stmts stmt others) (stmts-same rest)

stmts_yield-list : (stmts : StmtsTree) → stmts_yield stmts ≡ flat_map stmt_yield (stmts_list stmts)
unfolding stmts_list
stmts_yield-list NoStmts = refl
stmts_yield-list (Stmts stmt rest) = ap (λ others. stmt_yield stmt ++ others) (stmts_yield-list rest)

stmts_each : (room : ℕ) (stmts : StmtsTree) → StmtsFit stmts → stmts_depth stmts ≤ room → EachFits (GoodStmt room) (stmts_list stmts)
unfolding stmts_list
stmts_each room NoStmts fit shallow = tt
stmts_each room (Stmts stmt rest) fit shallow = (record { fits = fit.0; shallow = omega arith }, stmts_each room rest fit.1 (omega arith))

module _ (m : ℕ) (s : StmtParsers) (exact : AreExactStmts m s) where
  pub stmts-exact : IsExact (GoodStmts m) EndsStmts stmts_yield (stmts s)
  unfolding stmts
  stmts-exact list rest good ends =
      reads-same (stmts s) (ap (λ front. front ++ rest) (stmts_yield-list list))
      (bind-Some _ _ _ _ (many-exact (GoodStmt m) (λ others. begins may_go_on others ≡ false) stmt_yield s.block_stmt (λ stmt others fits calm. exact.block_stmt stmt others fits (over_calm stmt others calm))
      (λ stmt others fits. stmt_calm stmt others fits.fits) (λ stmt fits. stmt_some stmt) (stmts_list list) rest (stmts_each m list good.fits good.shallow) (ends_calm rest ends, exact.ends rest ends))
      (ap (λ x. Some (x, rest)) (stmts-same list)))

  pub block-exact : IsExact (GoodBlock m) Anything block_yield (block s)
  unfolding block
  block-exact (Braces left list right) rest good stop =
      rw append_assoc
      (bind-Some _ _ _ _ (token-at (is_op LEFT_BRACE) left _ (IsOp-is_op LEFT_BRACE left good.fits.0.0))
      (bind-Some _ _ _ _ (stmts-exact list (right ∷ rest) (record { fits = good.fits.1; shallow = good.shallow }) (brace_ends right rest good.fits.0.1))
      (bind-Some _ _ _ _ (token-at (is_op RIGHT_BRACE) right rest (IsOp-is_op RIGHT_BRACE right good.fits.0.1)) refl)))

-- ---- lists of expressions

more_list : MoreExprsTree → List (Tok × ExprTree)
more_list NoMoreExprs = []
more_list (MoreExprs comma expr rest) = (comma, expr) ∷ more_list rest

more-same : (more : MoreExprsTree) → more_exprs_tree (more_list more) ≡ more
unfolding more_list
more-same NoMoreExprs = refl
more-same (MoreExprs comma expr rest) = ap (λ others. MoreExprs comma expr others) (more-same rest)

more_each : (room : ℕ) (more : MoreExprsTree) → MoreExprsFit more → more_exprs_depth more ≤ room → EachFits (λ (part : Tok × ExprTree). IsOp COMMA part.0 × Good ASSIGNMENT_LEVEL room part.1) (more_list more)
unfolding more_list
more_each room NoMoreExprs fit shallow = tt
more_each room (MoreExprs comma expr rest) fit shallow = ((fit.0, record { fits = fit.1; binds = omega arith; shallow = omega arith }), more_each room rest fit.2 (omega arith))

-- what ends a part that may be left out
pub record EndsExpr (tok : Tok) (rest : List Tok) : Type 0 where
  pub stop : Stops ASSIGNMENT_LEVEL (tok ∷ rest)
  pub no_expr : begins_expr tok ≡ false
  pub no_comma : is_op COMMA tok ≡ false

pub semi_ends_expr : (tok : Tok) (rest : List Tok) → IsOp SEMICOLON tok → EndsExpr tok rest
unfolding begins_expr is_op
semi_ends_expr tok rest h = record { stop = stops_semicolon tok rest h; no_expr = rw h refl; no_comma = rw h refl }

pub paren_ends_expr : (tok : Tok) (rest : List Tok) → IsOp RIGHT_PAREN tok → EndsExpr tok rest
unfolding begins_expr is_op
paren_ends_expr tok rest h = record { stop = stops_paren tok rest h; no_expr = rw h refl; no_comma = rw h refl }

module _ (m : ℕ) (p : Parsers) (exact : AreExact m p) where
  -- an expression that fits
  pub expr-exact : (expr : ExprTree) (rest : List Tok) → ExprFits expr → expr_depth expr ≤ m → Stops ASSIGNMENT_LEVEL rest → p.expr (expr_yield expr ++ rest) ≡ Some (expr, rest)
  expr-exact expr rest fit shallow stop = exact.expr expr rest (record { fits = fit; binds = omega arith; shallow = shallow }) stop

  -- a keyword with one in parentheses
  pub head-exact : (key : Kw) (word left : Tok) (expression : ExprTree) (right : Tok) (rest : List Tok) → IsHead key word left right → ExprFits expression → expr_depth expression ≤ m
      → head p key (word ∷ left ∷ (expr_yield expression ++ right ∷ rest)) ≡ Some (record { word = word; left = left; expression = expression; right = right }, rest)
  unfolding head
  head-exact key word left expression right rest is fit shallow =
      bind-Some _ _ _ _ (token-at (is_key key) word _ (IsKey-is_key key word is.word_is))
      (bind-Some _ _ _ _ (token-at (is_op LEFT_PAREN) left _ (IsOp-is_op LEFT_PAREN left is.parens.0))
      (bind-Some _ _ _ _ (expr-exact expression (right ∷ rest) fit shallow (stops_paren right rest is.parens.1))
      (bind-Some _ _ _ _ (token-at (is_op RIGHT_PAREN) right rest (IsOp-is_op RIGHT_PAREN right is.parens.1)) refl)))

  pub optional_expr-exact : (found : Option ExprTree) (tok : Tok) (rest : List Tok) → GoodOption m found → EndsExpr tok rest → optional_expr p (option_yield expr_yield found ++ tok ∷ rest) ≡ Some (found, tok ∷ rest)
  unfolding optional_expr begins
  optional_expr-exact None tok rest good ends = if-false _ _ _ ends.no_expr
  optional_expr-exact (Some expression) tok rest good ends = if-true _ _ _ (begins_with_expr expression (tok ∷ rest) good.fits) ∙ bind-Some _ _ _ _ (expr-exact expression (tok ∷ rest) good.fits good.shallow ends.stop) refl

  some_exprs-exact : (first : ExprTree) (more : MoreExprsTree) (tok : Tok) (rest : List Tok) → GoodExprs m (Exprs first more) → EndsExpr tok rest → some_exprs p (exprs_yield (Exprs first more) ++ tok ∷ rest) ≡ Some (Exprs first more, tok ∷ rest)
  unfolding some_exprs exprs_of behind begins
  some_exprs-exact first more tok rest good ends =
      let list : ManyTree ExprTree = record { first = first; rest = more_list more } in
      let tree : exprs_of (Some list) ≡ Exprs first more = ap (λ others. Exprs first others) (more-same more) in
      let tokens : exprs_yield (Exprs first more) ++ tok ∷ rest ≡ many_yield expr_yield list ++ tok ∷ rest = ap (λ front. front ++ tok ∷ rest) (ap exprs_yield (sym tree) ∙ sym (exprs_yield-of (Some list))) in
      let here : Good ASSIGNMENT_LEVEL m first = record { fits = good.fits.0; binds = omega arith; shallow = first_shallow } in
      let no_more : behind (is_op COMMA) p.expr (tok ∷ rest) ≡ None = bind-None _ _ (token-other (is_op COMMA) (tok ∷ rest) ends.no_comma) in
      let are : IsTrue (are_statement_exprs (exprs_of (Some list))) = subst (λ exprs. IsTrue (are_statement_exprs exprs)) (sym tree) (Are-are_statement_exprs (Exprs first more) good.statements) in
      reads-same (some_exprs p) tokens
      (bind-Some _ _ _ _ (separated-exact (Good ASSIGNMENT_LEVEL m) (Stops ASSIGNMENT_LEVEL) expr_yield COMMA p.expr exact.expr stops_comma list (tok ∷ rest) (here, more_each m more good.fits.1 more_shallow) (ends.stop, no_more))
      (when-true (are_statement_exprs (exprs_of (Some list))) _ are ∙ ap (λ exprs. Some (exprs, tok ∷ rest)) tree))
    where
      whole : exprs_depth (Exprs first more) ≤ m
      whole = good.shallow

      first_shallow : expr_depth first ≤ m
      first_shallow = omega (arith, whole)

      more_shallow : more_exprs_depth more ≤ m
      more_shallow = omega (arith, whole)

  pub statement_exprs-exact : (exprs : ExprsTree) (tok : Tok) (rest : List Tok) → GoodExprs m exprs → EndsExpr tok rest → statement_exprs p (exprs_yield exprs ++ tok ∷ rest) ≡ Some (exprs, tok ∷ rest)
  unfolding statement_exprs begins
  statement_exprs-exact NoExprs tok rest good ends = if-false _ _ _ ends.no_expr
  statement_exprs-exact (Exprs first more) tok rest good ends =
      if-true _ _ _ (subst (λ toks. IsTrue (begins begins_expr toks)) (sym (append_assoc (expr_yield first) _ (tok ∷ rest))) (begins_with_expr first _ good.fits.0)) ∙ some_exprs-exact first more tok rest good ends
