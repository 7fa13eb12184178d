-- Tests of expressions that stand as statements, and words that end a part of the code early.
use Rattle.std.proofs.Common.{◌≡◌, List, [], ◌∷◌, Option, Some, None, Bool, true, false, IsTrue, ◌↔◌, map, refl, ap, ◌∙◌}
use Rattle.std.specs.Option.{is_some}
use Rattle.rf_jtree.specs.declared.exprs.Expr.{Expr}
use Rattle.rf_jtree.specs.declared.names.Many.{Many}
use Rattle.rf_jtree.specs.declared.tokens.Tok.{Tok}
use Rattle.rf_jtree.specs.declared.operator_names.TheConstants.{COMMA}
use Rattle.rf_jtree.specs.declared.keyword_names.TheConstants.{BREAK, CONTINUE}
use Rattle.rf_jtree.specs.ExprTrees.{ExprTree, ExprsTree, Exprs, MoreExprs}
use Rattle.rf_jtree.specs.StmtFits.{IsStatementExpr, AreStatementExprs}
use Rattle.rf_jtree.specs.ExprShown.{expr_shown, exprs_shown, more_exprs_tree, more_exprs_shown}
use Rattle.rf_jtree.specs.NameTrees.{ManyTree}
use Rattle.rf_jmake.specs.ExprMade.{exprs_found, item_shown}
use Rattle.rf_jmake.specs.ExprMade.{exprs_of}
use Rattle.rf_jexpr.specs.PartReads.{Parsers}
use Rattle.rf_jexpr.specs.Reads.{and_then, is_key, begins, token, when, optional, separated}
use Rattle.rf_jexpr.proofs.Tools.{read, left_out, of_optional, when-true, when-false}
use Rattle.rf_jstmt.specs.StmtParts.{some_exprs}
use Rattle.rf_jexpr.proofs.CursorLemmas.{same_tests}
use Rattle.rf_jstmt.specs.StmtReads.{jumps}
use Rattle.rf_jstmt.specs.StmtTests.{is_statement_expr, are_statement_exprs}
use Rattle.rf_jstmt.proofs.TestLemmas.{is_statement_expr-Is, Is-is_statement_expr, are_statement_exprs-Are, Are-are_statement_exprs}

pub statement-exact : (found : Bool) (tree : ExprTree) → (IsTrue found ↔ IsStatementExpr tree) → found ≡ is_statement_expr tree
statement-exact found tree h = same_tests found (is_statement_expr tree) (λ r. Is-is_statement_expr tree (h.0 r)) (λ r. h.1 (is_statement_expr-Is tree r))

pub statements-exact : (found : Bool) (tree : ExprsTree) → (IsTrue found ↔ AreStatementExprs tree) → found ≡ are_statement_exprs tree
statements-exact found tree h = same_tests found (are_statement_exprs tree) (λ r. Are-are_statement_exprs tree (h.0 r)) (λ r. h.1 (are_statement_exprs-Are tree r))

-- ---- `break` and `continue`

pub jump-break : (toks : List Tok) → begins (is_key BREAK) toks ≡ true → token jumps toks ≡ token (is_key BREAK) toks
unfolding begins token jumps
jump-break [] h = refl
jump-break (tok ∷ toks) h = rw h refl

pub jump-continue : (toks : List Tok) → begins (is_key BREAK) toks ≡ false → token jumps toks ≡ token (is_key CONTINUE) toks
unfolding begins token jumps
jump-continue [] h = refl
jump-continue (tok ∷ toks) h = rw h refl

-- ---- expressions in a row

more-shown : (rest : List (Tok × Expr)) → more_exprs_tree (map item_shown rest) ≡ more_exprs_shown rest
more-shown [] = refl
more-shown (item ∷ rest) = ap (MoreExprs item.0 (expr_shown item.1)) (more-shown rest)

pub list-shown : (list : Option (Many Expr)) → exprs_of (exprs_found list) ≡ exprs_shown list
unfolding exprs_of
list-shown None = refl
list-shown (Some list) = ap (Exprs (expr_shown list.first.value)) (more-shown list.rest)

some_of : (p : Parsers) (toks rest : List Tok) (found : Option (ManyTree ExprTree)) → optional (separated COMMA p.expr) toks ≡ Some (found, rest)
    → some_exprs p toks ≡ and_then found (λ list. when (are_statement_exprs (exprs_of (Some list))) (Some (exprs_of (Some list), rest)))
unfolding some_exprs and_then
some_of p toks rest None h = elim (of_optional (separated COMMA p.expr) toks (None, rest) h) [
  | read x found is ↦ absurd (cc (found))
  | left_out none same missing ↦ rw missing refl
]
some_of p toks rest (Some list) h = elim (of_optional (separated COMMA p.expr) toks (Some list, rest) h) [
  | read x found is ↦ let e : x ≡ list = cc in rw (is, e) refl
  | left_out none same missing ↦ absurd (cc (none))
]

-- none stands there
pub exprs-none : (p : Parsers) (toks rest : List Tok) (found : Option (Many Expr)) → is_some found ≡ false → optional (separated COMMA p.expr) toks ≡ Some (exprs_found found, rest) → some_exprs p toks ≡ None
unfolding and_then
exprs-none p toks rest None h answer = some_of p toks rest None answer
exprs-none p toks rest (Some list) h answer = absurd (cc (h))

-- one of them does not stand as a statement
pub exprs-refused : (p : Parsers) (toks rest : List Tok) (found : Option (Many Expr)) → are_statement_exprs (exprs_shown found) ≡ false → optional (separated COMMA p.expr) toks ≡ Some (exprs_found found, rest) → some_exprs p toks ≡ None
unfolding and_then
exprs-refused p toks rest None h answer = some_of p toks rest None answer
exprs-refused p toks rest (Some list) h answer = some_of p toks rest _ answer ∙ when-false _ _ (ap are_statement_exprs (list-shown (Some list)) ∙ h)

-- all of them do
pub exprs-stand : (p : Parsers) (toks rest : List Tok) (found : Option (Many Expr)) → is_some found ≡ true → are_statement_exprs (exprs_shown found) ≡ true → optional (separated COMMA p.expr) toks ≡ Some (exprs_found found, rest)
    → some_exprs p toks ≡ Some (exprs_shown found, rest)
unfolding and_then
exprs-stand p toks rest None there h answer = absurd (cc (there))
exprs-stand p toks rest (Some list) there h answer =
    some_of p toks rest _ answer ∙ when-true _ _ (ap are_statement_exprs (list-shown (Some list)) ∙ h) ∙ ap (λ (tree : ExprsTree). Some (tree, rest)) (list-shown (Some list))
