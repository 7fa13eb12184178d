-- `for`, `switch` and `try` are read where they stand.
use Rattle.std.proofs.Common.{◌≡◌, ℕ, ◌≤◌, List, [], ◌∷◌, ◌++◌, Option, Some, None, false, IsTrue, IfSome, length, refl, ap, ◌∙◌, sym, subst, arith, append_assoc}
use Rattle.std.specs.List.{flat_map}
use Rattle.rf_jtree.specs.declared.tokens.Tok.{Tok}
use Rattle.rf_jtree.specs.declared.operator_names.TheConstants.{LEFT_PAREN, RIGHT_PAREN, LEFT_BRACE, RIGHT_BRACE, SEMICOLON, COLON, DOT}
use Rattle.rf_jtree.specs.declared.keyword_names.TheConstants.{CASE, CATCH, DEFAULT, FINAL, FINALLY, FOR, SWITCH, TRY}
use Rattle.rf_jtree.specs.ExprFits.{ExprFits, ExprsFit}
use Rattle.rf_jtree.specs.ExprTrees.{ExprTree, ExprsTree, NoExprs, Exprs, expr_yield, exprs_yield, expr_depth, exprs_depth}
use Rattle.rf_jtree.specs.Kinds.{IsOp, IsKey, IsIdent}
use Rattle.rf_jtree.specs.NameFits.{EachFits, NameFits}
use Rattle.rf_jtree.specs.NameTrees.{NameTree, ModTree, TypeUseTree, tok_yield, name_yield, type_yield, mods_yield, option_yield, option_depth}
use Rattle.rf_jtree.specs.StmtFits.{AreStatementExprs, IsFor, StmtFits, GroupsFit, CatchesFit, LastFits}
use Rattle.rf_jtree.specs.StmtShown.{groups_tree, catches_tree}
use Rattle.rf_jtree.specs.StmtTrees.{ForFirstTree, StmtTree, For, Each, Switch, Try, GroupTree, Group, GroupsTree, NoGroups, Groups, CatchTree, Catch, CatchesTree, NoCatches, Catches, LastTree, NoLast, Last, BlockTree}
use Rattle.rf_jtree.specs.StmtTrees.{local_yield, stmt_yield, block_yield, stmts_yield, group_yield, groups_yield, catch_yield, catches_yield, last_yield, stmt_depth, stmts_depth, group_depth, groups_depth, catches_depth, last_depth}
use Rattle.rf_jexpr.specs.PartReads.{Parsers}
use Rattle.rf_jexpr.specs.Reads.{is_op, is_key, is_ident, begins, token, optional, many}
use Rattle.rf_jexpr.proofs.CompleteNames.{Anything, name-exact}
use Rattle.rf_jexpr.proofs.LoopLemmas.{IsExact, many-exact}
use Rattle.rf_jexpr.proofs.StopLemmas.{stops_colon, stops_paren}
use Rattle.rf_jexpr.proofs.CompleteParts.{reads-same}
use Rattle.rf_jexpr.proofs.Tools.{bind-Some, bind-None, if-true, if-false, when-true, token-at, token-other, optional-Some, optional-None, IsOp-is_op, IsKey-is_key, IsIdent-is_ident}
use Rattle.rf_jstmt.specs.StmtParts.{StmtParsers}
use Rattle.rf_jstmt.specs.StmtReads.{basic_for, local_for, for_stmt, case_group, default_group, group, switch_stmt, catch_part, last_part, last, has_part, try_stmt, stmt}
use Rattle.rf_jstmt.specs.StmtStops.{last_goes_on, Over, EndsStmts}
use Rattle.rf_jstmt.specs.VarReads.{begins_local}
use Rattle.rf_jstmt.proofs.Dispatch.{op_no_local, expr_no_local, to_for, to_switch, to_try}
use Rattle.rf_jstmt.proofs.ExactForms.{IsReadWhere}
use Rattle.rf_jmods.proofs.ExactMods.{variable_mods-exact, type_no_mod}
use Rattle.rf_jstmt.proofs.ExactParts.{AreExactStmts, stmts-exact, block-exact, expr-exact, head-exact, semi_ends_expr, paren_ends_expr, optional_expr-exact, statement_exprs-exact}
use Rattle.rf_jstmt.proofs.ExactVars.{AreExact, type-exact, declaration_begins, is_label, vars_no_label, local_vars-exact}
use Rattle.rf_jstmt.proofs.WholeForms.{whole_basic, whole_each, whole_catch, basic_for-whole, each_for-whole, catch_part-whole}
use Rattle.rf_jstmt.proofs.Over.{begins_neither, brace_ends, case_ends, default_ends}
use Rattle.rf_jstmt.proofs.SoundLists.{GoodGroup, GoodCatch}
use Rattle.rf_jstmt.proofs.StmtFirst.{local_tokens}
use Rattle.rf_jstmt.proofs.TestLemmas.{Has-has_part}

-- ---- the tokens, one part behind another

for_tokens : (word left : Tok) (first : List Tok) (semi1 : Tok) (test : List Tok) (semi2 : Tok) (last : List Tok) (right : Tok) (body rest : List Tok)
    → (word ∷ left ∷ (first ++ semi1 ∷ (test ++ semi2 ∷ (last ++ right ∷ body)))) ++ rest ≡ word ∷ left ∷ (first ++ semi1 ∷ (test ++ semi2 ∷ (last ++ right ∷ (body ++ rest))))
for_tokens word left first semi1 test semi2 last right body rest = rw (append_assoc, append_assoc, append_assoc) refl

each_tokens : (word left : Tok) (mods used_type : List Tok) (id colon : Tok) (over : List Tok) (right : Tok) (body rest : List Tok)
    → (word ∷ left ∷ (mods ++ (used_type ++ id ∷ colon ∷ (over ++ right ∷ body)))) ++ rest ≡ word ∷ left ∷ (mods ++ (used_type ++ id ∷ colon ∷ (over ++ right ∷ (body ++ rest))))
each_tokens word left mods used_type id colon over right body rest = rw (append_assoc, append_assoc, append_assoc) refl

switch_tokens : (word left : Tok) (on : List Tok) (right brace : Tok) (groups : List Tok) (end : Tok) (rest : List Tok)
    → (word ∷ left ∷ (on ++ right ∷ brace ∷ (groups ++ end ∷ []))) ++ rest ≡ word ∷ left ∷ (on ++ right ∷ brace ∷ (groups ++ end ∷ rest))
switch_tokens word left on right brace groups end rest = rw (append_assoc, append_assoc) refl

group_tokens : (word : Tok) (label : List Tok) (colon : Tok) (body rest : List Tok) → (word ∷ (label ++ colon ∷ body)) ++ rest ≡ word ∷ (label ++ colon ∷ (body ++ rest))
group_tokens word label colon body rest = rw append_assoc refl

catch_tokens : (word left : Tok) (fixed used_type : List Tok) (id right : Tok) (body rest : List Tok) → (word ∷ left ∷ (fixed ++ (used_type ++ id ∷ right ∷ body))) ++ rest ≡ word ∷ left ∷ (fixed ++ (used_type ++ id ∷ right ∷ (body ++ rest)))
catch_tokens word left fixed used_type id right body rest = rw (append_assoc, append_assoc) refl

try_tokens : (word : Tok) (body catches last rest : List Tok) → (word ∷ (body ++ (catches ++ last))) ++ rest ≡ word ∷ (body ++ (catches ++ (last ++ rest)))
try_tokens word body catches last rest = rw (append_assoc, append_assoc) refl

-- ---- the lists

groups_list : GroupsTree → List GroupTree
groups_list NoGroups = []
groups_list (Groups group rest) = group ∷ groups_list rest

groups-same : (groups : GroupsTree) → groups_tree (groups_list groups) ≡ groups
unfolding groups_list
groups-same NoGroups = refl
groups-same (Groups group rest) = ap (λ others. Groups group others) (groups-same rest)

groups_yield-list : (groups : GroupsTree) → groups_yield groups ≡ flat_map group_yield (groups_list groups)
unfolding groups_list
groups_yield-list NoGroups = refl
groups_yield-list (Groups group rest) = ap (λ others. group_yield group ++ others) (groups_yield-list rest)

groups_each : (room : ℕ) (groups : GroupsTree) → GroupsFit groups → groups_depth groups ≤ room → EachFits (GoodGroup room) (groups_list groups)
unfolding groups_list
groups_each room NoGroups fit shallow = tt
groups_each room (Groups group rest) fit shallow = (record { fits = fit.0; shallow = omega arith }, groups_each room rest fit.1 (omega arith))

catches_list : CatchesTree → List CatchTree
catches_list NoCatches = []
catches_list (Catches first rest) = first ∷ catches_list rest

catches-same : (catches : CatchesTree) → catches_tree (catches_list catches) ≡ catches
unfolding catches_list
catches-same NoCatches = refl
catches-same (Catches first rest) = ap (λ others. Catches first others) (catches-same rest)

catches_yield-list : (catches : CatchesTree) → catches_yield catches ≡ flat_map catch_yield (catches_list catches)
unfolding catches_list
catches_yield-list NoCatches = refl
catches_yield-list (Catches first rest) = ap (λ others. catch_yield first ++ others) (catches_yield-list rest)

catches_each : (room : ℕ) (catches : CatchesTree) → CatchesFit catches → catches_depth catches ≤ room → EachFits (GoodCatch room) (catches_list catches)
unfolding catches_list
catches_each room NoCatches fit shallow = tt
catches_each room (Catches first rest) fit shallow = (record { fits = fit.0; shallow = omega arith }, catches_each room rest fit.1 (omega arith))

-- ---- what stands where parts end

semi_no_colon : (tok : Tok) (rest : List Tok) → IsOp SEMICOLON tok → begins (is_op COLON) (tok ∷ rest) ≡ false
unfolding begins is_op
semi_no_colon tok rest h = rw h refl

default_no_case : (tok : Tok) → IsKey DEFAULT tok → is_key CASE tok ≡ false
unfolding is_key
default_no_case tok h = rw h refl

brace_no_group : (tok : Tok) → IsOp RIGHT_BRACE tok → (is_key CASE tok ≡ false) × (is_key DEFAULT tok ≡ false)
unfolding is_key
brace_no_group tok h = (rw h refl, rw h refl)

ident_no_final : (tok : Tok) (rest : List Tok) → IsIdent tok → begins (is_key FINAL) (tok ∷ rest) ≡ false
unfolding begins is_key
ident_no_final tok rest h = rw h refl

ident_no_dot : (tok : Tok) (rest : List Tok) → IsIdent tok → begins (is_op DOT) (tok ∷ rest) ≡ false
unfolding begins is_op
ident_no_dot tok rest h = rw h refl

finally_no_catch : (tok : Tok) (rest : List Tok) → IsKey FINALLY tok → begins (is_key CATCH) (tok ∷ rest) ≡ false
unfolding begins is_key
finally_no_catch tok rest h = rw h refl

-- ---- one room from the room below it

module _ (m : ℕ) (p : Parsers) (s : StmtParsers) (exprs : AreExact m p) (stmts : AreExactStmts m s) where
  -- ---- `for`

  record AreShallow (test : Option ExprTree) (last : ExprsTree) (body : StmtTree) : Type 0 where
    of_test : option_depth expr_depth test ≤ m
    of_last : exprs_depth last ≤ m
    of_body : stmt_depth body ≤ m

  basic_for-exact : (word left : Tok) (first : ForFirstTree) (semi1 : Tok) (test : Option ExprTree) (semi2 : Tok) (end : ExprsTree) (right : Tok) (body : StmtTree) (rest : List Tok)
      → IsFor word left semi1 semi2 end right body → IfSome test ExprFits → ExprsFit end → StmtFits body → AreShallow test end body → Over body rest
      → basic_for p s word left first (semi1 ∷ (option_yield expr_yield test ++ semi2 ∷ (exprs_yield end ++ right ∷ (stmt_yield body ++ rest)))) ≡ Some (For word left first semi1 test semi2 end right body, rest)
  unfolding whole_basic
  basic_for-exact word left first semi1 test semi2 end right body rest is test_fits end_fits body_fits shallow over =
      basic_for-whole p s word left first _
      ∙ bind-Some _ _ _ _ (token-at (is_op SEMICOLON) semi1 _ (IsOp-is_op SEMICOLON semi1 is.semi1_is))
      (bind-Some _ _ _ _ (optional_expr-exact m p exprs test semi2 _ (record { fits = test_fits; shallow = shallow.of_test }) (semi_ends_expr semi2 _ is.semi2_is))
      (bind-Some _ _ _ _ (token-at (is_op SEMICOLON) semi2 _ (IsOp-is_op SEMICOLON semi2 is.semi2_is))
      (bind-Some _ _ _ _ (statement_exprs-exact m p exprs end right _ (record { fits = end_fits; statements = is.last_statements; shallow = shallow.of_last }) (paren_ends_expr right _ is.head.parens.1))
      (bind-Some _ _ _ _ (token-at (is_op RIGHT_PAREN) right _ (IsOp-is_op RIGHT_PAREN right is.head.parens.1))
      (bind-Some _ _ _ _ (stmts.stmt body rest (record { fits = body_fits; no_local = is.no_local; shallow = shallow.of_body }) over) refl)))))

  exprs_no_local : (list : ExprsTree) (semi : Tok) (rest : List Tok) → AreStatementExprs list → ExprsFit list → IsOp SEMICOLON semi → begins_local (exprs_yield list ++ semi ∷ rest) ≡ false
  exprs_no_local NoExprs semi rest are fit is = op_no_local SEMICOLON refl semi rest is
  exprs_no_local (Exprs first more) semi rest are fit is = subst (λ toks. begins_local toks ≡ false) (sym (append_assoc (expr_yield first) _ (semi ∷ rest))) (expr_no_local first _ fit.0 are.0)

  pub for_stmt-exact : (word left : Tok) (first : ForFirstTree) (semi1 : Tok) (test : Option ExprTree) (semi2 : Tok) (end : ExprsTree) (right : Tok) (body : StmtTree) → IsReadWhere m p s exprs stmts (For word left first semi1 test semi2 end right body)
  unfolding for_stmt local_for
  for_stmt-exact word left (ForFirstTree.Exprs list) semi1 test semi2 end right body rest fit shallow over =
      reads-same (stmt p s) (for_tokens word left (exprs_yield list) semi1 (option_yield expr_yield test) semi2 (exprs_yield end) right (stmt_yield body) rest)
      (to_for p s word _ fit.0.head.word_is
      ∙ bind-Some _ _ _ _ (token-at (is_key FOR) word _ (IsKey-is_key FOR word fit.0.head.word_is))
      (bind-Some _ _ _ _ (token-at (is_op LEFT_PAREN) left _ (IsOp-is_op LEFT_PAREN left fit.0.head.parens.0))
      (if-false _ _ _ (exprs_no_local list semi1 _ fit.1.0 fit.1.1 fit.0.semi1_is)
      ∙ bind-Some _ _ _ _ (statement_exprs-exact m p exprs list semi1 _ (record { fits = fit.1.1; statements = fit.1.0; shallow = omega arith }) (semi_ends_expr semi1 _ fit.0.semi1_is))
      (basic_for-exact word left (ForFirstTree.Exprs list) semi1 test semi2 end right body rest fit.0 fit.2 fit.3 fit.4
      (record { of_test = omega arith; of_last = omega arith; of_body = omega arith }) over))))
  for_stmt-exact word left (ForFirstTree.Local local) semi1 test semi2 end right body rest fit shallow over =
      reads-same (stmt p s) (for_tokens word left (local_yield local) semi1 (option_yield expr_yield test) semi2 (exprs_yield end) right (stmt_yield body) rest ∙ ap (λ others. word ∷ left ∷ others) (local_tokens local _))
      (to_for p s word _ fit.0.head.word_is
      ∙ bind-Some _ _ _ _ (token-at (is_key FOR) word _ (IsKey-is_key FOR word fit.0.head.word_is))
      (bind-Some _ _ _ _ (token-at (is_op LEFT_PAREN) left _ (IsOp-is_op LEFT_PAREN left fit.0.head.parens.0))
      (if-true _ _ _ (declaration_begins local.mods local.used_type local.vars.first.id _ fit.1.mods_fit fit.1.used_type_fits fit.1.vars_fit.0.id_is)
      ∙ bind-Some _ _ _ _ (variable_mods-exact local.mods _ fit.1.mods_fit (type_no_mod local.used_type _ fit.1.used_type_fits))
      (bind-Some _ _ _ _ (type-exact local.used_type local.vars.first.id _ fit.1.used_type_fits fit.1.vars_fit.0.id_is)
      (if-false _ _ _ (vars_no_label local.vars (semi1 ∷ _) fit.1.vars_fit (semi_no_colon semi1 _ fit.0.semi1_is))
      ∙ bind-Some _ _ _ _ (local_vars-exact m p exprs local semi1 _ (record { fits = fit.1; shallow = omega arith }) fit.0.semi1_is)
      (basic_for-exact word left (ForFirstTree.Local local) semi1 test semi2 end right body rest fit.0 fit.2 fit.3 fit.4
      (record { of_test = omega arith; of_last = omega arith; of_body = omega arith }) over))))))

  pub each_for-exact : (word left : Tok) (mods : List ModTree) (used_type : TypeUseTree) (id colon : Tok) (over_expr : ExprTree) (right : Tok) (body : StmtTree) → IsReadWhere m p s exprs stmts (Each word left mods used_type id colon over_expr right body)
  unfolding for_stmt local_for whole_each
  each_for-exact word left mods used_type id colon over_expr right body rest fit shallow over =
      reads-same (stmt p s) (each_tokens word left (mods_yield mods) (type_yield used_type) id colon (expr_yield over_expr) right (stmt_yield body) rest)
      (to_for p s word _ fit.0.head.word_is
      ∙ bind-Some _ _ _ _ (token-at (is_key FOR) word _ (IsKey-is_key FOR word fit.0.head.word_is))
      (bind-Some _ _ _ _ (token-at (is_op LEFT_PAREN) left _ (IsOp-is_op LEFT_PAREN left fit.0.head.parens.0))
      (if-true _ _ _ (declaration_begins mods used_type id _ fit.0.mods_fit fit.1 fit.0.id_is)
      ∙ bind-Some _ _ _ _ (variable_mods-exact mods _ fit.0.mods_fit (type_no_mod used_type _ fit.1))
      (bind-Some _ _ _ _ (type-exact used_type id _ fit.1 fit.0.id_is)
      (if-true _ _ _ (is_label id colon _ fit.0.id_is fit.0.colon_is)
      ∙ each_for-whole p s word left mods used_type _
      ∙ bind-Some _ _ _ _ (token-at is_ident id _ (IsIdent-is_ident id fit.0.id_is))
      (bind-Some _ _ _ _ (token-at (is_op COLON) colon _ (IsOp-is_op COLON colon fit.0.colon_is))
      (bind-Some _ _ _ _ (expr-exact m p exprs over_expr (right ∷ _) fit.2 (omega arith) (stops_paren right _ fit.0.head.parens.1))
      (bind-Some _ _ _ _ (token-at (is_op RIGHT_PAREN) right _ (IsOp-is_op RIGHT_PAREN right fit.0.head.parens.1))
      (bind-Some _ _ _ _ (stmts.stmt body rest (record { fits = fit.3; no_local = fit.0.no_local; shallow = omega arith }) over) refl)))))))))

  -- ---- `switch`

  group-exact : IsExact (GoodGroup m) EndsStmts group_yield (group p s)
  unfolding group case_group default_group begins
  group-exact (Group word None colon body) rest good ends =
      if-false _ _ _ (default_no_case word good.fits.0)
      ∙ bind-Some _ _ _ _ (token-at (is_key DEFAULT) word _ (IsKey-is_key DEFAULT word good.fits.0))
      (bind-Some _ _ _ _ (token-at (is_op COLON) colon _ (IsOp-is_op COLON colon good.fits.2))
      (bind-Some _ _ _ _ (stmts-exact m s stmts body rest (record { fits = good.fits.3; shallow = good_body }) ends) refl))
    where
      whole : group_depth (Group word None colon body) ≤ m
      whole = good.shallow

      good_body : stmts_depth body ≤ m
      good_body = omega (arith, whole)
  group-exact (Group word (Some label) colon body) rest good ends =
      reads-same (group p s) (group_tokens word (expr_yield label) colon (stmts_yield body) rest)
      (if-true _ _ _ (IsKey-is_key CASE word good.fits.0)
      ∙ bind-Some _ _ _ _ (token-at (is_key CASE) word _ (IsKey-is_key CASE word good.fits.0))
      (bind-Some _ _ _ _ (expr-exact m p exprs label (colon ∷ _) good.fits.1 good_label (stops_colon colon _ good.fits.2))
      (bind-Some _ _ _ _ (token-at (is_op COLON) colon _ (IsOp-is_op COLON colon good.fits.2))
      (bind-Some _ _ _ _ (stmts-exact m s stmts body rest (record { fits = good.fits.3; shallow = good_body }) ends) refl))))
    where
      whole : group_depth (Group word (Some label) colon body) ≤ m
      whole = good.shallow

      good_label : expr_depth label ≤ m
      good_label = omega (arith, whole)

      good_body : stmts_depth body ≤ m
      good_body = omega (arith, whole)

  group_ends : (one : GroupTree) (rest : List Tok) → GoodGroup m one → EndsStmts (group_yield one ++ rest)
  group_ends (Group word None colon body) rest good = default_ends word _ good.fits.0
  group_ends (Group word (Some label) colon body) rest good = case_ends word _ good.fits.0

  group_some : (one : GroupTree) → GoodGroup m one → 1 ≤ length (group_yield one)
  group_some (Group word label colon body) good = omega arith

  no_group : (tok : Tok) (rest : List Tok) → IsOp RIGHT_BRACE tok → group p s (tok ∷ rest) ≡ None
  unfolding group default_group begins
  no_group tok rest is = let none = brace_no_group tok is in if-false _ _ _ none.0 ∙ bind-None _ _ (token-other (is_key DEFAULT) (tok ∷ rest) none.1)

  groups-exact : (groups : GroupsTree) (end : Tok) (rest : List Tok) → GroupsFit groups → groups_depth groups ≤ m → IsOp RIGHT_BRACE end → many (group p s) (groups_yield groups ++ end ∷ rest) ≡ Some (groups_list groups, end ∷ rest)
  groups-exact groups end rest fit shallow is =
      reads-same (many (group p s)) (ap (λ front. front ++ end ∷ rest) (groups_yield-list groups))
      (many-exact (GoodGroup m) EndsStmts group_yield (group p s) group-exact group_ends group_some (groups_list groups) (end ∷ rest) (groups_each m groups fit shallow) (brace_ends end rest is, no_group end rest is))

  pub switch_stmt-exact : (word left : Tok) (on : ExprTree) (right brace : Tok) (groups : GroupsTree) (end : Tok) → IsReadWhere m p s exprs stmts (Switch word left on right brace groups end)
  unfolding switch_stmt
  switch_stmt-exact word left on right brace groups end rest fit shallow over =
      reads-same (stmt p s) (switch_tokens word left (expr_yield on) right brace (groups_yield groups) end rest)
      (to_switch p s word _ fit.0.head.word_is
      ∙ bind-Some _ _ _ _ (head-exact m p exprs SWITCH word left on right _ fit.0.head fit.1 (omega arith))
      (bind-Some _ _ _ _ (token-at (is_op LEFT_BRACE) brace _ (IsOp-is_op LEFT_BRACE brace fit.0.braces.0))
      (bind-Some _ _ _ _ (groups-exact groups end rest fit.2 (omega arith) fit.0.braces.1)
      (bind-Some _ _ _ _ (token-at (is_op RIGHT_BRACE) end rest (IsOp-is_op RIGHT_BRACE end fit.0.braces.1))
      (ap (λ list. Some (Switch word left on right brace list end, rest)) (groups-same groups))))))

  -- ---- `try`

  fixed-exact : (fixed : Option Tok) (used_type : NameTree) (rest : List Tok) → IfSome fixed (IsKey FINAL) → NameFits used_type → optional (token (is_key FINAL)) (option_yield tok_yield fixed ++ (name_yield used_type ++ rest)) ≡ Some (fixed, name_yield used_type ++ rest)
  fixed-exact None used_type rest fit used_type_fits = optional-None _ _ (token-other (is_key FINAL) (name_yield used_type ++ rest) (ident_no_final used_type.ids.first _ used_type_fits.0))
  fixed-exact (Some tok) used_type rest fit used_type_fits = optional-Some _ _ _ _ (token-at (is_key FINAL) tok _ (IsKey-is_key FINAL tok fit))

  catch_part-exact : IsExact (GoodCatch m) Anything catch_yield (catch_part s)
  unfolding whole_catch
  catch_part-exact (Catch word left fixed used_type id right body) rest good stop =
      reads-same (catch_part s) (catch_tokens word left (option_yield tok_yield fixed) (name_yield used_type) id right (block_yield body) rest)
      (catch_part-whole s _
      ∙ bind-Some _ _ _ _ (token-at (is_key CATCH) word _ (IsKey-is_key CATCH word good.fits.0.head.word_is))
      (bind-Some _ _ _ _ (token-at (is_op LEFT_PAREN) left _ (IsOp-is_op LEFT_PAREN left good.fits.0.head.parens.0))
      (bind-Some _ _ _ _ (fixed-exact fixed used_type _ good.fits.0.fixed_is good.fits.1)
      (bind-Some _ _ _ _ (name-exact used_type (id ∷ _) good.fits.1 (ident_no_dot id _ good.fits.0.id_is))
      (bind-Some _ _ _ _ (token-at is_ident id _ (IsIdent-is_ident id good.fits.0.id_is))
      (bind-Some _ _ _ _ (token-at (is_op RIGHT_PAREN) right _ (IsOp-is_op RIGHT_PAREN right good.fits.0.head.parens.1))
      (bind-Some _ _ _ _ (block-exact m s stmts body rest (record { fits = good.fits.2; shallow = good.shallow }) tt) refl)))))))

  catch_some : (one : CatchTree) → GoodCatch m one → 1 ≤ length (catch_yield one)
  catch_some (Catch word left fixed used_type id right body) good = omega arith

  no_catch : (rest : List Tok) → begins (is_key CATCH) rest ≡ false → catch_part s rest ≡ None
  unfolding whole_catch
  no_catch rest none = catch_part-whole s rest ∙ bind-None _ _ (token-other (is_key CATCH) rest none)

  catches-exact : (catches : CatchesTree) (rest : List Tok) → CatchesFit catches → catches_depth catches ≤ m → begins (is_key CATCH) rest ≡ false → many (catch_part s) (catches_yield catches ++ rest) ≡ Some (catches_list catches, rest)
  catches-exact catches rest fit shallow none =
      reads-same (many (catch_part s)) (ap (λ front. front ++ rest) (catches_yield-list catches))
      (many-exact (GoodCatch m) Anything catch_yield (catch_part s) catch_part-exact (λ one others good. tt) catch_some (catches_list catches) rest (catches_each m catches fit shallow) (tt, no_catch rest none))

  last_no_catch : (end : LastTree) (rest : List Tok) → LastFits end → begins (last_goes_on end) rest ≡ false → begins (is_key CATCH) (last_yield end ++ rest) ≡ false
  unfolding last_goes_on
  last_no_catch NoLast rest fit over = (begins_neither (is_key CATCH) (is_key FINALLY) rest over).0
  last_no_catch (Last word body) rest fit over = finally_no_catch word _ fit.0

  last-exact : (end : LastTree) (rest : List Tok) → LastFits end → last_depth end ≤ m → begins (last_goes_on end) rest ≡ false → last s (last_yield end ++ rest) ≡ Some (end, rest)
  unfolding last last_part last_goes_on begins
  last-exact NoLast rest fit shallow over = if-false _ _ _ (begins_neither (is_key CATCH) (is_key FINALLY) rest over).1
  last-exact (Last word body) rest fit shallow over =
      if-true _ _ _ (IsKey-is_key FINALLY word fit.0)
      ∙ bind-Some _ _ _ _ (token-at (is_key FINALLY) word _ (IsKey-is_key FINALLY word fit.0)) (bind-Some _ _ _ _ (block-exact m s stmts body rest (record { fits = fit.1; shallow = shallow }) tt) refl)

  pub try_stmt-exact : (word : Tok) (body : BlockTree) (catches : CatchesTree) (end : LastTree) → IsReadWhere m p s exprs stmts (Try word body catches end)
  unfolding try_stmt
  try_stmt-exact word body catches end rest fit shallow over =
      let same = catches-same catches in
      let has : IsTrue (has_part (catches_tree (catches_list catches)) end) = subst (λ list. IsTrue (has_part list end)) (sym same) (Has-has_part catches end fit.0.has_part) in
      reads-same (stmt p s) (try_tokens word (block_yield body) (catches_yield catches) (last_yield end) rest)
      (to_try p s word _ fit.0.word_is
      ∙ bind-Some _ _ _ _ (token-at (is_key TRY) word _ (IsKey-is_key TRY word fit.0.word_is))
      (bind-Some _ _ _ _ (block-exact m s stmts body _ (record { fits = fit.1; shallow = omega arith }) tt)
      (bind-Some _ _ _ _ (catches-exact catches (last_yield end ++ rest) fit.2 (omega arith) (last_no_catch end rest fit.3 over))
      (bind-Some _ _ _ _ (last-exact end rest fit.3 (omega arith) over)
      (when-true (has_part (catches_tree (catches_list catches)) end) _ has ∙ ap (λ list. Some (Try word body list end, rest)) same)))))
