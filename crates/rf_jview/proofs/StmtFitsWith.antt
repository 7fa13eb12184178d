-- A statement that fits does so where it is rewritten.
use Rattle.std.proofs.Common.{◌≡◌, ℕ, suc, Option, Some, None, IsTrue, refl, subst}
use Rattle.rf_jtree.specs.declared.tokens.Tok.{Tok}
use Rattle.rf_jtree.specs.declared.operator_names.TheConstants.{COMMA}
use Rattle.rf_jtree.specs.ExprFits.{ExprFits}
use Rattle.rf_jtree.specs.ExprTrees.{ExprTree, Assign, Cond, Binary, Instance, Unary, Cast, Postfix, Lit, This, Paren, Name, Call, Field, Super, NoArgs, SuperArgs, New, Index, NewArray, NewInit, ExprsTree, NoExprs, Exprs, MoreExprsTree, NoMoreExprs, MoreExprs}
use Rattle.rf_jtree.specs.ExprTrees.{expr_yield, exprs_yield}
use Rattle.rf_jtree.specs.NameFits.{ManyFit}
use Rattle.rf_jtree.specs.NameTrees.{ManyTree, name_yield, type_yield, mods_yield, dims_yield, option_yield, tok_yield}
use Rattle.rf_jtree.specs.StmtFits.{BeginningFits, VarFits, LocalFits, IsNoLocal, IsStatementExpr, AreMoreStatementExprs, AreStatementExprs, FirstFits, ends_open, other_ends_open, IsNearestIf, HasCatchOrLast, IsGroupWord, MessageFits}
use Rattle.rf_jtree.specs.StmtFits.{StmtFits, BlockFits, StmtsFit, OtherFits, GroupFits, GroupsFit, CatchFits, CatchesFit, LastFits}
use Rattle.rf_jtree.specs.StmtTrees.{VarTree, LocalTree, ForFirstTree, StmtTree, Block, Empty, Label, Expression, If, While, Do, For, Each, Switch, Jump, Return, Throw, Sync, Assert, Try}
use Rattle.rf_jtree.specs.StmtTrees.{BlockTree, Braces, StmtsTree, NoStmts, Stmts, OtherTree, NoOther, Other, GroupTree, Group, GroupsTree, NoGroups, Groups, CatchTree, Catch, CatchesTree, NoCatches, Catches, LastTree, NoLast, Last}
use Rattle.rf_jtree.specs.StmtTrees.{var_yield, first_yield, stmt_yield, block_yield, group_yield, catch_yield, catches_yield}
use Rattle.rf_jview.specs.ExprWith.{expr_with, exprs_with, more_exprs_with, init_with}
use Rattle.rf_jview.specs.Rewritings.{Rewriting, WritesNames, behind, option_with, behind_with}
use Rattle.rf_jview.specs.StmtWith.{var_with, vars_with, local_with, first_with, stmt_with, block_with, stmts_with, other_with, group_with, groups_with, catch_with, catches_with, last_with}
use Rattle.rf_jview.proofs.ExprFitsWith.{many_fits-with, optional_fits-with, type_fits-with, expr_fits-with, exprs_fits-with, init_fits-with}

-- variables and local declarations
pub var_fits-with : (g : Rewriting) → WritesNames g → (n : ℕ) (var : VarTree) → VarFits var → VarFits (var_with g n var)
var_fits-with g w n var fit = record {
  id_is = fit.id_is;
  dims_fit = fit.dims_fit;
  beginning_fits = optional_fits-with BeginningFits (behind_with (init_with g)) (λ n part fit. (fit.0, init_fits-with g w (suc n) part.1 fit.1))
      (behind (suc n) (dims_yield var.dims)) var.init fit.beginning_fits;
}

pub vars_fits-with : (g : Rewriting) → WritesNames g → (n : ℕ) (vars : ManyTree VarTree) → ManyFit VarFits COMMA vars → ManyFit VarFits COMMA (vars_with g n vars)
vars_fits-with g w n vars fit = many_fits-with VarFits COMMA var_yield (var_with g) (var_fits-with g w) n vars fit

pub local_fits-with : (g : Rewriting) → WritesNames g → (n : ℕ) (local : LocalTree) → LocalFits local → LocalFits (local_with g n local)
local_fits-with g w n local fit = record {
  mods_fit = fit.mods_fit;
  used_type_fits = type_fits-with g w _ local.used_type fit.used_type_fits;
  vars_fit = vars_fits-with g w _ local.vars fit.vars_fit;
}

-- which form an expression or a statement has stays
statement-with : (g : Rewriting) (n : ℕ) (tree : ExprTree) → IsStatementExpr tree → IsStatementExpr (expr_with g n tree)
statement-with g n (Assign left op expression) h = h
statement-with g n (Cond test mark then colon other) h = h
statement-with g n (Binary left op right) h = h
statement-with g n (Instance expression word used_type) h = h
statement-with g n (Unary op expression) h = h
statement-with g n (Cast left used_type right expression) h = h
statement-with g n (Postfix expression op) h = h
statement-with g n (Lit tok) h = h
statement-with g n (This tok) h = h
statement-with g n (Paren left expression right) h = h
statement-with g n (Name name) h = h
statement-with g n (Call on id args) h = h
statement-with g n (Field expression dot id) h = h
statement-with g n (Super word dot id NoArgs) h = h
statement-with g n (Super word dot id (SuperArgs args)) h = h
statement-with g n (New word name args) h = h
statement-with g n (Index expression left index right) h = h
statement-with g n (NewArray word base sizes dims) h = h
statement-with g n (NewInit word base dims init) h = h

more_statements-with : (g : Rewriting) (n : ℕ) (tree : MoreExprsTree) → AreMoreStatementExprs tree → AreMoreStatementExprs (more_exprs_with g n tree)
more_statements-with g n NoMoreExprs h = tt
more_statements-with g n (MoreExprs comma expr rest) h = (statement-with g (suc n) expr h.0, more_statements-with g (behind (suc n) (expr_yield expr)) rest h.1)

statements-with : (g : Rewriting) (n : ℕ) (tree : ExprsTree) → AreStatementExprs tree → AreStatementExprs (exprs_with g n tree)
statements-with g n NoExprs h = tt
statements-with g n (Exprs first rest) h = (statement-with g n first h.0, more_statements-with g (behind n (expr_yield first)) rest h.1)

first_fits-with : (g : Rewriting) → WritesNames g → (n : ℕ) (first : ForFirstTree) → FirstFits first → FirstFits (first_with g n first)
first_fits-with g w n (ForFirstTree.Local local) fit = local_fits-with g w n local fit
first_fits-with g w n (ForFirstTree.Exprs exprs) fit = (statements-with g n exprs fit.0, exprs_fits-with g w n exprs fit.1)

no_local-with : (g : Rewriting) (n : ℕ) (tree : StmtTree) → IsNoLocal tree → IsNoLocal (stmt_with g n tree)
no_local-with g n (Block block) h = h
no_local-with g n (Empty semi) h = h
no_local-with g n (StmtTree.Local local semi) h = h
no_local-with g n (Label id colon body) h = h
no_local-with g n (Expression expression semi) h = h
no_local-with g n (If word left test right then other) h = h
no_local-with g n (While word left test right body) h = h
no_local-with g n (Do word body until left test right semi) h = h
no_local-with g n (For word left first semi1 test semi2 last right body) h = h
no_local-with g n (Each word left mods used_type id colon over right body) h = h
no_local-with g n (Switch word left on right brace groups end) h = h
no_local-with g n (Jump word label semi) h = h
no_local-with g n (Return word expression semi) h = h
no_local-with g n (Throw word expression semi) h = h
no_local-with g n (Sync word left on right body) h = h
no_local-with g n (Assert word test message semi) h = h
no_local-with g n (Try word body catches last) h = h

mutual
  ends_open-with : (g : Rewriting) (n : ℕ) (tree : StmtTree) → ends_open (stmt_with g n tree) ≡ ends_open tree
  ends_open-with g n (Block block) = refl
  ends_open-with g n (Empty semi) = refl
  ends_open-with g n (StmtTree.Local local semi) = refl
  ends_open-with g n (Label id colon body) = ends_open-with g (suc (suc n)) body
  ends_open-with g n (Expression expression semi) = refl
  ends_open-with g n (If word left test right then other) = other_ends_open-with g (behind (suc (behind (suc (suc n)) (expr_yield test))) (stmt_yield then)) other
  ends_open-with g n (While word left test right body) = ends_open-with g (suc (behind (suc (suc n)) (expr_yield test))) body
  ends_open-with g n (Do word body until left test right semi) = refl
  ends_open-with g n (For word left first semi1 test semi2 last right body) = ends_open-with g (suc (behind (suc (behind (suc (behind (suc (suc n)) (first_yield first))) (option_yield expr_yield test))) (exprs_yield last))) body
  ends_open-with g n (Each word left mods used_type id colon over right body) = ends_open-with g (suc (behind (suc (suc (behind (behind (suc (suc n)) (mods_yield mods)) (type_yield used_type)))) (expr_yield over))) body
  ends_open-with g n (Switch word left on right brace groups end) = refl
  ends_open-with g n (Jump word label semi) = refl
  ends_open-with g n (Return word expression semi) = refl
  ends_open-with g n (Throw word expression semi) = refl
  ends_open-with g n (Sync word left on right body) = refl
  ends_open-with g n (Assert word test message semi) = refl
  ends_open-with g n (Try word body catches last) = refl

  other_ends_open-with : (g : Rewriting) (n : ℕ) (tree : OtherTree) → other_ends_open (other_with g n tree) ≡ other_ends_open tree
  other_ends_open-with g n NoOther = refl
  other_ends_open-with g n (Other word stmt) = ends_open-with g (suc n) stmt

nearest-with : (g : Rewriting) (n : ℕ) (then : StmtTree) (next : ℕ) (other : OtherTree) → IsNearestIf then other → IsNearestIf (stmt_with g n then) (other_with g next other)
nearest-with g n then next NoOther nearest = tt
nearest-with g n then next (Other word stmt) nearest = λ still. nearest (subst IsTrue (ends_open-with g n then) still)

has_part-with : (g : Rewriting) (n : ℕ) (catches : CatchesTree) (next : ℕ) (last : LastTree) → HasCatchOrLast catches last
    → HasCatchOrLast (catches_with g n catches) (last_with g next last)
has_part-with g n NoCatches next NoLast has = has
has_part-with g n NoCatches next (Last word body) has = tt
has_part-with g n (Catches first rest) next last has = tt

group_word-with : (word : Tok) (n : ℕ) (g : Rewriting) (expression : Option ExprTree) → IsGroupWord word expression → IsGroupWord word (option_with (expr_with g) n expression)
group_word-with word n g None is = is
group_word-with word n g (Some expression) is = is

mutual
  pub stmt_fits-with : (g : Rewriting) → WritesNames g → (n : ℕ) (tree : StmtTree) → StmtFits tree → StmtFits (stmt_with g n tree)
  stmt_fits-with g w n (Block block) fit = block_fits-with g w n block fit
  stmt_fits-with g w n (Empty semi) fit = fit
  stmt_fits-with g w n (StmtTree.Local local semi) fit = (local_fits-with g w n local fit.0, fit.1)
  stmt_fits-with g w n (Label id colon body) fit = (record { id_is = fit.0.id_is; colon_is = fit.0.colon_is; no_local = no_local-with g (suc (suc n)) body fit.0.no_local }, stmt_fits-with g w (suc (suc n)) body fit.1)
  stmt_fits-with g w n (Expression expression semi) fit = (record { statement = statement-with g n expression fit.0.statement; semi_is = fit.0.semi_is }, expr_fits-with g w n expression fit.1)
  stmt_fits-with g w n (If word left test right then other) fit = (record { head = fit.0.head; nearest = nearest-with g (suc (behind (suc (suc n)) (expr_yield test))) then (behind (suc (behind (suc (suc n)) (expr_yield test))) (stmt_yield then)) other fit.0.nearest; no_local = no_local-with g (suc (behind (suc (suc n)) (expr_yield test))) then fit.0.no_local }, expr_fits-with g w (suc (suc n)) test fit.1, stmt_fits-with g w (suc (behind (suc (suc n)) (expr_yield test))) then fit.2, other_fits-with g w (behind (suc (behind (suc (suc n)) (expr_yield test))) (stmt_yield then)) other fit.3)
  stmt_fits-with g w n (While word left test right body) fit = (record { head = fit.0.head; no_local = no_local-with g (suc (behind (suc (suc n)) (expr_yield test))) body fit.0.no_local }, expr_fits-with g w (suc (suc n)) test fit.1, stmt_fits-with g w (suc (behind (suc (suc n)) (expr_yield test))) body fit.2)
  stmt_fits-with g w n (Do word body until left test right semi) fit = (record { word_is = fit.0.word_is; no_local = no_local-with g (suc n) body fit.0.no_local; until_is = fit.0.until_is; semi_is = fit.0.semi_is }, stmt_fits-with g w (suc n) body fit.1, expr_fits-with g w (suc (suc (behind (suc n) (stmt_yield body)))) test fit.2)
  stmt_fits-with g w n (For word left first semi1 test semi2 last right body) fit = (record { head = fit.0.head; semi1_is = fit.0.semi1_is; semi2_is = fit.0.semi2_is; last_statements = statements-with g (suc (behind (suc (behind (suc (suc n)) (first_yield first))) (option_yield expr_yield test))) last fit.0.last_statements; no_local = no_local-with g (suc (behind (suc (behind (suc (behind (suc (suc n)) (first_yield first))) (option_yield expr_yield test))) (exprs_yield last))) body fit.0.no_local }, first_fits-with g w (suc (suc n)) first fit.1, optional_fits-with ExprFits (expr_with g) (expr_fits-with g w) (suc (behind (suc (suc n)) (first_yield first))) test fit.2, exprs_fits-with g w (suc (behind (suc (behind (suc (suc n)) (first_yield first))) (option_yield expr_yield test))) last fit.3, stmt_fits-with g w (suc (behind (suc (behind (suc (behind (suc (suc n)) (first_yield first))) (option_yield expr_yield test))) (exprs_yield last))) body fit.4)
  stmt_fits-with g w n (Each word left mods used_type id colon over right body) fit = (record { head = fit.0.head; mods_fit = fit.0.mods_fit; id_is = fit.0.id_is; colon_is = fit.0.colon_is; no_local = no_local-with g (suc (behind (suc (suc (behind (behind (suc (suc n)) (mods_yield mods)) (type_yield used_type)))) (expr_yield over))) body fit.0.no_local }, type_fits-with g w (behind (suc (suc n)) (mods_yield mods)) used_type fit.1, expr_fits-with g w (suc (suc (behind (behind (suc (suc n)) (mods_yield mods)) (type_yield used_type)))) over fit.2, stmt_fits-with g w (suc (behind (suc (suc (behind (behind (suc (suc n)) (mods_yield mods)) (type_yield used_type)))) (expr_yield over))) body fit.3)
  stmt_fits-with g w n (Switch word left on right brace groups end) fit = (fit.0, expr_fits-with g w (suc (suc n)) on fit.1, groups_fits-with g w (suc (suc (behind (suc (suc n)) (expr_yield on)))) groups fit.2)
  stmt_fits-with g w n (Jump word label semi) fit = fit
  stmt_fits-with g w n (Return word expression semi) fit = (fit.0, optional_fits-with ExprFits (expr_with g) (expr_fits-with g w) (suc n) expression fit.1)
  stmt_fits-with g w n (Throw word expression semi) fit = (fit.0, expr_fits-with g w (suc n) expression fit.1)
  stmt_fits-with g w n (Sync word left on right body) fit = (fit.0, expr_fits-with g w (suc (suc n)) on fit.1, block_fits-with g w (suc (behind (suc (suc n)) (expr_yield on))) body fit.2)
  stmt_fits-with g w n (Assert word test message semi) fit = (fit.0, expr_fits-with g w (suc n) test fit.1, optional_fits-with MessageFits (behind_with (expr_with g)) (λ n part fit. (fit.0, expr_fits-with g w (suc n) part.1 fit.1)) (behind (suc n) (expr_yield test)) message fit.2)
  stmt_fits-with g w n (Try word body catches last) fit = (record { word_is = fit.0.word_is; has_part = has_part-with g (behind (suc n) (block_yield body)) catches (behind (behind (suc n) (block_yield body)) (catches_yield catches)) last fit.0.has_part }, block_fits-with g w (suc n) body fit.1, catches_fits-with g w (behind (suc n) (block_yield body)) catches fit.2, last_fits-with g w (behind (behind (suc n) (block_yield body)) (catches_yield catches)) last fit.3)

  pub block_fits-with : (g : Rewriting) → WritesNames g → (n : ℕ) (tree : BlockTree) → BlockFits tree → BlockFits (block_with g n tree)
  block_fits-with g w n (Braces left list right) fit = (fit.0, stmts_fits-with g w (suc n) list fit.1)

  pub stmts_fits-with : (g : Rewriting) → WritesNames g → (n : ℕ) (tree : StmtsTree) → StmtsFit tree → StmtsFit (stmts_with g n tree)
  stmts_fits-with g w n NoStmts fit = tt
  stmts_fits-with g w n (Stmts stmt rest) fit = (stmt_fits-with g w n stmt fit.0, stmts_fits-with g w (behind n (stmt_yield stmt)) rest fit.1)

  pub other_fits-with : (g : Rewriting) → WritesNames g → (n : ℕ) (tree : OtherTree) → OtherFits tree → OtherFits (other_with g n tree)
  other_fits-with g w n NoOther fit = tt
  other_fits-with g w n (Other word stmt) fit = (fit.0, no_local-with g (suc n) stmt fit.1, stmt_fits-with g w (suc n) stmt fit.2)

  pub group_fits-with : (g : Rewriting) → WritesNames g → (n : ℕ) (tree : GroupTree) → GroupFits tree → GroupFits (group_with g n tree)
  group_fits-with g w n (Group word expression colon body) fit = (group_word-with word (suc n) g expression fit.0, optional_fits-with ExprFits (expr_with g) (expr_fits-with g w) (suc n) expression fit.1, fit.2, stmts_fits-with g w (suc (behind (suc n) (option_yield expr_yield expression))) body fit.3)

  pub groups_fits-with : (g : Rewriting) → WritesNames g → (n : ℕ) (tree : GroupsTree) → GroupsFit tree → GroupsFit (groups_with g n tree)
  groups_fits-with g w n NoGroups fit = tt
  groups_fits-with g w n (Groups group rest) fit = (group_fits-with g w n group fit.0, groups_fits-with g w (behind n (group_yield group)) rest fit.1)

  pub catch_fits-with : (g : Rewriting) → WritesNames g → (n : ℕ) (tree : CatchTree) → CatchFits tree → CatchFits (catch_with g n tree)
  catch_fits-with g w n (Catch word left fixed name id right body) fit = (record { head = fit.0.head; fixed_is = fit.0.fixed_is; id_is = fit.0.id_is }, w.names (behind (suc (suc n)) (option_yield tok_yield fixed)) name fit.1, block_fits-with g w (suc (suc (behind (behind (suc (suc n)) (option_yield tok_yield fixed)) (name_yield name)))) body fit.2)

  pub catches_fits-with : (g : Rewriting) → WritesNames g → (n : ℕ) (tree : CatchesTree) → CatchesFit tree → CatchesFit (catches_with g n tree)
  catches_fits-with g w n NoCatches fit = tt
  catches_fits-with g w n (Catches first rest) fit = (catch_fits-with g w n first fit.0, catches_fits-with g w (behind n (catch_yield first)) rest fit.1)

  pub last_fits-with : (g : Rewriting) → WritesNames g → (n : ℕ) (tree : LastTree) → LastFits tree → LastFits (last_with g n tree)
  last_fits-with g w n NoLast fit = tt
  last_fits-with g w n (Last word body) fit = (fit.0, block_fits-with g w (suc n) body fit.1)
