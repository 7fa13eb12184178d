-- No type is declared in a statement.
use Rattle.std.proofs.Common.{refl, ℕ, ◌+◌, List, [], ◌∷◌, ◌++◌, Option}
use Rattle.rf_jtree.specs.declared.tokens.Tok.{Tok}
use Rattle.rf_jtree.specs.ExprTrees.{ExprTree, ExprsTree}
use Rattle.rf_jtree.specs.NameTrees.{ManyTree, NameTree, TypeUseTree, ModTree, mods_yield, dims_yield, option_yield, tok_yield}
use Rattle.rf_jtree.specs.StmtTrees.{VarTree, LocalTree, ForFirstTree, StmtTree, Block, Empty, Label, Expression, If, While, Do, For, Each, Switch, Jump, Return, Throw, Sync, Assert, Try}
use Rattle.rf_jtree.specs.StmtTrees.{BlockTree, Braces, StmtsTree, NoStmts, Stmts, OtherTree, NoOther, Other, GroupTree, Group, GroupsTree, NoGroups, Groups, CatchTree, Catch, CatchesTree, NoCatches, Catches, LastTree, NoLast, Last}
use Rattle.rf_jview.specs.declared.marks.Mark.{Mark}
use Rattle.rf_jview.specs.declared.marks.Mark.TheVariants as m
use Rattle.rf_jview.specs.declared.marks.Opening.{Opening}
use Rattle.rf_jview.specs.declared.marks.Opening.TheVariants as o
use Rattle.rf_jview.specs.ExprMarks.{expr_marks, exprs_marks, init_marks}
use Rattle.rf_jview.specs.MarkWords.{counted, after, plains}
use Rattle.rf_jview.specs.NameMarks.{type_name_marks, type_marks, mods_marks, option_marks, behind_marks}
use Rattle.rf_jview.specs.StmtMarks.{beginning_marks, local_var_marks, more_locals_marks, locals_marks, local_marks, first_marks, head_marks, for_head_marks, each_head_marks, catch_head_marks}
use Rattle.rf_jview.specs.StmtMarks.{stmt_marks, block_marks, stmts_marks, other_marks, group_marks, groups_marks, catch_marks, catches_marks, last_marks}
use Rattle.rf_jmodel.proofs.NoTypes.{HasNoType, none, one, both, regroup, each, optional, tname_untyped, type_untyped}
use Rattle.rf_jmodel.proofs.ExprTypes.{expr_untyped, exprs_untyped, init_untyped}

-- variables and local declarations
pub beginning_untyped : (var : VarTree) → HasNoType (beginning_marks var)
beginning_untyped var =
    both (each (dims_yield var.dims)) (optional (behind_marks init_marks) (λ part. one refl (init_untyped part.1)) var.init)

pub more_locals_untyped : (back : ℕ) (rest : List (Tok × VarTree)) → HasNoType (more_locals_marks back rest)
more_locals_untyped back [] = none
more_locals_untyped back (item ∷ rest) = one refl (both (one refl (beginning_untyped item.1)) (more_locals_untyped (after (back + 1) (local_var_marks (back + 1) item.1)) rest))

pub locals_untyped : (back : ℕ) (vars : ManyTree VarTree) → HasNoType (locals_marks back vars)
locals_untyped back vars = both (one refl (beginning_untyped vars.first)) (more_locals_untyped (after back (local_var_marks back vars.first)) vars.rest)

pub local_untyped : (back : ℕ) (local : LocalTree) → HasNoType (local_marks back local)
local_untyped back local =
    both (each (mods_yield local.mods))
    (both (type_untyped local.used_type) (locals_untyped (after (after back (mods_marks local.mods)) (type_marks local.used_type)) local.vars))

first_untyped : (back : ℕ) (first : ForFirstTree) → HasNoType (first_marks back first)
first_untyped back (ForFirstTree.Local local) = local_untyped back local
first_untyped back (ForFirstTree.Exprs exprs) = exprs_untyped exprs

-- what stands before bodies
head_untyped : (test : ExprTree) {marks : List Mark} → HasNoType marks
    → HasNoType (head_marks test ++ marks)
head_untyped test {marks} same = one refl (one refl (regroup (expr_marks test) (m.Plain ∷ []) marks (both (expr_untyped test) (one refl same))))

for_head_untyped : (first : ForFirstTree) (test : Option ExprTree) (last : ExprsTree) {marks : List Mark}
    → HasNoType marks
    → HasNoType (for_head_marks first test last ++ marks)
for_head_untyped first test last {marks} same =
    let tests = option_marks expr_marks test in
    let lasts = exprs_marks last ++ m.Plain ∷ [] in
    one refl (regroup (first_marks 2 first) (m.Plain ∷ (tests ++ m.Plain ∷ lasts)) marks
    (both (first_untyped 2 first) (one refl (regroup tests (m.Plain ∷ lasts) marks
    (both (optional expr_marks expr_untyped test) (one refl (regroup (exprs_marks last) (m.Plain ∷ []) marks (both (exprs_untyped last) (one refl same)))))))))

each_head_untyped : (mods : List ModTree) (used_type : TypeUseTree) (over : ExprTree) {marks : List Mark}
    → HasNoType marks
    → HasNoType (each_head_marks mods used_type over ++ marks)
each_head_untyped mods used_type over {marks} same =
    let overs = m.Ahead (2 + counted (expr_marks over)) ∷ m.Plain ∷ expr_marks over in
    one refl (one refl (regroup (mods_marks mods) (type_marks used_type ++ overs) marks
    (both (each (mods_yield mods)) (regroup (type_marks used_type) overs marks (both (type_untyped used_type) (one refl (one refl (both (expr_untyped over) same))))))))

catch_head_untyped : (fixed : Option Tok) (name : NameTree) {marks : List Mark} → HasNoType marks
    → HasNoType (catch_head_marks fixed (type_name_marks name) ++ marks)
catch_head_untyped fixed name {marks} same =
    let names = type_name_marks name ++ m.Ahead 2 ∷ m.Plain ∷ [] in
    let firsts = option_yield tok_yield fixed in
    one refl (one refl (regroup (plains firsts) names marks
    (both (each firsts) (regroup (type_name_marks name) (m.Ahead 2 ∷ m.Plain ∷ []) marks (both (tname_untyped name) (one refl (one refl same)))))))

mutual
  pub stmt_untyped : (back : ℕ) (tree : StmtTree) → HasNoType (stmt_marks back tree)
  stmt_untyped back (Block block) = block_untyped o.Block block
  stmt_untyped back (Empty semi) = one refl none
  stmt_untyped back (StmtTree.Local local semi) = both (local_untyped back local) (one refl none)
  stmt_untyped back (Label id colon body) = one refl (one refl (stmt_untyped (back + 1 + 1) body))
  stmt_untyped back (Expression expression semi) = both (expr_untyped expression) (one refl none)
  stmt_untyped back (If word left test right then other) = head_untyped test (both (stmt_untyped (after back (head_marks test)) then) (other_untyped (after (after back (head_marks test)) (stmt_marks (after back (head_marks test)) then)) other))
  stmt_untyped back (While word left test right body) = head_untyped test (stmt_untyped (after back (head_marks test)) body)
  stmt_untyped back (Do word body until left test right semi) = one refl (both (stmt_untyped (back + 1) body) (head_untyped test (one refl none)))
  stmt_untyped back (For word left first semi1 test semi2 last right body) = one refl (for_head_untyped first test last (stmt_untyped (after 1 (for_head_marks first test last)) body))
  stmt_untyped back (Each word left mods used_type id colon over right body) = each_head_untyped mods used_type over (one refl (stmt_untyped 1 body))
  stmt_untyped back (Switch word left on right brace groups end) = head_untyped on (one refl (both (groups_untyped 1 groups) (one refl none)))
  stmt_untyped back (Jump word label semi) = one refl (both (each (option_yield tok_yield label)) (one refl none))
  stmt_untyped back (Return word expression semi) = one refl (both (optional expr_marks expr_untyped expression) (one refl none))
  stmt_untyped back (Throw word expression semi) = one refl (both (expr_untyped expression) (one refl none))
  stmt_untyped back (Sync word left on right body) = head_untyped on (block_untyped o.Block body)
  stmt_untyped back (Assert word test message semi) = one refl (both (expr_untyped test) (both (optional (behind_marks expr_marks) (λ part. one refl (expr_untyped part.1)) message) (one refl none)))
  stmt_untyped back (Try word body catches last) = one refl (both (block_untyped o.Block body) (both (catches_untyped catches) (last_untyped last)))

  pub block_untyped : (opening : Opening) (tree : BlockTree) → HasNoType (block_marks opening tree)
  block_untyped opening (Braces left list right) = one refl (both (stmts_untyped 1 list) (one refl none))

  pub stmts_untyped : (back : ℕ) (tree : StmtsTree) → HasNoType (stmts_marks back tree)
  stmts_untyped back NoStmts = none
  stmts_untyped back (Stmts stmt rest) = both (stmt_untyped back stmt) (stmts_untyped (after back (stmt_marks back stmt)) rest)

  pub other_untyped : (back : ℕ) (tree : OtherTree) → HasNoType (other_marks back tree)
  other_untyped back NoOther = none
  other_untyped back (Other word stmt) = one refl (stmt_untyped (back + 1) stmt)

  pub group_untyped : (back : ℕ) (tree : GroupTree) → HasNoType (group_marks back tree)
  group_untyped back (Group word expression colon body) = one refl (both (optional expr_marks expr_untyped expression) (one refl (stmts_untyped (after (back + 1) (option_marks expr_marks expression) + 1) body)))

  pub groups_untyped : (back : ℕ) (tree : GroupsTree) → HasNoType (groups_marks back tree)
  groups_untyped back NoGroups = none
  groups_untyped back (Groups group rest) = both (group_untyped back group) (groups_untyped (after back (group_marks back group)) rest)

  pub catch_untyped : (tree : CatchTree) → HasNoType (catch_marks tree)
  catch_untyped (Catch word left fixed name id right body) = catch_head_untyped fixed name (block_untyped o.Block body)

  pub catches_untyped : (tree : CatchesTree) → HasNoType (catches_marks tree)
  catches_untyped NoCatches = none
  catches_untyped (Catches first rest) = both (catch_untyped first) ((catches_untyped rest))

  pub last_untyped : (tree : LastTree) → HasNoType (last_marks tree)
  last_untyped NoLast = none
  last_untyped (Last word body) = one refl (block_untyped o.Block body)
