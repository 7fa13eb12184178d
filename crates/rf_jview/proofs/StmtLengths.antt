-- A statement has as many marks as tokens.
use Rattle.std.proofs.Common.{ℕ, ◌+◌, List, [], ◌∷◌, ◌++◌, Option}
use Rattle.rf_jtree.specs.declared.tokens.Tok.{Tok}
use Rattle.rf_jtree.specs.ExprTrees.{ExprTree, ExprsTree, expr_yield, exprs_yield, init_yield}
use Rattle.rf_jtree.specs.NameTrees.{ManyTree, NameTree, TypeUseTree, ModTree, name_yield, type_yield, mods_yield, dims_yield, option_yield, behind_yield, tok_yield, many_yield}
use Rattle.rf_jtree.specs.StmtTrees.{VarTree, LocalTree, ForFirstTree, StmtTree, Block, Empty, Label, Expression, If, While, Do, For, Each, Switch, Jump, Return, Throw, Sync, Assert, Try}
use Rattle.rf_jtree.specs.StmtTrees.{BlockTree, Braces, StmtsTree, NoStmts, Stmts, OtherTree, NoOther, Other, GroupTree, Group, GroupsTree, NoGroups, Groups, CatchTree, Catch, CatchesTree, NoCatches, Catches, LastTree, NoLast, Last}
use Rattle.rf_jtree.specs.StmtTrees.{var_yield, local_yield, first_yield, stmt_yield, block_yield, stmts_yield, other_yield, group_yield, groups_yield, catch_yield, catches_yield, last_yield}
use Rattle.std.specs.List.{flat_map}
use Rattle.rf_jview.specs.declared.marks.Mark.{Mark}
use Rattle.rf_jview.specs.declared.marks.Mark.TheVariants as m
use Rattle.rf_jview.specs.declared.marks.Opening.{Opening}
use Rattle.rf_jview.specs.declared.marks.Opening.TheVariants as o
use Rattle.rf_jview.specs.ExprMarks.{expr_marks, exprs_marks, init_marks}
use Rattle.rf_jview.specs.MarkWords.{counted, after, plains}
use Rattle.rf_jview.specs.NameMarks.{type_name_marks, type_marks, mods_marks, option_marks, behind_marks}
use Rattle.rf_jview.specs.StmtMarks.{beginning_marks, local_var_marks, more_locals_marks, locals_marks, local_marks, first_marks, head_marks, for_head_marks, each_head_marks, catch_head_marks}
use Rattle.rf_jview.specs.StmtMarks.{stmt_marks, block_marks, stmts_marks, other_marks, group_marks, groups_marks, catch_marks, catches_marks, last_marks}
use Rattle.rf_jview.proofs.Lengths.{AsMany, none, one, both, regroup, each, optional, tname_as_many, type_as_many}
use Rattle.rf_jview.proofs.ExprLengths.{expr_as_many, exprs_as_many, init_as_many}

-- variables and local declarations
pub beginning_as_many : (var : VarTree) → AsMany (beginning_marks var) (dims_yield var.dims ++ option_yield (behind_yield init_yield) var.init)
beginning_as_many var =
    both (each (dims_yield var.dims)) (optional (behind_marks init_marks) (behind_yield init_yield) (λ part. one (init_as_many part.1)) var.init)

pub more_locals_as_many : (back : ℕ) (rest : List (Tok × VarTree)) → AsMany (more_locals_marks back rest) (flat_map (λ item. item.0 ∷ var_yield item.1) rest)
more_locals_as_many back [] = none
more_locals_as_many back (item ∷ rest) = one (both (one (beginning_as_many item.1)) (more_locals_as_many (after (back + 1) (local_var_marks (back + 1) item.1)) rest))

pub locals_as_many : (back : ℕ) (vars : ManyTree VarTree) → AsMany (locals_marks back vars) (many_yield var_yield vars)
locals_as_many back vars = both (one (beginning_as_many vars.first)) (more_locals_as_many (after back (local_var_marks back vars.first)) vars.rest)

pub local_as_many : (back : ℕ) (local : LocalTree) → AsMany (local_marks back local) (local_yield local)
local_as_many back local =
    both (each (mods_yield local.mods))
    (both (type_as_many local.used_type) (locals_as_many (after (after back (mods_marks local.mods)) (type_marks local.used_type)) local.vars))

first_as_many : (back : ℕ) (first : ForFirstTree) → AsMany (first_marks back first) (first_yield first)
first_as_many back (ForFirstTree.Local local) = local_as_many back local
first_as_many back (ForFirstTree.Exprs exprs) = exprs_as_many exprs

-- what stands before bodies
head_as_many : (word left right : Tok) (test : ExprTree) {marks : List Mark} {toks : List Tok} → AsMany marks toks
    → AsMany (head_marks test ++ marks) (word ∷ left ∷ (expr_yield test ++ right ∷ toks))
head_as_many word left right test {marks} same = one (one (regroup (expr_marks test) (m.Plain ∷ []) marks (both (expr_as_many test) (one same))))

for_head_as_many : (left semi1 semi2 right : Tok) (first : ForFirstTree) (test : Option ExprTree) (last : ExprsTree) {marks : List Mark} {toks : List Tok}
    → AsMany marks toks
    → AsMany (for_head_marks first test last ++ marks) (left ∷ (first_yield first ++ semi1 ∷ (option_yield expr_yield test ++ semi2 ∷ (exprs_yield last ++ right ∷ toks))))
for_head_as_many left semi1 semi2 right first test last {marks} same =
    let tests = option_marks expr_marks test in
    let lasts = exprs_marks last ++ m.Plain ∷ [] in
    one (regroup (first_marks 2 first) (m.Plain ∷ (tests ++ m.Plain ∷ lasts)) marks
    (both (first_as_many 2 first) (one (regroup tests (m.Plain ∷ lasts) marks
    (both (optional expr_marks expr_yield expr_as_many test) (one (regroup (exprs_marks last) (m.Plain ∷ []) marks (both (exprs_as_many last) (one same)))))))))

each_head_as_many : (word left id colon : Tok) (mods : List ModTree) (used_type : TypeUseTree) (over : ExprTree) {marks : List Mark} {toks : List Tok}
    → AsMany marks toks
    → AsMany (each_head_marks mods used_type over ++ marks) (word ∷ left ∷ (mods_yield mods ++ (type_yield used_type ++ id ∷ colon ∷ (expr_yield over ++ toks))))
each_head_as_many word left id colon mods used_type over {marks} same =
    let overs = m.Ahead (2 + counted (expr_marks over)) ∷ m.Plain ∷ expr_marks over in
    one (one (regroup (mods_marks mods) (type_marks used_type ++ overs) marks
    (both (each (mods_yield mods)) (regroup (type_marks used_type) overs marks (both (type_as_many used_type) (one (one (both (expr_as_many over) same))))))))

catch_head_as_many : (word left id right : Tok) (fixed : Option Tok) (name : NameTree) {marks : List Mark} {toks : List Tok} → AsMany marks toks
    → AsMany (catch_head_marks fixed (type_name_marks name) ++ marks) (word ∷ left ∷ (option_yield tok_yield fixed ++ (name_yield name ++ id ∷ right ∷ toks)))
catch_head_as_many word left id right fixed name {marks} same =
    let names = type_name_marks name ++ m.Ahead 2 ∷ m.Plain ∷ [] in
    let firsts = option_yield tok_yield fixed in
    one (one (regroup (plains firsts) names marks
    (both (each firsts) (regroup (type_name_marks name) (m.Ahead 2 ∷ m.Plain ∷ []) marks (both (tname_as_many name) (one (one same)))))))

mutual
  pub stmt_as_many : (back : ℕ) (tree : StmtTree) → AsMany (stmt_marks back tree) (stmt_yield tree)
  stmt_as_many back (Block block) = block_as_many o.Block block
  stmt_as_many back (Empty semi) = one none
  stmt_as_many back (StmtTree.Local local semi) = both (local_as_many back local) (one none)
  stmt_as_many back (Label id colon body) = one (one (stmt_as_many (back + 1 + 1) body))
  stmt_as_many back (Expression expression semi) = both (expr_as_many expression) (one none)
  stmt_as_many back (If word left test right then other) = head_as_many word left right test (both (stmt_as_many (after back (head_marks test)) then) (other_as_many (after (after back (head_marks test)) (stmt_marks (after back (head_marks test)) then)) other))
  stmt_as_many back (While word left test right body) = head_as_many word left right test (stmt_as_many (after back (head_marks test)) body)
  stmt_as_many back (Do word body until left test right semi) = one (both (stmt_as_many (back + 1) body) (head_as_many until left right test (one none)))
  stmt_as_many back (For word left first semi1 test semi2 last right body) = one (for_head_as_many left semi1 semi2 right first test last (stmt_as_many (after 1 (for_head_marks first test last)) body))
  stmt_as_many back (Each word left mods used_type id colon over right body) = each_head_as_many word left id colon mods used_type over (one (stmt_as_many 1 body))
  stmt_as_many back (Switch word left on right brace groups end) = head_as_many word left right on (one (both (groups_as_many 1 groups) (one none)))
  stmt_as_many back (Jump word label semi) = one (both (each (option_yield tok_yield label)) (one none))
  stmt_as_many back (Return word expression semi) = one (both (optional expr_marks expr_yield expr_as_many expression) (one none))
  stmt_as_many back (Throw word expression semi) = one (both (expr_as_many expression) (one none))
  stmt_as_many back (Sync word left on right body) = head_as_many word left right on (block_as_many o.Block body)
  stmt_as_many back (Assert word test message semi) = one (both (expr_as_many test) (both (optional (behind_marks expr_marks) (behind_yield expr_yield) (λ part. one (expr_as_many part.1)) message) (one none)))
  stmt_as_many back (Try word body catches last) = one (both (block_as_many o.Block body) (both (catches_as_many catches) (last_as_many last)))

  pub block_as_many : (opening : Opening) (tree : BlockTree) → AsMany (block_marks opening tree) (block_yield tree)
  block_as_many opening (Braces left list right) = one (both (stmts_as_many 1 list) (one none))

  pub stmts_as_many : (back : ℕ) (tree : StmtsTree) → AsMany (stmts_marks back tree) (stmts_yield tree)
  stmts_as_many back NoStmts = none
  stmts_as_many back (Stmts stmt rest) = both (stmt_as_many back stmt) (stmts_as_many (after back (stmt_marks back stmt)) rest)

  pub other_as_many : (back : ℕ) (tree : OtherTree) → AsMany (other_marks back tree) (other_yield tree)
  other_as_many back NoOther = none
  other_as_many back (Other word stmt) = one (stmt_as_many (back + 1) stmt)

  pub group_as_many : (back : ℕ) (tree : GroupTree) → AsMany (group_marks back tree) (group_yield tree)
  group_as_many back (Group word expression colon body) = one (both (optional expr_marks expr_yield expr_as_many expression) (one (stmts_as_many (after (back + 1) (option_marks expr_marks expression) + 1) body)))

  pub groups_as_many : (back : ℕ) (tree : GroupsTree) → AsMany (groups_marks back tree) (groups_yield tree)
  groups_as_many back NoGroups = none
  groups_as_many back (Groups group rest) = both (group_as_many back group) (groups_as_many (after back (group_marks back group)) rest)

  pub catch_as_many : (tree : CatchTree) → AsMany (catch_marks tree) (catch_yield tree)
  catch_as_many (Catch word left fixed name id right body) = catch_head_as_many word left id right fixed name (block_as_many o.Block body)

  pub catches_as_many : (tree : CatchesTree) → AsMany (catches_marks tree) (catches_yield tree)
  catches_as_many NoCatches = none
  catches_as_many (Catches first rest) = both (catch_as_many first) ((catches_as_many rest))

  pub last_as_many : (tree : LastTree) → AsMany (last_marks tree) (last_yield tree)
  last_as_many NoLast = none
  last_as_many (Last word body) = one (block_as_many o.Block body)
