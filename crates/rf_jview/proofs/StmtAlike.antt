-- The marks of a statement stay where it is rewritten.
use Rattle.std.proofs.Common.{ℕ, suc, ◌+◌, List, [], ◌∷◌, ◌++◌, length, Option, ap}
use Rattle.rf_jtree.specs.declared.tokens.Tok.{Tok}
use Rattle.rf_jtree.specs.ExprTrees.{ExprTree, ExprsTree, expr_yield, exprs_yield}
use Rattle.rf_jtree.specs.NameTrees.{ManyTree, NameTree, TypeUseTree, ModTree, name_yield, type_yield, mods_yield, dims_yield, option_yield, tok_yield}
use Rattle.rf_jtree.specs.StmtTrees.{VarTree, LocalTree, ForFirstTree, StmtTree, Block, Empty, Label, Expression, If, While, Do, For, Each, Switch, Jump, Return, Throw, Sync, Assert, Try}
use Rattle.rf_jtree.specs.StmtTrees.{BlockTree, Braces, StmtsTree, NoStmts, Stmts, OtherTree, NoOther, Other, GroupTree, Group, GroupsTree, NoGroups, Groups, CatchTree, Catch, CatchesTree, NoCatches, Catches, LastTree, NoLast, Last}
use Rattle.rf_jtree.specs.StmtTrees.{var_yield, first_yield, stmt_yield, block_yield, group_yield, catch_yield, catches_yield}
use Rattle.rf_jview.specs.declared.marks.Mark.{Mark}
use Rattle.rf_jview.specs.declared.marks.Mark.TheVariants as m
use Rattle.rf_jview.specs.declared.marks.Opening.{Opening}
use Rattle.rf_jview.specs.declared.marks.Opening.TheVariants as o
use Rattle.rf_jview.specs.ExprMarks.{expr_marks, init_marks}
use Rattle.rf_jview.specs.ExprWith.{expr_with, exprs_with, init_with}
use Rattle.rf_jview.specs.MarkWords.{counted, after, plains}
use Rattle.rf_jview.specs.NameMarks.{type_name_marks, dims_marks, mods_marks, behind_marks}
use Rattle.rf_jview.specs.Rewritings.{Rewriting, behind, option_with, behind_with, rest_with, type_with}
use Rattle.rf_jview.specs.StmtMarks.{beginning_marks, more_locals_marks, locals_marks, local_marks, first_marks, head_marks, for_head_marks, each_head_marks, catch_head_marks}
use Rattle.rf_jview.specs.StmtMarks.{stmt_marks, block_marks, stmts_marks, other_marks, group_marks, groups_marks, catch_marks, catches_marks, last_marks}
use Rattle.rf_jview.specs.StmtWith.{var_with, vars_with, local_with, first_with, stmt_with, block_with, stmts_with, other_with, group_with, groups_with, catch_with, catches_with, last_with}
use Rattle.rf_jview.proofs.Alike.{Alike, alike, both, plain, thens, opened_alike, optional_alike, behind_alike, tname_alike, type_alike}
use Rattle.rf_jview.proofs.ExprAlike.{expr_alike, exprs_alike, init_alike}

-- variables and local declarations
pub beginning_alike : (g : Rewriting) (n : ℕ) (var : VarTree) → Alike (beginning_marks (var_with g n var)) (beginning_marks var)
beginning_alike g n var =
    both (alike (dims_marks var.dims))
    (optional_alike (behind_marks init_marks) (behind_with (init_with g)) (behind_alike init_marks (init_with g) (init_alike g)) (behind (suc n) (dims_yield var.dims)) var.init)

local_then : {news olds : List Mark} (back : ℕ) → Alike news olds → Alike (m.Local back ∷ news) (m.Local back ∷ olds)
local_then back same = record { equal = ap (λ marks. m.Local back ∷ marks) same.equal }

more_locals_alike : (g : Rewriting) (n back : ℕ) (rest : List (Tok × VarTree))
    → Alike (more_locals_marks back (rest_with var_yield (var_with g) n rest)) (more_locals_marks back rest)
more_locals_alike g n back [] = alike []
more_locals_alike g n back (item ∷ rest) =
    let next = behind (suc n) (var_yield item.1) in
    plain (thens (λ back. more_locals_marks back (rest_with var_yield (var_with g) next rest)) (λ back. more_locals_marks back rest)
    (back + 1) (local_then (back + 1) (beginning_alike g (suc n) item.1)) (λ back. more_locals_alike g (behind (suc n) (var_yield item.1)) back rest))

locals_alike : (g : Rewriting) (n back : ℕ) (vars : ManyTree VarTree) → Alike (locals_marks back (vars_with g n vars)) (locals_marks back vars)
locals_alike g n back vars =
    let next = behind n (var_yield vars.first) in
    thens (λ back. more_locals_marks back (rest_with var_yield (var_with g) next vars.rest)) (λ back. more_locals_marks back vars.rest)
    back (local_then back (beginning_alike g n vars.first)) (λ back. more_locals_alike g next back vars.rest)

pub local_alike : (g : Rewriting) (n back : ℕ) (local : LocalTree) → Alike (local_marks back (local_with g n local)) (local_marks back local)
local_alike g n back local =
    let used_type = behind n (mods_yield local.mods) in
    let vars = behind used_type (type_yield local.used_type) in
    both (alike (mods_marks local.mods)) (thens (λ back. locals_marks back (vars_with g vars local.vars)) (λ back. locals_marks back local.vars)
    (after back (mods_marks local.mods)) (type_alike g used_type local.used_type) (λ back. locals_alike g vars back local.vars))

first_alike : (g : Rewriting) (n back : ℕ) (first : ForFirstTree) → Alike (first_marks back (first_with g n first)) (first_marks back first)
first_alike g n back (ForFirstTree.Local local) = local_alike g n back local
first_alike g n back (ForFirstTree.Exprs exprs) = exprs_alike g n exprs

-- what stands before bodies
head_alike : (g : Rewriting) (n : ℕ) (test : ExprTree) → Alike (head_marks (expr_with g n test)) (head_marks test)
head_alike g n test = plain (plain (both (expr_alike g n test) (alike (m.Plain ∷ []))))

for_head_alike : (g : Rewriting) (n : ℕ) (first : ForFirstTree) (n2 : ℕ) (test : Option ExprTree) (n3 : ℕ) (last : ExprsTree)
    → Alike (for_head_marks (first_with g n first) (option_with (expr_with g) n2 test) (exprs_with g n3 last)) (for_head_marks first test last)
for_head_alike g n first n2 test n3 last =
    plain (both (first_alike g n 2 first) (plain (both (optional_alike expr_marks (expr_with g) (expr_alike g) n2 test)
    (plain (both (exprs_alike g n3 last) (alike (m.Plain ∷ [])))))))

ahead_then : {news olds : List Mark} → Alike news olds → Alike (m.Ahead (2 + counted news) ∷ m.Plain ∷ news) (m.Ahead (2 + counted olds) ∷ m.Plain ∷ olds)
ahead_then same = record { equal = ap (λ marks. m.Ahead (2 + length marks) ∷ m.Plain ∷ marks) same.equal }

each_head_alike : (g : Rewriting) (n : ℕ) (mods : List ModTree) (used_type : TypeUseTree) (n2 : ℕ) (over : ExprTree)
    → Alike (each_head_marks mods (type_with g n used_type) (expr_with g n2 over)) (each_head_marks mods used_type over)
each_head_alike g n mods used_type n2 over =
    plain (plain (both (alike (mods_marks mods)) (both (type_alike g n used_type) (ahead_then (expr_alike g n2 over)))))

catch_head_alike : (g : Rewriting) (n : ℕ) (fixed : Option Tok) (name : NameTree)
    → Alike (catch_head_marks fixed (type_name_marks (g.written n name))) (catch_head_marks fixed (type_name_marks name))
catch_head_alike g n fixed name =
    plain (plain (both (alike (plains (option_yield tok_yield fixed))) (both (tname_alike g n name) (alike (m.Ahead 2 ∷ m.Plain ∷ [])))))

mutual
  pub stmt_alike : (g : Rewriting) (n : ℕ) (back : ℕ) (tree : StmtTree) → Alike (stmt_marks back (stmt_with g n tree)) (stmt_marks back tree)
  stmt_alike g n back (Block block) = block_alike g n o.Block block
  stmt_alike g n back (Empty semi) = plain (alike [])
  stmt_alike g n back (StmtTree.Local local semi) = both (local_alike g n back local) (alike (m.Plain ∷ []))
  stmt_alike g n back (Label id colon body) = plain (plain (stmt_alike g (suc (suc n)) (back + 1 + 1) body))
  stmt_alike g n back (Expression expression semi) = both (expr_alike g n expression) (plain (alike []))
  stmt_alike g n back (If word left test right then other) = thens (λ back. stmt_marks back (stmt_with g (suc (behind (suc (suc n)) (expr_yield test))) then) ++ other_marks (after back (stmt_marks back (stmt_with g (suc (behind (suc (suc n)) (expr_yield test))) then))) (other_with g (behind (suc (behind (suc (suc n)) (expr_yield test))) (stmt_yield then)) other))
      (λ back. stmt_marks back then ++ other_marks (after back (stmt_marks back then)) other) back (head_alike g (suc (suc n)) test)
      (λ back. thens (λ back. other_marks back (other_with g (behind (suc (behind (suc (suc n)) (expr_yield test))) (stmt_yield then)) other)) (λ back. other_marks back other) back (stmt_alike g (suc (behind (suc (suc n)) (expr_yield test))) back then) (λ back. other_alike g (behind (suc (behind (suc (suc n)) (expr_yield test))) (stmt_yield then)) back other))
  stmt_alike g n back (While word left test right body) = thens (λ back. stmt_marks back (stmt_with g (suc (behind (suc (suc n)) (expr_yield test))) body)) (λ back. stmt_marks back body) back (head_alike g (suc (suc n)) test) (λ back. stmt_alike g (suc (behind (suc (suc n)) (expr_yield test))) back body)
  stmt_alike g n back (Do word body until left test right semi) = plain (both (stmt_alike g (suc n) (back + 1) body) (both (head_alike g (suc (suc (behind (suc n) (stmt_yield body)))) test) (alike (m.Plain ∷ []))))
  stmt_alike g n back (For word left first semi1 test semi2 last right body) = opened_alike o.Block (thens (λ back. stmt_marks back (stmt_with g (suc (behind (suc (behind (suc (behind (suc (suc n)) (first_yield first))) (option_yield expr_yield test))) (exprs_yield last))) body)) (λ back. stmt_marks back body) 1 (for_head_alike g (suc (suc n)) first (suc (behind (suc (suc n)) (first_yield first))) test (suc (behind (suc (behind (suc (suc n)) (first_yield first))) (option_yield expr_yield test))) last) (λ back. stmt_alike g (suc (behind (suc (behind (suc (behind (suc (suc n)) (first_yield first))) (option_yield expr_yield test))) (exprs_yield last))) back body))
  stmt_alike g n back (Each word left mods used_type id colon over right body) = both (each_head_alike g (behind (suc (suc n)) (mods_yield mods)) mods used_type (suc (suc (behind (behind (suc (suc n)) (mods_yield mods)) (type_yield used_type)))) over) (opened_alike o.Block (stmt_alike g (suc (behind (suc (suc (behind (behind (suc (suc n)) (mods_yield mods)) (type_yield used_type)))) (expr_yield over))) 1 body))
  stmt_alike g n back (Switch word left on right brace groups end) = both (head_alike g (suc (suc n)) on) (opened_alike o.Block (both (groups_alike g (suc (suc (behind (suc (suc n)) (expr_yield on)))) 1 groups) (alike (m.Plain ∷ []))))
  stmt_alike g n back (Jump word label semi) = plain (both (alike (plains (option_yield tok_yield label))) (plain (alike [])))
  stmt_alike g n back (Return word expression semi) = plain (both (optional_alike expr_marks (expr_with g) (expr_alike g) (suc n) expression) (plain (alike [])))
  stmt_alike g n back (Throw word expression semi) = plain (both (expr_alike g (suc n) expression) (plain (alike [])))
  stmt_alike g n back (Sync word left on right body) = both (head_alike g (suc (suc n)) on) (block_alike g (suc (behind (suc (suc n)) (expr_yield on))) o.Block body)
  stmt_alike g n back (Assert word test message semi) = plain (both (expr_alike g (suc n) test) (both (optional_alike (behind_marks expr_marks) (behind_with (expr_with g)) (behind_alike expr_marks (expr_with g) (expr_alike g)) (behind (suc n) (expr_yield test)) message) (plain (alike []))))
  stmt_alike g n back (Try word body catches last) = plain (both (block_alike g (suc n) o.Block body) (both (catches_alike g (behind (suc n) (block_yield body)) catches) (last_alike g (behind (behind (suc n) (block_yield body)) (catches_yield catches)) last)))

  pub block_alike : (g : Rewriting) (n : ℕ) (opening : Opening) (tree : BlockTree) → Alike (block_marks opening (block_with g n tree)) (block_marks opening tree)
  block_alike g n opening (Braces left list right) = opened_alike opening (both (stmts_alike g (suc n) 1 list) (alike (m.Plain ∷ [])))

  pub stmts_alike : (g : Rewriting) (n : ℕ) (back : ℕ) (tree : StmtsTree) → Alike (stmts_marks back (stmts_with g n tree)) (stmts_marks back tree)
  stmts_alike g n back NoStmts = alike []
  stmts_alike g n back (Stmts stmt rest) = thens (λ back. stmts_marks back (stmts_with g (behind n (stmt_yield stmt)) rest)) (λ back. stmts_marks back rest) back (stmt_alike g n back stmt) (λ back. stmts_alike g (behind n (stmt_yield stmt)) back rest)

  pub other_alike : (g : Rewriting) (n : ℕ) (back : ℕ) (tree : OtherTree) → Alike (other_marks back (other_with g n tree)) (other_marks back tree)
  other_alike g n back NoOther = alike []
  other_alike g n back (Other word stmt) = plain (stmt_alike g (suc n) (back + 1) stmt)

  pub group_alike : (g : Rewriting) (n : ℕ) (back : ℕ) (tree : GroupTree) → Alike (group_marks back (group_with g n tree)) (group_marks back tree)
  group_alike g n back (Group word expression colon body) = plain (thens (λ back. m.Plain ∷ stmts_marks (back + 1) (stmts_with g (suc (behind (suc n) (option_yield expr_yield expression))) body)) (λ back. m.Plain ∷ stmts_marks (back + 1) body) (back + 1)
      (optional_alike expr_marks (expr_with g) (expr_alike g) (suc n) expression) (λ back. plain (stmts_alike g (suc (behind (suc n) (option_yield expr_yield expression))) (back + 1) body)))

  pub groups_alike : (g : Rewriting) (n : ℕ) (back : ℕ) (tree : GroupsTree) → Alike (groups_marks back (groups_with g n tree)) (groups_marks back tree)
  groups_alike g n back NoGroups = alike []
  groups_alike g n back (Groups group rest) = thens (λ back. groups_marks back (groups_with g (behind n (group_yield group)) rest)) (λ back. groups_marks back rest) back (group_alike g n back group) (λ back. groups_alike g (behind n (group_yield group)) back rest)

  pub catch_alike : (g : Rewriting) (n : ℕ) (tree : CatchTree) → Alike (catch_marks (catch_with g n tree)) (catch_marks tree)
  catch_alike g n (Catch word left fixed name id right body) = both (catch_head_alike g (behind (suc (suc n)) (option_yield tok_yield fixed)) fixed name) (block_alike g (suc (suc (behind (behind (suc (suc n)) (option_yield tok_yield fixed)) (name_yield name)))) o.Block body)

  pub catches_alike : (g : Rewriting) (n : ℕ) (tree : CatchesTree) → Alike (catches_marks (catches_with g n tree)) (catches_marks tree)
  catches_alike g n NoCatches = alike []
  catches_alike g n (Catches first rest) = both (catch_alike g n first) ((catches_alike g (behind n (catch_yield first)) rest))

  pub last_alike : (g : Rewriting) (n : ℕ) (tree : LastTree) → Alike (last_marks (last_with g n tree)) (last_marks tree)
  last_alike g n NoLast = alike []
  last_alike g n (Last word body) = plain (block_alike g (suc n) o.Block body)
