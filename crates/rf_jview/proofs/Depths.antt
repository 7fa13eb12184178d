-- A file is as deep where it is rewritten.
use Rattle.std.proofs.Common.{◌≡◌, ℕ, suc, max, List, [], ◌∷◌, Option, Some, None, refl, ap, ◌∙◌}
use Rattle.rf_jtree.specs.declared.tokens.Tok.{Tok}
use Rattle.rf_jtree.specs.DeclTrees.{BodyTree, Block, MemberTree, Init, Ctor, Method, Field, UnitTree, body_depth, member_depth, unit_depth}
use Rattle.rf_jtree.specs.DeclTrees.{names_yield, params_yield, ctor_call_yield, member_yield}
use Rattle.rf_jtree.specs.ExprTrees.{ExprTree, Assign, Cond, Binary, Instance, Unary, Cast, Postfix, Lit, This, Paren, Name, Call, Field, Super, New, Index, NewArray, NewInit}
use Rattle.rf_jtree.specs.ExprTrees.{OnTree, NoOn, On, ArgsTree, Args, SuperArgsTree, NoArgs, SuperArgs, ExprsTree, NoExprs, Exprs, MoreExprsTree, NoMoreExprs, MoreExprs, SizesTree, NoSizes, Sizes}
use Rattle.rf_jtree.specs.ExprTrees.{InitTree, Expression, Braced, BracesTree, Braces, InitsTree, NoInits, Inits, MoreInitsTree, NoMoreInits, MoreInits}
use Rattle.rf_jtree.specs.ExprTrees.{expr_yield, on_yield, exprs_yield, init_yield, expr_depth, on_depth, args_depth, super_args_depth, exprs_depth, more_exprs_depth, sizes_depth, init_depth, braces_depth, inits_depth, more_inits_depth}
use Rattle.rf_jtree.specs.NameTrees.{ManyTree, name_yield, base_yield, type_yield, dims_yield, mods_yield, option_yield, tok_yield, option_depth, list_depth, many_depth}
use Rattle.rf_jtree.specs.StmtTrees.{VarTree, LocalTree, ForFirstTree, StmtTree, Empty, Label, If, While, Do, For, Each, Switch, Jump, Return, Throw, Sync, Assert, Try}
use Rattle.rf_jtree.specs.StmtTrees as s
use Rattle.rf_jtree.specs.StmtTrees.{BlockTree, StmtsTree, NoStmts, Stmts, OtherTree, NoOther, Other, GroupTree, Group, GroupsTree, NoGroups, Groups, CatchTree, Catch, CatchesTree, NoCatches, Catches, LastTree, NoLast, Last}
use Rattle.rf_jtree.specs.StmtTrees.{var_yield, local_yield, first_yield, stmt_yield, block_yield, stmts_yield, group_yield, catch_yield, catches_yield}
use Rattle.rf_jtree.specs.StmtTrees.{var_depth, local_depth, first_depth, stmt_depth, block_depth, stmts_depth, other_depth, group_depth, groups_depth, catch_depth, catches_depth, last_depth}
use Rattle.rf_jview.specs.DeclWith.{ctor_call_with, body_with, member_with, unit_with}
use Rattle.rf_jview.specs.ExprWith.{expr_with, on_with, args_with, super_args_with, exprs_with, more_exprs_with, sizes_with, init_with, braces_with, inits_with, more_inits_with}
use Rattle.rf_jview.specs.Rewritings.{Rewriting, behind, option_with, behind_with, list_with, rest_with, many_with}
use Rattle.rf_jview.specs.StmtWith.{var_with, local_with, first_with, stmt_with, block_with, stmts_with, other_with, group_with, groups_with, catch_with, catches_with, last_with}

option_depth-with : {A : Type 0} (depth : A → ℕ) (change : ℕ → A → A) → ((n : ℕ) (part : A) → depth (change n part) ≡ depth part) → (n : ℕ) (part : Option A)
    → option_depth depth (option_with change n part) ≡ option_depth depth part
option_depth-with depth change each n None = refl
option_depth-with depth change each n (Some part) = each n part

list_depth-with : {A : Type 0} (yield : A → List Tok) (depth : A → ℕ) (change : ℕ → A → A) → ((n : ℕ) (part : A) → depth (change n part) ≡ depth part)
    → (n : ℕ) (parts : List A) → list_depth depth (list_with yield change n parts) ≡ list_depth depth parts
list_depth-with yield depth change each n [] = refl
list_depth-with yield depth change each n (part ∷ parts) =
    ap (λ d. max d (list_depth depth (list_with yield change (behind n (yield part)) parts))) (each n part)
    ∙ ap (max (depth part)) (list_depth-with yield depth change each (behind n (yield part)) parts)

rest_depth-with : {A : Type 0} (yield : A → List Tok) (depth : A → ℕ) (change : ℕ → A → A) → ((n : ℕ) (part : A) → depth (change n part) ≡ depth part)
    → (n : ℕ) (rest : List (Tok × A)) → list_depth (λ item. depth item.1) (rest_with yield change n rest) ≡ list_depth (λ item. depth item.1) rest
rest_depth-with yield depth change each n [] = refl
rest_depth-with yield depth change each n (item ∷ rest) =
    ap (λ d. max d (list_depth (λ item. depth item.1) (rest_with yield change (behind (suc n) (yield item.1)) rest))) (each (suc n) item.1)
    ∙ ap (max (depth item.1)) (rest_depth-with yield depth change each (behind (suc n) (yield item.1)) rest)

many_depth-with : {A : Type 0} (yield : A → List Tok) (depth : A → ℕ) (change : ℕ → A → A) → ((n : ℕ) (part : A) → depth (change n part) ≡ depth part)
    → (n : ℕ) (many : ManyTree A) → many_depth depth (many_with yield change n many) ≡ many_depth depth many
many_depth-with yield depth change each n many =
    ap (λ d. max d (list_depth (λ item. depth item.1) (rest_with yield change (behind n (yield many.first)) many.rest))) (each n many.first)
    ∙ ap (max (depth many.first)) (rest_depth-with yield depth change each (behind n (yield many.first)) many.rest)

mutual
  pub expr_depth-with : (g : Rewriting) (n : ℕ) (tree : ExprTree) → expr_depth (expr_with g n tree) ≡ expr_depth tree
  expr_depth-with g n (Assign left op operand) = rw (expr_depth-with g n left, expr_depth-with g (suc (behind n (expr_yield left))) operand) refl
  expr_depth-with g n (Cond test mark then colon other) = rw (expr_depth-with g n test, expr_depth-with g (suc (behind n (expr_yield test))) then, expr_depth-with g (suc (behind (suc (behind n (expr_yield test))) (expr_yield then))) other) refl
  expr_depth-with g n (Binary left op right) = rw (expr_depth-with g n left, expr_depth-with g (suc (behind n (expr_yield left))) right) refl
  expr_depth-with g n (Instance operand word used_type) = rw (expr_depth-with g n operand) refl
  expr_depth-with g n (Unary op operand) = rw (expr_depth-with g (suc n) operand) refl
  expr_depth-with g n (Cast left used_type right operand) = rw (expr_depth-with g (suc (behind (suc n) (type_yield used_type))) operand) refl
  expr_depth-with g n (Postfix operand op) = rw (expr_depth-with g n operand) refl
  expr_depth-with g n (Lit tok) = refl
  expr_depth-with g n (This tok) = refl
  expr_depth-with g n (Paren left operand right) = rw (expr_depth-with g (suc n) operand) refl
  expr_depth-with g n (Name name) = refl
  expr_depth-with g n (Call on id args) = rw (on_depth-with g n on, args_depth-with g (suc (behind n (on_yield on))) args) refl
  expr_depth-with g n (Field operand dot id) = rw (expr_depth-with g n operand) refl
  expr_depth-with g n (Super word dot id args) = rw (super_args_depth-with g (suc (suc (suc n))) args) refl
  expr_depth-with g n (New word name args) = rw (args_depth-with g (behind (suc n) (name_yield name)) args) refl
  expr_depth-with g n (Index operand left index right) = rw (expr_depth-with g n operand, expr_depth-with g (suc (behind n (expr_yield operand))) index) refl
  expr_depth-with g n (NewArray word base sizes dims) = rw (sizes_depth-with g (behind (suc n) (base_yield base)) sizes) refl
  expr_depth-with g n (NewInit word base dims init) = rw (braces_depth-with g (behind (behind (suc n) (base_yield base)) (dims_yield dims)) init) refl

  pub on_depth-with : (g : Rewriting) (n : ℕ) (tree : OnTree) → on_depth (on_with g n tree) ≡ on_depth tree
  on_depth-with g n NoOn = refl
  on_depth-with g n (On operand dot) = rw (expr_depth-with g n operand) refl

  pub args_depth-with : (g : Rewriting) (n : ℕ) (tree : ArgsTree) → args_depth (args_with g n tree) ≡ args_depth tree
  args_depth-with g n (Args left list right) = rw (exprs_depth-with g (suc n) list) refl

  pub super_args_depth-with : (g : Rewriting) (n : ℕ) (tree : SuperArgsTree) → super_args_depth (super_args_with g n tree) ≡ super_args_depth tree
  super_args_depth-with g n NoArgs = refl
  super_args_depth-with g n (SuperArgs args) = rw (args_depth-with g n args) refl

  pub exprs_depth-with : (g : Rewriting) (n : ℕ) (tree : ExprsTree) → exprs_depth (exprs_with g n tree) ≡ exprs_depth tree
  exprs_depth-with g n NoExprs = refl
  exprs_depth-with g n (Exprs first rest) = rw (expr_depth-with g n first, more_exprs_depth-with g (behind n (expr_yield first)) rest) refl

  pub more_exprs_depth-with : (g : Rewriting) (n : ℕ) (tree : MoreExprsTree) → more_exprs_depth (more_exprs_with g n tree) ≡ more_exprs_depth tree
  more_exprs_depth-with g n NoMoreExprs = refl
  more_exprs_depth-with g n (MoreExprs comma expr rest) = rw (expr_depth-with g (suc n) expr, more_exprs_depth-with g (behind (suc n) (expr_yield expr)) rest) refl

  pub sizes_depth-with : (g : Rewriting) (n : ℕ) (tree : SizesTree) → sizes_depth (sizes_with g n tree) ≡ sizes_depth tree
  sizes_depth-with g n NoSizes = refl
  sizes_depth-with g n (Sizes left size right rest) = rw (expr_depth-with g (suc n) size, sizes_depth-with g (suc (behind (suc n) (expr_yield size))) rest) refl

  pub init_depth-with : (g : Rewriting) (n : ℕ) (tree : InitTree) → init_depth (init_with g n tree) ≡ init_depth tree
  init_depth-with g n (Expression operand) = rw (expr_depth-with g n operand) refl
  init_depth-with g n (Braced braces) = rw (braces_depth-with g n braces) refl

  pub braces_depth-with : (g : Rewriting) (n : ℕ) (tree : BracesTree) → braces_depth (braces_with g n tree) ≡ braces_depth tree
  braces_depth-with g n (Braces left items comma right) = rw (inits_depth-with g (suc n) items) refl

  pub inits_depth-with : (g : Rewriting) (n : ℕ) (tree : InitsTree) → inits_depth (inits_with g n tree) ≡ inits_depth tree
  inits_depth-with g n NoInits = refl
  inits_depth-with g n (Inits first rest) = rw (init_depth-with g n first, more_inits_depth-with g (behind n (init_yield first)) rest) refl

  pub more_inits_depth-with : (g : Rewriting) (n : ℕ) (tree : MoreInitsTree) → more_inits_depth (more_inits_with g n tree) ≡ more_inits_depth tree
  more_inits_depth-with g n NoMoreInits = refl
  more_inits_depth-with g n (MoreInits comma init rest) = rw (init_depth-with g (suc n) init, more_inits_depth-with g (behind (suc n) (init_yield init)) rest) refl

-- variables and local declarations
var_depth-with : (g : Rewriting) (n : ℕ) (var : VarTree) → var_depth (var_with g n var) ≡ var_depth var
var_depth-with g n var =
    option_depth-with (λ init. init_depth init.1) (behind_with (init_with g)) (λ n part. init_depth-with g (suc n) part.1) (behind (suc n) (dims_yield var.dims)) var.init

local_depth-with : (g : Rewriting) (n : ℕ) (local : LocalTree) → local_depth (local_with g n local) ≡ local_depth local
local_depth-with g n local = many_depth-with var_yield var_depth (var_with g) (var_depth-with g) (behind (behind n (mods_yield local.mods)) (type_yield local.used_type)) local.vars

first_depth-with : (g : Rewriting) (n : ℕ) (first : ForFirstTree) → first_depth (first_with g n first) ≡ first_depth first
first_depth-with g n (ForFirstTree.Local local) = local_depth-with g n local
first_depth-with g n (ForFirstTree.Exprs exprs) = exprs_depth-with g n exprs

mutual
  pub stmt_depth-with : (g : Rewriting) (n : ℕ) (tree : StmtTree) → stmt_depth (stmt_with g n tree) ≡ stmt_depth tree
  stmt_depth-with g n (s.Block block) = rw (block_depth-with g n block) refl
  stmt_depth-with g n (Empty semi) = refl
  stmt_depth-with g n (StmtTree.Local local semi) = rw (local_depth-with g n local) refl
  stmt_depth-with g n (Label id colon body) = rw (stmt_depth-with g (suc (suc n)) body) refl
  stmt_depth-with g n (s.StmtTree.Expression operand semi) = rw (expr_depth-with g n operand) refl
  stmt_depth-with g n (If word left test right then other) = rw (expr_depth-with g (suc (suc n)) test, stmt_depth-with g (suc (behind (suc (suc n)) (expr_yield test))) then, other_depth-with g (behind (suc (behind (suc (suc n)) (expr_yield test))) (stmt_yield then)) other) refl
  stmt_depth-with g n (While word left test right body) = rw (expr_depth-with g (suc (suc n)) test, stmt_depth-with g (suc (behind (suc (suc n)) (expr_yield test))) body) refl
  stmt_depth-with g n (Do word body until left test right semi) = rw (stmt_depth-with g (suc n) body, expr_depth-with g (suc (suc (behind (suc n) (stmt_yield body)))) test) refl
  stmt_depth-with g n (For word left first semi1 test semi2 last right body) = rw (first_depth-with g (suc (suc n)) first, option_depth-with expr_depth (expr_with g) (expr_depth-with g) (suc (behind (suc (suc n)) (first_yield first))) test, exprs_depth-with g (suc (behind (suc (behind (suc (suc n)) (first_yield first))) (option_yield expr_yield test))) last, stmt_depth-with g (suc (behind (suc (behind (suc (behind (suc (suc n)) (first_yield first))) (option_yield expr_yield test))) (exprs_yield last))) body) refl
  stmt_depth-with g n (Each word left mods used_type id colon over right body) = rw (expr_depth-with g (suc (suc (behind (behind (suc (suc n)) (mods_yield mods)) (type_yield used_type)))) over, stmt_depth-with g (suc (behind (suc (suc (behind (behind (suc (suc n)) (mods_yield mods)) (type_yield used_type)))) (expr_yield over))) body) refl
  stmt_depth-with g n (Switch word left on right brace groups end) = rw (expr_depth-with g (suc (suc n)) on, groups_depth-with g (suc (suc (behind (suc (suc n)) (expr_yield on)))) groups) refl
  stmt_depth-with g n (Jump word label semi) = refl
  stmt_depth-with g n (Return word operand semi) = rw (option_depth-with expr_depth (expr_with g) (expr_depth-with g) (suc n) operand) refl
  stmt_depth-with g n (Throw word operand semi) = rw (expr_depth-with g (suc n) operand) refl
  stmt_depth-with g n (Sync word left on right body) = rw (expr_depth-with g (suc (suc n)) on, block_depth-with g (suc (behind (suc (suc n)) (expr_yield on))) body) refl
  stmt_depth-with g n (Assert word test message semi) = rw (expr_depth-with g (suc n) test, option_depth-with (λ part. expr_depth part.1) (behind_with (expr_with g)) (λ n part. expr_depth-with g (suc n) part.1) (behind (suc n) (expr_yield test)) message) refl
  stmt_depth-with g n (Try word body catches last) = rw (block_depth-with g (suc n) body, catches_depth-with g (behind (suc n) (block_yield body)) catches, last_depth-with g (behind (behind (suc n) (block_yield body)) (catches_yield catches)) last) refl

  pub block_depth-with : (g : Rewriting) (n : ℕ) (tree : BlockTree) → block_depth (block_with g n tree) ≡ block_depth tree
  block_depth-with g n (s.Braces left list right) = rw (stmts_depth-with g (suc n) list) refl

  pub stmts_depth-with : (g : Rewriting) (n : ℕ) (tree : StmtsTree) → stmts_depth (stmts_with g n tree) ≡ stmts_depth tree
  stmts_depth-with g n NoStmts = refl
  stmts_depth-with g n (Stmts stmt rest) = rw (stmt_depth-with g n stmt, stmts_depth-with g (behind n (stmt_yield stmt)) rest) refl

  pub other_depth-with : (g : Rewriting) (n : ℕ) (tree : OtherTree) → other_depth (other_with g n tree) ≡ other_depth tree
  other_depth-with g n NoOther = refl
  other_depth-with g n (Other word stmt) = rw (stmt_depth-with g (suc n) stmt) refl

  pub group_depth-with : (g : Rewriting) (n : ℕ) (tree : GroupTree) → group_depth (group_with g n tree) ≡ group_depth tree
  group_depth-with g n (Group word operand colon body) = rw (option_depth-with expr_depth (expr_with g) (expr_depth-with g) (suc n) operand, stmts_depth-with g (suc (behind (suc n) (option_yield expr_yield operand))) body) refl

  pub groups_depth-with : (g : Rewriting) (n : ℕ) (tree : GroupsTree) → groups_depth (groups_with g n tree) ≡ groups_depth tree
  groups_depth-with g n NoGroups = refl
  groups_depth-with g n (Groups group rest) = rw (group_depth-with g n group, groups_depth-with g (behind n (group_yield group)) rest) refl

  pub catch_depth-with : (g : Rewriting) (n : ℕ) (tree : CatchTree) → catch_depth (catch_with g n tree) ≡ catch_depth tree
  catch_depth-with g n (Catch word left fixed name id right body) = rw (block_depth-with g (suc (suc (behind (behind (suc (suc n)) (option_yield tok_yield fixed)) (name_yield name)))) body) refl

  pub catches_depth-with : (g : Rewriting) (n : ℕ) (tree : CatchesTree) → catches_depth (catches_with g n tree) ≡ catches_depth tree
  catches_depth-with g n NoCatches = refl
  catches_depth-with g n (Catches first rest) = rw (catch_depth-with g n first, catches_depth-with g (behind n (catch_yield first)) rest) refl

  pub last_depth-with : (g : Rewriting) (n : ℕ) (tree : LastTree) → last_depth (last_with g n tree) ≡ last_depth tree
  last_depth-with g n NoLast = refl
  last_depth-with g n (Last word body) = rw (block_depth-with g (suc n) body) refl

body_depth-with : (g : Rewriting) (n : ℕ) (body : BodyTree) → body_depth (body_with g n body) ≡ body_depth body
body_depth-with g n (Block block) = block_depth-with g n block
body_depth-with g n (BodyTree.Semi semi) = refl

member_depth-with : (g : Rewriting) (n : ℕ) (member : MemberTree) → member_depth (member_with g n member) ≡ member_depth member
member_depth-with g n (MemberTree.Semi semi) = refl
member_depth-with g n (Init word body) = block_depth-with g (behind n (option_yield tok_yield word)) body
member_depth-with g n (Ctor mods id params throws left call body right) =
    let before = suc (behind (behind (suc (behind n (mods_yield mods))) (params_yield params)) (names_yield throws)) in
    ap (λ d. max d (stmts_depth (stmts_with g (behind before (option_yield ctor_call_yield call)) body)))
    (option_depth-with (λ call. args_depth call.args) (ctor_call_with g) (λ n call. args_depth-with g (suc n) call.args) before call)
    ∙ ap (max (option_depth (λ call. args_depth call.args) call)) (stmts_depth-with g (behind before (option_yield ctor_call_yield call)) body)
member_depth-with g n (Method mods ret id params throws body) = body_depth-with g _ body
member_depth-with g n (Field mods used_type vars semi) = many_depth-with var_yield var_depth (var_with g) (var_depth-with g) _ vars

pub unit_depth-with : (g : Rewriting) (n : ℕ) (unit : UnitTree) → unit_depth (unit_with g n unit) ≡ unit_depth unit
unit_depth-with g n unit = list_depth-with member_yield member_depth (member_with g) (member_depth-with g) _ unit.decl.members
