-- What each form of statement shows as a tree: one equation for each.
use Rattle.std.proofs.Common.{◌≡◌, List, [], ◌∷◌, Option, Some, None, map, option_map, refl, sym, ap, ◌∙◌}
use Rattle.std.specs.declared.alloc.Global.{Global}
use Rattle.std.specs.declared.boxed.Box.{Box}
use Rattle.rf_jtree.specs.declared.exprs.Expr.{Expr}
use Rattle.rf_jtree.specs.declared.stmts.Block.{Block, roll-Block, out-Block, fold-roll-Block, roll-out-Block}
use Rattle.rf_jtree.specs.declared.stmts.Catch.{Catch, roll-Catch, out-Catch, fold-roll-Catch, roll-out-Catch}
use Rattle.rf_jtree.specs.declared.stmts.EachHead.{EachHead}
use Rattle.rf_jtree.specs.declared.stmts.ForHead.{ForHead}
use Rattle.rf_jtree.specs.declared.stmts.Group.{Group, roll-Group, out-Group, fold-roll-Group, roll-out-Group}
use Rattle.rf_jtree.specs.declared.stmts.Head.{Head}
use Rattle.rf_jtree.specs.declared.stmts.Local.{Local}
use Rattle.rf_jtree.specs.declared.stmts.Stmt.{Stmt, fold-roll-Stmt}
use Rattle.rf_jtree.specs.declared.stmts.Stmt.TheOpen.{Stmt-F, Block-F, Catch-F, Group-F}
use Rattle.rf_jtree.specs.declared.stmts.Stmt.TheVariants as s
use Rattle.rf_jtree.specs.declared.tokens.Tok.{Tok}
use Rattle.rf_jtree.specs.NameShown.{name_shown}
use Rattle.rf_jtree.specs.StmtTrees.{StmtTree, BlockTree, CatchTree, GroupTree}
use Rattle.rf_jtree.specs.StmtTrees as t
use Rattle.rf_jtree.specs.StmtShown.{stmt_layer, block_layer, catch_layer, group_layer, stmts_tree, groups_tree, catches_tree}
use Rattle.rf_jtree.specs.StmtShown.{boxed_expr_shown, optional_expr_shown, if_tree, while_tree, do_tree, for_tree, each_tree, switch_tree, sync_tree}
use Rattle.rf_jtree.specs.StmtShown.{local_shown, message_shown, stmt_shown, block_shown, catch_shown, group_shown, stmts_shown, other_shown, groups_shown, catches_shown, last_shown}

-- lists of parts, each shown
stmts_shown-map : (stmts : List Stmt) → stmts_tree (map stmt_shown stmts) ≡ stmts_shown stmts
stmts_shown-map [] = refl
stmts_shown-map (stmt ∷ rest) = ap (t.Stmts (stmt_shown stmt)) (stmts_shown-map rest)

groups_shown-map : (groups : List Group) → groups_tree (map group_shown groups) ≡ groups_shown groups
groups_shown-map [] = refl
groups_shown-map (group ∷ rest) = ap (t.Groups (group_shown group)) (groups_shown-map rest)

catches_shown-map : (catches : List Catch) → catches_tree (map catch_shown catches) ≡ catches_shown catches
catches_shown-map [] = refl
catches_shown-map (first ∷ rest) = ap (t.Catches (catch_shown first)) (catches_shown-map rest)

pub stmt_shown-Block : (block : Block) → stmt_shown (s.Block block) ≡ t.Block (block_shown block)
unfolding stmt_shown block_shown
stmt_shown-Block block = ap stmt_shown (sym (s.rolls-Block block)) ∙ fold-roll-Stmt StmtTree BlockTree CatchTree GroupTree stmt_layer block_layer catch_layer group_layer (Stmt-F.Block block)

pub stmt_shown-Empty : (semi : Tok) → stmt_shown (s.Empty semi) ≡ t.Empty semi
unfolding stmt_shown
stmt_shown-Empty semi = ap stmt_shown (sym (s.rolls-Empty semi)) ∙ fold-roll-Stmt StmtTree BlockTree CatchTree GroupTree stmt_layer block_layer catch_layer group_layer (Stmt-F.Empty semi)

pub stmt_shown-Local : (local : Box Local Global) (semi : Tok) → stmt_shown (s.Local local semi) ≡ t.StmtTree.Local (local_shown local.value) semi
unfolding stmt_shown
stmt_shown-Local local semi = ap stmt_shown (sym (s.rolls-Local local semi)) ∙ fold-roll-Stmt StmtTree BlockTree CatchTree GroupTree stmt_layer block_layer catch_layer group_layer (Stmt-F.Local local semi)

pub stmt_shown-Label : (id colon : Tok) (body : Box Stmt Global) → stmt_shown (s.Label id colon body) ≡ t.Label id colon (stmt_shown body.value)
unfolding stmt_shown
stmt_shown-Label id colon body = ap stmt_shown (sym (s.rolls-Label id colon body)) ∙ fold-roll-Stmt StmtTree BlockTree CatchTree GroupTree stmt_layer block_layer catch_layer group_layer (Stmt-F.Label id colon body)

pub stmt_shown-Expression : (expression : Box Expr Global) (semi : Tok) → stmt_shown (s.Expression expression semi) ≡ t.Expression (boxed_expr_shown expression) semi
unfolding stmt_shown
stmt_shown-Expression expression semi = ap stmt_shown (sym (s.rolls-Expression expression semi)) ∙ fold-roll-Stmt StmtTree BlockTree CatchTree GroupTree stmt_layer block_layer catch_layer group_layer (Stmt-F.Expression expression semi)

pub stmt_shown-If : (head : Box Head Global) (then : Box Stmt Global) (other : Option (Tok × Box Stmt Global)) → stmt_shown (s.If head then other) ≡ if_tree head.value (stmt_shown then.value) (other_shown other)
unfolding stmt_shown
stmt_shown-If head then None = ap stmt_shown (sym (s.rolls-If head then None)) ∙ fold-roll-Stmt StmtTree BlockTree CatchTree GroupTree stmt_layer block_layer catch_layer group_layer (Stmt-F.If head then None)
stmt_shown-If head then (Some other) = ap stmt_shown (sym (s.rolls-If head then (Some other))) ∙ fold-roll-Stmt StmtTree BlockTree CatchTree GroupTree stmt_layer block_layer catch_layer group_layer (Stmt-F.If head then (Some other))

pub stmt_shown-While : (head : Box Head Global) (body : Box Stmt Global) → stmt_shown (s.While head body) ≡ while_tree head.value (stmt_shown body.value)
unfolding stmt_shown
stmt_shown-While head body = ap stmt_shown (sym (s.rolls-While head body)) ∙ fold-roll-Stmt StmtTree BlockTree CatchTree GroupTree stmt_layer block_layer catch_layer group_layer (Stmt-F.While head body)

pub stmt_shown-Do : (word : Tok) (body : Box Stmt Global) (until : Box Head Global) (semi : Tok) → stmt_shown (s.Do word body until semi) ≡ do_tree word (stmt_shown body.value) until.value semi
unfolding stmt_shown
stmt_shown-Do word body until semi = ap stmt_shown (sym (s.rolls-Do word body until semi)) ∙ fold-roll-Stmt StmtTree BlockTree CatchTree GroupTree stmt_layer block_layer catch_layer group_layer (Stmt-F.Do word body until semi)

pub stmt_shown-For : (head : Box ForHead Global) (body : Box Stmt Global) → stmt_shown (s.For head body) ≡ for_tree head.value (stmt_shown body.value)
unfolding stmt_shown
stmt_shown-For head body = ap stmt_shown (sym (s.rolls-For head body)) ∙ fold-roll-Stmt StmtTree BlockTree CatchTree GroupTree stmt_layer block_layer catch_layer group_layer (Stmt-F.For head body)

pub stmt_shown-Each : (head : Box EachHead Global) (body : Box Stmt Global) → stmt_shown (s.Each head body) ≡ each_tree head.value (stmt_shown body.value)
unfolding stmt_shown
stmt_shown-Each head body = ap stmt_shown (sym (s.rolls-Each head body)) ∙ fold-roll-Stmt StmtTree BlockTree CatchTree GroupTree stmt_layer block_layer catch_layer group_layer (Stmt-F.Each head body)

pub stmt_shown-Switch : (head : Box Head Global) (brace : Tok) (groups : List Group) (end : Tok) → stmt_shown (s.Switch head brace groups end) ≡ switch_tree head.value brace (groups_shown groups) end
unfolding stmt_shown group_shown
stmt_shown-Switch head brace groups end = ap stmt_shown (sym (s.rolls-Switch head brace groups end)) ∙ fold-roll-Stmt StmtTree BlockTree CatchTree GroupTree stmt_layer block_layer catch_layer group_layer (Stmt-F.Switch head brace groups end) ∙ ap (λ shown. switch_tree head.value brace shown end) (groups_shown-map groups)

pub stmt_shown-Jump : (word : Tok) (label : Option Tok) (semi : Tok) → stmt_shown (s.Jump word label semi) ≡ t.Jump word label semi
unfolding stmt_shown
stmt_shown-Jump word label semi = ap stmt_shown (sym (s.rolls-Jump word label semi)) ∙ fold-roll-Stmt StmtTree BlockTree CatchTree GroupTree stmt_layer block_layer catch_layer group_layer (Stmt-F.Jump word label semi)

pub stmt_shown-Return : (word : Tok) (expression : Option (Box Expr Global)) (semi : Tok) → stmt_shown (s.Return word expression semi) ≡ t.Return word (optional_expr_shown expression) semi
unfolding stmt_shown
stmt_shown-Return word expression semi = ap stmt_shown (sym (s.rolls-Return word expression semi)) ∙ fold-roll-Stmt StmtTree BlockTree CatchTree GroupTree stmt_layer block_layer catch_layer group_layer (Stmt-F.Return word expression semi)

pub stmt_shown-Throw : (word : Tok) (expression : Box Expr Global) (semi : Tok) → stmt_shown (s.Throw word expression semi) ≡ t.Throw word (boxed_expr_shown expression) semi
unfolding stmt_shown
stmt_shown-Throw word expression semi = ap stmt_shown (sym (s.rolls-Throw word expression semi)) ∙ fold-roll-Stmt StmtTree BlockTree CatchTree GroupTree stmt_layer block_layer catch_layer group_layer (Stmt-F.Throw word expression semi)

pub stmt_shown-Sync : (head : Box Head Global) (body : Box Block Global) → stmt_shown (s.Sync head body) ≡ sync_tree head.value (block_shown body.value)
unfolding stmt_shown block_shown
stmt_shown-Sync head body = ap stmt_shown (sym (s.rolls-Sync head body)) ∙ fold-roll-Stmt StmtTree BlockTree CatchTree GroupTree stmt_layer block_layer catch_layer group_layer (Stmt-F.Sync head body)

pub stmt_shown-Assert : (word : Tok) (test : Box Expr Global) (message : Option (Tok × Box Expr Global)) (semi : Tok) → stmt_shown (s.Assert word test message semi) ≡ t.Assert word (boxed_expr_shown test) (option_map message_shown message) semi
unfolding stmt_shown
stmt_shown-Assert word test message semi = ap stmt_shown (sym (s.rolls-Assert word test message semi)) ∙ fold-roll-Stmt StmtTree BlockTree CatchTree GroupTree stmt_layer block_layer catch_layer group_layer (Stmt-F.Assert word test message semi)

pub stmt_shown-Try : (word : Tok) (body : Box Block Global) (catches : List Catch) (last : Option (Tok × Box Block Global)) → stmt_shown (s.Try word body catches last) ≡ t.Try word (block_shown body.value) (catches_shown catches) (last_shown last)
unfolding stmt_shown block_shown catch_shown
stmt_shown-Try word body catches None = ap stmt_shown (sym (s.rolls-Try word body catches None)) ∙ fold-roll-Stmt StmtTree BlockTree CatchTree GroupTree stmt_layer block_layer catch_layer group_layer (Stmt-F.Try word body catches None) ∙ ap (λ shown. t.Try word (block_shown body.value) shown t.NoLast) (catches_shown-map catches)
stmt_shown-Try word body catches (Some last) = ap stmt_shown (sym (s.rolls-Try word body catches (Some last))) ∙ fold-roll-Stmt StmtTree BlockTree CatchTree GroupTree stmt_layer block_layer catch_layer group_layer (Stmt-F.Try word body catches (Some last)) ∙ ap (λ shown. t.Try word (block_shown body.value) shown (t.Last last.0 (block_shown last.1.value))) (catches_shown-map catches)

-- statements in braces
block_shown-parts : (left : Tok) (list : List Stmt) (right : Tok) → block_shown (roll-Block record { left = left; list = list; right = right }) ≡ t.Braces left (stmts_shown list) right
unfolding stmt_shown block_shown
block_shown-parts left list right = fold-roll-Block StmtTree BlockTree CatchTree GroupTree stmt_layer block_layer catch_layer group_layer record { left = left; list = list; right = right } ∙ ap (λ shown. t.Braces left shown right) (stmts_shown-map list)

pub block_shown-roll : (block : Block-F Stmt Block Catch Group) → block_shown (roll-Block block) ≡ t.Braces block.left (stmts_shown block.list) block.right
block_shown-roll block = block_shown-parts block.left block.list block.right

pub block_shown_out : (block : Block) → block_shown block ≡ t.Braces (out-Block block).left (stmts_shown (out-Block block).list) (out-Block block).right
block_shown_out block = ap block_shown (sym (roll-out-Block block)) ∙ block_shown-roll (out-Block block)

-- catch clauses
pub catch_shown-roll : (part : Catch-F Stmt Block Catch Group) → catch_shown (roll-Catch part) ≡ t.Catch part.word part.left part.fixed (name_shown part.name) part.id part.right (block_shown part.body)
unfolding block_shown catch_shown
catch_shown-roll part = fold-roll-Catch StmtTree BlockTree CatchTree GroupTree stmt_layer block_layer catch_layer group_layer part

pub catch_shown_out : (part : Catch) → catch_shown part ≡ t.Catch (out-Catch part).word (out-Catch part).left (out-Catch part).fixed (name_shown (out-Catch part).name) (out-Catch part).id (out-Catch part).right (block_shown (out-Catch part).body)
catch_shown_out part = ap catch_shown (sym (roll-out-Catch part)) ∙ catch_shown-roll (out-Catch part)

-- groups of a `switch`
group_shown-parts : (word : Tok) (expression : Option (Box Expr Global)) (colon : Tok) (body : List Stmt) → group_shown (roll-Group record { word = word; expression = expression; colon = colon; body = body }) ≡ t.Group word (optional_expr_shown expression) colon (stmts_shown body)
unfolding stmt_shown group_shown
group_shown-parts word expression colon body = fold-roll-Group StmtTree BlockTree CatchTree GroupTree stmt_layer block_layer catch_layer group_layer record { word = word; expression = expression; colon = colon; body = body } ∙ ap (t.Group word (optional_expr_shown expression) colon) (stmts_shown-map body)

pub group_shown-roll : (group : Group-F Stmt Block Catch Group) → group_shown (roll-Group group) ≡ t.Group group.word (optional_expr_shown group.expression) group.colon (stmts_shown group.body)
group_shown-roll group = group_shown-parts group.word group.expression group.colon group.body

pub group_shown_out : (group : Group) → group_shown group ≡ t.Group (out-Group group).word (optional_expr_shown (out-Group group).expression) (out-Group group).colon (stmts_shown (out-Group group).body)
group_shown_out group = ap group_shown (sym (roll-out-Group group)) ∙ group_shown-roll (out-Group group)

-- all of them
pub ruleset stmt_shows = (stmt_shown-Block, stmt_shown-Empty, stmt_shown-Local, stmt_shown-Label, stmt_shown-Expression, stmt_shown-If, stmt_shown-While, stmt_shown-Do, stmt_shown-For, stmt_shown-Each, stmt_shown-Switch, stmt_shown-Jump, stmt_shown-Return, stmt_shown-Throw, stmt_shown-Sync, stmt_shown-Assert, stmt_shown-Try, block_shown-roll, catch_shown-roll, group_shown-roll)
