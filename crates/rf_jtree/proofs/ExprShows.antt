-- What each form of expression shows as a tree: one equation for each.
use Rattle.std.proofs.Common.{◌≡◌, List, [], ◌∷◌, Option, Some, None, map, refl, sym, ap, ◌∙◌}
use Rattle.std.specs.declared.alloc.Global.{Global}
use Rattle.std.specs.declared.boxed.Box.{Box}
use Rattle.rf_jtree.specs.declared.exprs.Args.{Args, roll-Args, out-Args, fold-roll-Args, roll-out-Args}
use Rattle.rf_jtree.specs.declared.exprs.Braces.{Braces, roll-Braces, out-Braces, fold-roll-Braces, roll-out-Braces}
use Rattle.rf_jtree.specs.declared.exprs.Expr.{Expr, fold-roll-Expr}
use Rattle.rf_jtree.specs.declared.exprs.Expr.TheOpen.{Expr-F, Args-F, Braces-F, Init-F}
use Rattle.rf_jtree.specs.declared.exprs.Expr.TheVariants as e
use Rattle.rf_jtree.specs.declared.exprs.Init.{Init, fold-roll-Init}
use Rattle.rf_jtree.specs.declared.exprs.Init.TheVariants as i
use Rattle.rf_jtree.specs.declared.names.Dims.{Dims}
use Rattle.rf_jtree.specs.declared.names.Many.{Many}
use Rattle.rf_jtree.specs.declared.names.Name.{Name}
use Rattle.rf_jtree.specs.declared.names.TypeBase.{TypeBase}
use Rattle.rf_jtree.specs.declared.names.TypeUse.{TypeUse}
use Rattle.rf_jtree.specs.declared.tokens.Tok.{Tok}
use Rattle.rf_jtree.specs.ExprTrees.{ExprTree, InitTree, ArgsTree, BracesTree}
use Rattle.rf_jtree.specs.ExprTrees as t
use Rattle.rf_jtree.specs.NameShown.{name_shown, base_shown, type_shown}
use Rattle.rf_jtree.specs.ExprShown.{expr_layer, init_layer, args_layer, braces_layer, more_exprs_tree, sizes_tree, more_inits_tree}
use Rattle.rf_jtree.specs.ExprShown.{expr_shown, init_shown, args_shown, braces_shown, on_shown, super_args_shown, exprs_shown, more_exprs_shown, sizes_shown, inits_shown, more_inits_shown}

-- lists of parts, each shown
more_exprs_shown-map : (rest : List (Tok × Expr)) → more_exprs_tree (map (λ item. (item.0, expr_shown item.1)) rest) ≡ more_exprs_shown rest
more_exprs_shown-map [] = refl
more_exprs_shown-map (item ∷ rest) = ap (t.MoreExprs item.0 (expr_shown item.1)) (more_exprs_shown-map rest)

sizes_shown-map : (sizes : List (Tok × Expr × Tok)) → sizes_tree (map (λ size. (size.0, expr_shown size.1, size.2)) sizes) ≡ sizes_shown sizes
sizes_shown-map [] = refl
sizes_shown-map (size ∷ rest) = ap (t.Sizes size.0 (expr_shown size.1) size.2) (sizes_shown-map rest)

more_inits_shown-map : (rest : List (Tok × Init)) → more_inits_tree (map (λ item. (item.0, init_shown item.1)) rest) ≡ more_inits_shown rest
more_inits_shown-map [] = refl
more_inits_shown-map (item ∷ rest) = ap (t.MoreInits item.0 (init_shown item.1)) (more_inits_shown-map rest)

pub expr_shown-Assign : (left : Box Expr Global) (op : Tok) (operand : Box Expr Global) → expr_shown (e.Assign left op operand) ≡ t.Assign (expr_shown left.value) op (expr_shown operand.value)
unfolding expr_shown
expr_shown-Assign left op operand = ap expr_shown (sym (e.rolls-Assign left op operand)) ∙ fold-roll-Expr ExprTree InitTree ArgsTree BracesTree expr_layer init_layer args_layer braces_layer (Expr-F.Assign left op operand)

pub expr_shown-Cond : (test : Box Expr Global) (mark : Box Tok Global) (first : Box Expr Global) (colon : Box Tok Global) (other : Box Expr Global) → expr_shown (e.Cond test mark first colon other) ≡ t.Cond (expr_shown test.value) mark.value (expr_shown first.value) colon.value (expr_shown other.value)
unfolding expr_shown
expr_shown-Cond test mark first colon other = ap expr_shown (sym (e.rolls-Cond test mark first colon other)) ∙ fold-roll-Expr ExprTree InitTree ArgsTree BracesTree expr_layer init_layer args_layer braces_layer (Expr-F.Cond test mark first colon other)

pub expr_shown-Binary : (left : Box Expr Global) (op : Tok) (right : Box Expr Global) → expr_shown (e.Binary left op right) ≡ t.Binary (expr_shown left.value) op (expr_shown right.value)
unfolding expr_shown
expr_shown-Binary left op right = ap expr_shown (sym (e.rolls-Binary left op right)) ∙ fold-roll-Expr ExprTree InitTree ArgsTree BracesTree expr_layer init_layer args_layer braces_layer (Expr-F.Binary left op right)

pub expr_shown-Instance : (operand : Box Expr Global) (word : Tok) (used_type : Box TypeUse Global) → expr_shown (e.Instance operand word used_type) ≡ t.Instance (expr_shown operand.value) word (type_shown used_type.value)
unfolding expr_shown
expr_shown-Instance operand word used_type = ap expr_shown (sym (e.rolls-Instance operand word used_type)) ∙ fold-roll-Expr ExprTree InitTree ArgsTree BracesTree expr_layer init_layer args_layer braces_layer (Expr-F.Instance operand word used_type)

pub expr_shown-Unary : (op : Tok) (operand : Box Expr Global) → expr_shown (e.Unary op operand) ≡ t.Unary op (expr_shown operand.value)
unfolding expr_shown
expr_shown-Unary op operand = ap expr_shown (sym (e.rolls-Unary op operand)) ∙ fold-roll-Expr ExprTree InitTree ArgsTree BracesTree expr_layer init_layer args_layer braces_layer (Expr-F.Unary op operand)

pub expr_shown-Cast : (left : Tok) (used_type : Box TypeUse Global) (right : Box Tok Global) (operand : Box Expr Global) → expr_shown (e.Cast left used_type right operand) ≡ t.Cast left (type_shown used_type.value) right.value (expr_shown operand.value)
unfolding expr_shown
expr_shown-Cast left used_type right operand = ap expr_shown (sym (e.rolls-Cast left used_type right operand)) ∙ fold-roll-Expr ExprTree InitTree ArgsTree BracesTree expr_layer init_layer args_layer braces_layer (Expr-F.Cast left used_type right operand)

pub expr_shown-Postfix : (operand : Box Expr Global) (op : Tok) → expr_shown (e.Postfix operand op) ≡ t.Postfix (expr_shown operand.value) op
unfolding expr_shown
expr_shown-Postfix operand op = ap expr_shown (sym (e.rolls-Postfix operand op)) ∙ fold-roll-Expr ExprTree InitTree ArgsTree BracesTree expr_layer init_layer args_layer braces_layer (Expr-F.Postfix operand op)

pub expr_shown-Lit : (tok : Tok) → expr_shown (e.Lit tok) ≡ t.Lit tok
unfolding expr_shown
expr_shown-Lit tok = ap expr_shown (sym (e.rolls-Lit tok)) ∙ fold-roll-Expr ExprTree InitTree ArgsTree BracesTree expr_layer init_layer args_layer braces_layer (Expr-F.Lit tok)

pub expr_shown-This : (tok : Tok) → expr_shown (e.This tok) ≡ t.This tok
unfolding expr_shown
expr_shown-This tok = ap expr_shown (sym (e.rolls-This tok)) ∙ fold-roll-Expr ExprTree InitTree ArgsTree BracesTree expr_layer init_layer args_layer braces_layer (Expr-F.This tok)

pub expr_shown-Paren : (left : Tok) (operand : Box Expr Global) (right : Box Tok Global) → expr_shown (e.Paren left operand right) ≡ t.Paren left (expr_shown operand.value) right.value
unfolding expr_shown
expr_shown-Paren left operand right = ap expr_shown (sym (e.rolls-Paren left operand right)) ∙ fold-roll-Expr ExprTree InitTree ArgsTree BracesTree expr_layer init_layer args_layer braces_layer (Expr-F.Paren left operand right)

pub expr_shown-Name : (name : Name) → expr_shown (e.Name name) ≡ t.Name (name_shown name)
unfolding expr_shown
expr_shown-Name name = ap expr_shown (sym (e.rolls-Name name)) ∙ fold-roll-Expr ExprTree InitTree ArgsTree BracesTree expr_layer init_layer args_layer braces_layer (Expr-F.Name name)

pub expr_shown-Call : (on : Option (Box (Box Expr Global × Tok) Global)) (id : Tok) (args : Box Args Global) → expr_shown (e.Call on id args) ≡ t.Call (on_shown on) id (args_shown args.value)
unfolding expr_shown args_shown
expr_shown-Call None id args = ap expr_shown (sym (e.rolls-Call None id args)) ∙ fold-roll-Expr ExprTree InitTree ArgsTree BracesTree expr_layer init_layer args_layer braces_layer (Expr-F.Call None id args)
expr_shown-Call (Some on) id args = ap expr_shown (sym (e.rolls-Call (Some on) id args)) ∙ fold-roll-Expr ExprTree InitTree ArgsTree BracesTree expr_layer init_layer args_layer braces_layer (Expr-F.Call (Some on) id args)

pub expr_shown-Field : (operand : Box Expr Global) (dot : Box Tok Global) (id : Tok) → expr_shown (e.Field operand dot id) ≡ t.Field (expr_shown operand.value) dot.value id
unfolding expr_shown
expr_shown-Field operand dot id = ap expr_shown (sym (e.rolls-Field operand dot id)) ∙ fold-roll-Expr ExprTree InitTree ArgsTree BracesTree expr_layer init_layer args_layer braces_layer (Expr-F.Field operand dot id)

pub expr_shown-Super : (word dot id : Box Tok Global) (args : Option (Box Args Global)) → expr_shown (e.Super word dot id args) ≡ t.Super word.value dot.value id.value (super_args_shown args)
unfolding expr_shown args_shown
expr_shown-Super word dot id None = ap expr_shown (sym (e.rolls-Super word dot id None)) ∙ fold-roll-Expr ExprTree InitTree ArgsTree BracesTree expr_layer init_layer args_layer braces_layer (Expr-F.Super word dot id None)
expr_shown-Super word dot id (Some args) = ap expr_shown (sym (e.rolls-Super word dot id (Some args))) ∙ fold-roll-Expr ExprTree InitTree ArgsTree BracesTree expr_layer init_layer args_layer braces_layer (Expr-F.Super word dot id (Some args))

pub expr_shown-New : (word : Tok) (name : Box Name Global) (args : Box Args Global) → expr_shown (e.New word name args) ≡ t.New word (name_shown name.value) (args_shown args.value)
unfolding expr_shown args_shown
expr_shown-New word name args = ap expr_shown (sym (e.rolls-New word name args)) ∙ fold-roll-Expr ExprTree InitTree ArgsTree BracesTree expr_layer init_layer args_layer braces_layer (Expr-F.New word name args)

pub expr_shown-Index : (operand : Box Expr Global) (left : Tok) (index : Box Expr Global) (right : Box Tok Global) → expr_shown (e.Index operand left index right) ≡ t.Index (expr_shown operand.value) left (expr_shown index.value) right.value
unfolding expr_shown
expr_shown-Index operand left index right = ap expr_shown (sym (e.rolls-Index operand left index right)) ∙ fold-roll-Expr ExprTree InitTree ArgsTree BracesTree expr_layer init_layer args_layer braces_layer (Expr-F.Index operand left index right)

pub expr_shown-NewArray : (word : Box Tok Global) (base : Box TypeBase Global) (sizes : List (Tok × Expr × Tok)) (dims : Dims) → expr_shown (e.NewArray word base sizes dims) ≡ t.NewArray word.value (base_shown base.value) (sizes_shown sizes) dims
unfolding expr_shown
expr_shown-NewArray word base sizes dims = ap expr_shown (sym (e.rolls-NewArray word base sizes dims)) ∙ fold-roll-Expr ExprTree InitTree ArgsTree BracesTree expr_layer init_layer args_layer braces_layer (Expr-F.NewArray word base sizes dims) ∙ ap (λ shown. t.NewArray word.value (base_shown base.value) shown dims) (sizes_shown-map sizes)

pub expr_shown-NewInit : (word : Box Tok Global) (base : Box TypeBase Global) (dims : Dims) (init : Box Braces Global) → expr_shown (e.NewInit word base dims init) ≡ t.NewInit word.value (base_shown base.value) dims (braces_shown init.value)
unfolding expr_shown braces_shown
expr_shown-NewInit word base dims init = ap expr_shown (sym (e.rolls-NewInit word base dims init)) ∙ fold-roll-Expr ExprTree InitTree ArgsTree BracesTree expr_layer init_layer args_layer braces_layer (Expr-F.NewInit word base dims init)

-- what an item begins with
pub init_shown-Expression : (operand : Box Expr Global) → init_shown (i.Expression operand) ≡ t.Expression (expr_shown operand.value)
unfolding expr_shown init_shown
init_shown-Expression operand = ap init_shown (sym (i.rolls-Expression operand)) ∙ fold-roll-Init ExprTree InitTree ArgsTree BracesTree expr_layer init_layer args_layer braces_layer (Init-F.Expression operand)

pub init_shown-Braced : (braces : Box Braces Global) → init_shown (i.Braced braces) ≡ t.Braced (braces_shown braces.value)
unfolding init_shown braces_shown
init_shown-Braced braces = ap init_shown (sym (i.rolls-Braced braces)) ∙ fold-roll-Init ExprTree InitTree ArgsTree BracesTree expr_layer init_layer args_layer braces_layer (Init-F.Braced braces)

-- arguments
args_shown-parts : (left : Tok) (list : Option (Many Expr)) (right : Tok) → args_shown (roll-Args record { left = left; list = list; right = right }) ≡ t.Args left (exprs_shown list) right
unfolding expr_shown args_shown
args_shown-parts left None right = fold-roll-Args ExprTree InitTree ArgsTree BracesTree expr_layer init_layer args_layer braces_layer record { left = left; list = None; right = right }
args_shown-parts left (Some many) right = fold-roll-Args ExprTree InitTree ArgsTree BracesTree expr_layer init_layer args_layer braces_layer record { left = left; list = Some many; right = right } ∙ ap (λ rest. t.Args left (t.Exprs (expr_shown many.first.value) rest) right) (more_exprs_shown-map many.rest)

pub args_shown-roll : (args : Args-F Expr Init Args Braces) → args_shown (roll-Args args) ≡ t.Args args.left (exprs_shown args.list) args.right
args_shown-roll args = args_shown-parts args.left args.list args.right

pub args_shown_out : (args : Args) → args_shown args ≡ t.Args (out-Args args).left (exprs_shown (out-Args args).list) (out-Args args).right
args_shown_out args = ap args_shown (sym (roll-out-Args args)) ∙ args_shown-roll (out-Args args)

-- items in braces
braces_shown-parts : (left : Tok) (items : Option (Many Init)) (comma : Option Tok) (right : Tok) → braces_shown (roll-Braces record { left = left; items = items; comma = comma; right = right }) ≡ t.Braces left (inits_shown items) comma right
unfolding init_shown braces_shown
braces_shown-parts left None comma right = fold-roll-Braces ExprTree InitTree ArgsTree BracesTree expr_layer init_layer args_layer braces_layer record { left = left; items = None; comma = comma; right = right }
braces_shown-parts left (Some many) comma right = fold-roll-Braces ExprTree InitTree ArgsTree BracesTree expr_layer init_layer args_layer braces_layer record { left = left; items = Some many; comma = comma; right = right } ∙ ap (λ rest. t.Braces left (t.Inits (init_shown many.first.value) rest) comma right) (more_inits_shown-map many.rest)

pub braces_shown-roll : (braces : Braces-F Expr Init Args Braces) → braces_shown (roll-Braces braces) ≡ t.Braces braces.left (inits_shown braces.items) braces.comma braces.right
braces_shown-roll braces = braces_shown-parts braces.left braces.items braces.comma braces.right

pub braces_shown_out : (braces : Braces) → braces_shown braces ≡ t.Braces (out-Braces braces).left (inits_shown (out-Braces braces).items) (out-Braces braces).comma (out-Braces braces).right
braces_shown_out braces = ap braces_shown (sym (roll-out-Braces braces)) ∙ braces_shown-roll (out-Braces braces)

-- all of them
pub ruleset expr_shows = (expr_shown-Assign, expr_shown-Cond, expr_shown-Binary, expr_shown-Instance, expr_shown-Unary, expr_shown-Cast, expr_shown-Postfix, expr_shown-Lit, expr_shown-This, expr_shown-Paren, expr_shown-Name, expr_shown-Call, expr_shown-Field, expr_shown-Super, expr_shown-New, expr_shown-Index, expr_shown-NewArray, expr_shown-NewInit, init_shown-Expression, init_shown-Braced, args_shown-roll, braces_shown-roll)
