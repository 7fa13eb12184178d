-- What expressions show as trees: themselves without pointers. A layer is an expression whose parts are trees already.
use Rattle.std.specs.Prelude.{List, [], ◌∷◌, Option, Some, None}
use Rattle.std.specs.declared.alloc.Global.{Global}
use Rattle.std.specs.declared.boxed.Box.{Box}
use Rattle.rf_jtree.specs.declared.exprs.Args.{Args, fold-Args}
use Rattle.rf_jtree.specs.declared.exprs.Braces.{Braces, fold-Braces}
use Rattle.rf_jtree.specs.declared.exprs.Expr.{Expr, fold-Expr}
use Rattle.rf_jtree.specs.declared.exprs.Expr.TheOpen.{Expr-F, Args-F, Braces-F, Init-F}
use Rattle.rf_jtree.specs.declared.exprs.Init.{Init, fold-Init}
use Rattle.rf_jtree.specs.declared.names.Many.{Many}
use Rattle.rf_jtree.specs.declared.tokens.Tok.{Tok}
use Rattle.rf_jtree.specs.ExprTrees.{ExprTree, OnTree, ArgsTree, SuperArgsTree, ExprsTree, MoreExprsTree, SizesTree, InitTree, BracesTree, InitsTree, MoreInitsTree}
use Rattle.rf_jtree.specs.ExprTrees as t
use Rattle.rf_jtree.specs.NameShown.{name_shown, base_shown, type_shown}

-- lists, and parts that may be left out, of trees
abbrev pub on_tree : Option (Box (Box ExprTree Global × Tok) Global) → OnTree
on_tree None = t.NoOn
on_tree (Some on) = t.On on.value.0.value on.value.1

abbrev pub boxed_args_tree : Option (Box ArgsTree Global) → SuperArgsTree
boxed_args_tree None = t.NoArgs
boxed_args_tree (Some args) = t.SuperArgs args.value

abbrev pub super_args_tree : Option ArgsTree → SuperArgsTree
super_args_tree None = t.NoArgs
super_args_tree (Some args) = t.SuperArgs args

abbrev pub more_exprs_tree : List (Tok × ExprTree) → MoreExprsTree
more_exprs_tree [] = t.NoMoreExprs
more_exprs_tree (item ∷ rest) = t.MoreExprs item.0 item.1 (more_exprs_tree rest)

abbrev pub exprs_tree : Option (Many ExprTree) → ExprsTree
exprs_tree None = t.NoExprs
exprs_tree (Some many) = t.Exprs many.first.value (more_exprs_tree many.rest)

abbrev pub sizes_tree : List (Tok × ExprTree × Tok) → SizesTree
sizes_tree [] = t.NoSizes
sizes_tree (size ∷ rest) = t.Sizes size.0 size.1 size.2 (sizes_tree rest)

abbrev pub more_inits_tree : List (Tok × InitTree) → MoreInitsTree
more_inits_tree [] = t.NoMoreInits
more_inits_tree (item ∷ rest) = t.MoreInits item.0 item.1 (more_inits_tree rest)

abbrev pub inits_tree : Option (Many InitTree) → InitsTree
inits_tree None = t.NoInits
inits_tree (Some many) = t.Inits many.first.value (more_inits_tree many.rest)

-- the layers
abbrev pub expr_layer : Expr-F ExprTree InitTree ArgsTree BracesTree → ExprTree
expr_layer (Expr-F.Assign left op operand) = t.Assign left.value op operand.value
expr_layer (Expr-F.Cond test mark first colon other) = t.Cond test.value mark.value first.value colon.value other.value
expr_layer (Expr-F.Binary left op right) = t.Binary left.value op right.value
expr_layer (Expr-F.Instance operand word used_type) = t.Instance operand.value word (type_shown used_type.value)
expr_layer (Expr-F.Unary op operand) = t.Unary op operand.value
expr_layer (Expr-F.Cast left used_type right operand) = t.Cast left (type_shown used_type.value) right.value operand.value
expr_layer (Expr-F.Postfix operand op) = t.Postfix operand.value op
expr_layer (Expr-F.Lit tok) = t.Lit tok
expr_layer (Expr-F.This tok) = t.This tok
expr_layer (Expr-F.Paren left operand right) = t.Paren left operand.value right.value
expr_layer (Expr-F.Name name) = t.Name (name_shown name)
expr_layer (Expr-F.Call on id args) = t.Call (on_tree on) id args.value
expr_layer (Expr-F.Field operand dot id) = t.Field operand.value dot.value id
expr_layer (Expr-F.Super word dot id args) = t.Super word.value dot.value id.value (boxed_args_tree args)
expr_layer (Expr-F.New word name args) = t.New word (name_shown name.value) args.value
expr_layer (Expr-F.Index operand left index right) = t.Index operand.value left index.value right.value
expr_layer (Expr-F.NewArray word base sizes dims) = t.NewArray word.value (base_shown base.value) (sizes_tree sizes) dims
expr_layer (Expr-F.NewInit word base dims init) = t.NewInit word.value (base_shown base.value) dims init.value

abbrev pub init_layer : Init-F ExprTree InitTree ArgsTree BracesTree → InitTree
init_layer (Init-F.Expression operand) = t.Expression operand.value
init_layer (Init-F.Braced braces) = t.Braced braces.value

abbrev pub args_layer : Args-F ExprTree InitTree ArgsTree BracesTree → ArgsTree
args_layer args = t.Args args.left (exprs_tree args.list) args.right

abbrev pub braces_layer : Braces-F ExprTree InitTree ArgsTree BracesTree → BracesTree
braces_layer braces = t.Braces braces.left (inits_tree braces.items) braces.comma braces.right

-- the trees
unfoldable pub expr_shown : Expr → ExprTree
expr_shown = fold-Expr ExprTree InitTree ArgsTree BracesTree expr_layer init_layer args_layer braces_layer

unfoldable pub init_shown : Init → InitTree
init_shown = fold-Init ExprTree InitTree ArgsTree BracesTree expr_layer init_layer args_layer braces_layer

unfoldable pub args_shown : Args → ArgsTree
args_shown = fold-Args ExprTree InitTree ArgsTree BracesTree expr_layer init_layer args_layer braces_layer

unfoldable pub braces_shown : Braces → BracesTree
braces_shown = fold-Braces ExprTree InitTree ArgsTree BracesTree expr_layer init_layer args_layer braces_layer

-- the parts that lead back to expressions
abbrev pub on_shown : Option (Box (Box Expr Global × Tok) Global) → OnTree
on_shown None = t.NoOn
on_shown (Some on) = t.On (expr_shown on.value.0.value) on.value.1

abbrev pub super_args_shown : Option (Box Args Global) → SuperArgsTree
super_args_shown None = t.NoArgs
super_args_shown (Some args) = t.SuperArgs (args_shown args.value)

abbrev pub more_exprs_shown : List (Tok × Expr) → MoreExprsTree
more_exprs_shown [] = t.NoMoreExprs
more_exprs_shown (item ∷ rest) = t.MoreExprs item.0 (expr_shown item.1) (more_exprs_shown rest)

abbrev pub exprs_shown : Option (Many Expr) → ExprsTree
exprs_shown None = t.NoExprs
exprs_shown (Some many) = t.Exprs (expr_shown many.first.value) (more_exprs_shown many.rest)

abbrev pub sizes_shown : List (Tok × Expr × Tok) → SizesTree
sizes_shown [] = t.NoSizes
sizes_shown (size ∷ rest) = t.Sizes size.0 (expr_shown size.1) size.2 (sizes_shown rest)

abbrev pub more_inits_shown : List (Tok × Init) → MoreInitsTree
more_inits_shown [] = t.NoMoreInits
more_inits_shown (item ∷ rest) = t.MoreInits item.0 (init_shown item.1) (more_inits_shown rest)

abbrev pub inits_shown : Option (Many Init) → InitsTree
inits_shown None = t.NoInits
inits_shown (Some many) = t.Inits (init_shown many.first.value) (more_inits_shown many.rest)
