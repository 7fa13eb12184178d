-- What parts of expressions show as, where they aren't yet in one piece.
use Rattle.std.specs.Prelude.{Option, Some, None, option_map}
use Rattle.std.specs.declared.alloc.Global.{Global}
use Rattle.std.specs.declared.boxed.Box.{Box}
use Rattle.rf_jtree.specs.declared.exprs.Args.{Args}
use Rattle.rf_jtree.specs.declared.exprs.Braces.{Braces}
use Rattle.rf_jtree.specs.declared.exprs.Expr.{Expr}
use Rattle.rf_jtree.specs.declared.exprs.Init.{Init}
use Rattle.rf_jtree.specs.declared.names.Many.{Many}
use Rattle.rf_jtree.specs.declared.tokens.Tok.{Tok}
use Rattle.rf_jtree.specs.ExprShown.{expr_shown, init_shown, args_shown, braces_shown, more_exprs_tree, more_inits_tree}
use Rattle.rf_jtree.specs.ExprTrees.{ExprTree, InitTree, ArgsTree, BracesTree, ExprsTree, NoExprs, Exprs, InitsTree, NoInits, Inits}
use Rattle.rf_jtree.specs.NameShown.{many_shown}
use Rattle.rf_jtree.specs.NameTrees.{ManyTree}

-- what stands behind a pointer, shown
abbrev pub boxed_shown : Box Expr Global → ExprTree
boxed_shown boxed = expr_shown boxed.value

abbrev pub boxed_init_shown : Box Init Global → InitTree
boxed_init_shown boxed = init_shown boxed.value

abbrev pub boxed_args_shown : Box Args Global → ArgsTree
boxed_args_shown boxed = args_shown boxed.value

abbrev pub boxed_braces_shown : Box Braces Global → BracesTree
boxed_braces_shown boxed = braces_shown boxed.value

-- parts of a list
abbrev pub item_shown : Tok × Expr → Tok × ExprTree
item_shown item = (item.0, expr_shown item.1)

abbrev pub init_item_shown : Tok × Init → Tok × InitTree
init_item_shown item = (item.0, init_shown item.1)

abbrev pub size_shown : Tok × Expr × Tok → Tok × ExprTree × Tok
size_shown size = (size.0, expr_shown size.1, size.2)

abbrev pub exprs_found : Option (Many Expr) → Option (ManyTree ExprTree)
exprs_found list = option_map (many_shown expr_shown) list

abbrev pub inits_found : Option (Many Init) → Option (ManyTree InitTree)
inits_found list = option_map (many_shown init_shown) list

abbrev pub super_args_found : Option (Box Args Global) → Option ArgsTree
super_args_found list = option_map boxed_args_shown list

-- a list, or none
unfoldable pub exprs_of : Option (ManyTree ExprTree) → ExprsTree
exprs_of None = NoExprs
exprs_of (Some exprs) = Exprs exprs.first (more_exprs_tree exprs.rest)

unfoldable pub inits_of : Option (ManyTree InitTree) → InitsTree
inits_of None = NoInits
inits_of (Some inits) = Inits inits.first (more_inits_tree inits.rest)
