-- What lists of parts of expressions show as.
use Rattle.std.proofs.Common.{◌≡◌, List, [], ◌∷◌, Option, Some, None, map, refl, ap}
use Rattle.std.specs.declared.alloc.Global.{Global}
use Rattle.std.specs.declared.boxed.Box.{Box}
use Rattle.rf_jtree.specs.declared.exprs.Args.{Args}
use Rattle.rf_jtree.specs.declared.exprs.Expr.{Expr}
use Rattle.rf_jtree.specs.declared.exprs.Init.{Init}
use Rattle.rf_jtree.specs.declared.names.Many.{Many}
use Rattle.rf_jtree.specs.declared.tokens.Tok.{Tok}
use Rattle.rf_jtree.specs.ExprShown.{expr_shown, init_shown, more_exprs_tree, more_exprs_shown, exprs_shown, more_inits_tree, more_inits_shown, inits_shown, sizes_tree, sizes_shown, super_args_tree, super_args_shown}
use Rattle.rf_jtree.specs.ExprTrees as t
use Rattle.rf_jmake.specs.ExprMade.{item_shown, init_item_shown, size_shown, exprs_found, inits_found, super_args_found, exprs_of, inits_of}

more_exprs-shown : (rest : List (Tok × Expr)) → more_exprs_tree (map item_shown rest) ≡ more_exprs_shown rest
more_exprs-shown [] = refl
more_exprs-shown (item ∷ rest) = ap (t.MoreExprs item.0 (expr_shown item.1)) (more_exprs-shown rest)

pub exprs-shown : (list : Option (Many Expr)) → exprs_of (exprs_found list) ≡ exprs_shown list
unfolding exprs_of
exprs-shown None = refl
exprs-shown (Some list) = ap (t.Exprs (expr_shown list.first.value)) (more_exprs-shown list.rest)

more_inits-shown : (rest : List (Tok × Init)) → more_inits_tree (map init_item_shown rest) ≡ more_inits_shown rest
more_inits-shown [] = refl
more_inits-shown (item ∷ rest) = ap (t.MoreInits item.0 (init_shown item.1)) (more_inits-shown rest)

pub inits-shown : (list : Option (Many Init)) → inits_of (inits_found list) ≡ inits_shown list
unfolding inits_of
inits-shown None = refl
inits-shown (Some list) = ap (t.Inits (init_shown list.first.value)) (more_inits-shown list.rest)

pub sizes-shown : (sizes : List (Tok × Expr × Tok)) → sizes_tree (map size_shown sizes) ≡ sizes_shown sizes
sizes-shown [] = refl
sizes-shown (size ∷ rest) = ap (t.Sizes size.0 (expr_shown size.1) size.2) (sizes-shown rest)

pub super_args-shown : (list : Option (Box Args Global)) → super_args_tree (super_args_found list) ≡ super_args_shown list
super_args-shown None = refl
super_args-shown (Some list) = refl
