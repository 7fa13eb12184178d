-- What the code makes of parts that were read.
use Rattle.std.specs.Prelude.{◌≡◌, ℕ, ◌+◌, ◌++◌, max, List, [], ◌∷◌, Option}
use Rattle.std.specs.declared.alloc.Global.{Global}
use Rattle.std.specs.declared.boxed.Box.{Box}
use Rattle.rf_jtree.specs.declared.exprs.Expr.{Expr}
use Rattle.rf_jtree.specs.declared.tokens.Tok.{Tok}
use Rattle.rf_jtree.specs.ExprShown.{super_args_tree}
use Rattle.rf_jtree.specs.ExprTrees.{ExprTree, Postfix, InitTree, ArgsTree, expr_depth, init_depth, exprs_depth, inits_depth, super_args_depth}
use Rattle.rf_jtree.specs.NameTrees.{ManyTree}
use Rattle.rf_jmake.specs.ExprMade.{boxed_shown, exprs_of, inits_of}
use Rattle.rf_jexpr.specs.declared.found.Found.{Found}
use Rattle.rf_jexpr.specs.declared.found.Taken.{Taken}

-- the depth that goes with an expression is its own
abbrev pub IsKnown : Found (Box Expr Global) → Type 0
IsKnown x = x.depth ≡ expr_depth (boxed_shown x.tree)

-- a step behind an expression
abbrev pub IsStepped : Found (Box Expr Global) → Taken Tok → Found (Box Expr Global) → Type 0
IsStepped operand op x = (boxed_shown x.tree ≡ Postfix (boxed_shown operand.tree) op.item) × (x.end ≡ op.end) × (x.depth ≡ operand.depth + 1)

-- what was read, from behind its pointer
abbrev pub unboxed : {A : Type 0} → Found (Box A Global) → Found A
unboxed x = record { tree = x.tree.value; end = x.end; depth = x.depth }

-- one part more
abbrev pub IsGrown : {A : Type 0} → Found (List A) → Found A → Found (List A) → Type 0
IsGrown parts next x = (x.tree ≡ parts.tree ++ next.tree ∷ []) × (x.end ≡ next.end) × (x.depth ≡ max parts.depth next.depth)

abbrev pub item_depth : Tok × ExprTree → ℕ
item_depth item = expr_depth item.1

abbrev pub init_item_depth : Tok × InitTree → ℕ
init_item_depth item = init_depth item.1

abbrev pub size_depth : Tok × ExprTree × Tok → ℕ
size_depth size = expr_depth size.1

abbrev pub bracketed_shown : Tok × Box Expr Global × Tok → Tok × ExprTree × Tok
bracketed_shown part = (part.0, boxed_shown part.1, part.2)

abbrev pub found_depth : Option (ManyTree ExprTree) → ℕ
found_depth list = exprs_depth (exprs_of list)

abbrev pub inits_found_depth : Option (ManyTree InitTree) → ℕ
inits_found_depth list = inits_depth (inits_of list)

abbrev pub super_args_found_depth : Option ArgsTree → ℕ
super_args_found_depth list = super_args_depth (super_args_tree list)

-- the greater expression of what stands behind one, and one
abbrev pub IsJoined : {A : Type 0} → (A → ExprTree) → Found A → Found (Box Expr Global) → Type 0
IsJoined joined continuation x = (boxed_shown x.tree ≡ joined continuation.tree) × (x.end ≡ continuation.end) × (x.depth ≡ continuation.depth)
