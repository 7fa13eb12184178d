-- How tightly expressions bind: the level of a binary operator, and that of an expression (JLS 15.14 to 15.26).
use Rattle.std.specs.Prelude.{ℕ, ◌≤◌, ◌==◌, if◌then◌else◌}
use Rattle.rf_jtree.specs.declared.operators.Op.{Op}
use Rattle.rf_jtree.specs.declared.tokens.Tok.{Tok}
use Rattle.rf_jtree.specs.declared.tokens.TokKind.{TokKind}
use Rattle.rf_jtree.specs.declared.tokens.TokKind.TheVariants as kind
use Rattle.rf_jtree.specs.declared.levels.TheConstants.{ASSIGNMENT_LEVEL, CONDITIONAL_LEVEL, OR_OR_LEVEL, AND_AND_LEVEL, OR_LEVEL, XOR_LEVEL, AND_LEVEL, EQUALITY_LEVEL, COMPARISON_LEVEL, SHIFT_LEVEL, ADDITIVE_LEVEL, MULTIPLICATIVE_LEVEL, UNARY_LEVEL, POSTFIX_LEVEL, PRIMARY_LEVEL}
use Rattle.rf_jtree.specs.declared.operator_names.TheConstants.{OR_OR, AND_AND, OR, XOR, AND, EQUALITIES, COMPARISONS, SHIFTS, ADDITIVES, MULTIPLICATIVES}
use Rattle.rf_jtree.specs.ExprTrees.{ExprTree, Assign, Cond, Binary, Instance, Unary, Cast, Postfix}
use Rattle.rf_jtree.specs.Kinds.{has_op}

-- the level of a binary operator; that of an assignment where it is none
abbrev pub op_level : Op → ℕ
op_level op =
    if op.0 == OR_OR.0 then OR_OR_LEVEL
    else (if op.0 == AND_AND.0 then AND_AND_LEVEL
    else (if op.0 == OR.0 then OR_LEVEL
    else (if op.0 == XOR.0 then XOR_LEVEL
    else (if op.0 == AND.0 then AND_LEVEL
    else (if has_op EQUALITIES op then EQUALITY_LEVEL
    else (if has_op COMPARISONS op then COMPARISON_LEVEL
    else (if has_op SHIFTS op then SHIFT_LEVEL
    else (if has_op ADDITIVES op then ADDITIVE_LEVEL
    else (if has_op MULTIPLICATIVES op then MULTIPLICATIVE_LEVEL
    else ASSIGNMENT_LEVEL)))))))))

abbrev kind_level : TokKind → ℕ
kind_level (kind.Op op) = op_level op
kind_level kind = ASSIGNMENT_LEVEL

abbrev pub binary_level : Tok → ℕ
binary_level tok = kind_level tok.kind

-- the level of an expression
abbrev pub expr_level : ExprTree → ℕ
expr_level (Assign left op operand) = ASSIGNMENT_LEVEL
expr_level (Cond test mark first colon other) = CONDITIONAL_LEVEL
expr_level (Binary left op right) = binary_level op
expr_level (Instance operand word used_type) = COMPARISON_LEVEL
expr_level (Unary op operand) = UNARY_LEVEL
expr_level (Cast left used_type right operand) = UNARY_LEVEL
expr_level (Postfix operand op) = POSTFIX_LEVEL
expr_level primary = PRIMARY_LEVEL

-- an expression may stand where one of this level is wanted: it binds as tightly, or more
abbrev pub BindsAt : ℕ → ExprTree → Type 0
BindsAt level expr = level ≤ expr_level expr
