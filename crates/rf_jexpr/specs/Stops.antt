-- What an expression begins with, and what may follow one without going on with it.
use Rattle.std.specs.Prelude.{ℕ, List, Bool, not, ◌&&◌, ◌||◌, IsTrue, nat_le}
use Rattle.rf_jtree.specs.declared.tokens.Tok.{Tok}
use Rattle.rf_jtree.specs.declared.levels.TheConstants.{ASSIGNMENT_LEVEL, CONDITIONAL_LEVEL, OR_OR_LEVEL, COMPARISON_LEVEL}
use Rattle.rf_jtree.specs.declared.operator_names.TheConstants.{LEFT_BRACKET, DOT, QUESTION, ASSIGNMENTS, PREFIXES, SUFFIXES}
use Rattle.rf_jtree.specs.declared.keyword_names.TheConstants.{INSTANCEOF}
use Rattle.rf_jtree.specs.ExprFits.{begins_operand}
use Rattle.rf_jtree.specs.Kinds.{is_op_of}
use Rattle.rf_jtree.specs.Levels.{binary_level}
use Rattle.rf_jexpr.specs.Reads.{is_op, is_key, begins}

-- An expression begins with an identifier, a literal, `(`, `this`, `super`, `new` or a prefix operator.
unfoldable pub begins_expr : Tok → Bool
begins_expr tok = begins_operand tok || is_op_of PREFIXES tok

-- a binary operator of this level, or one that binds more tightly
unfoldable pub joins : ℕ → Tok → Bool
joins level tok = nat_le level (binary_level tok) && nat_le OR_OR_LEVEL (binary_level tok)

-- `instanceof`, `?` or an assignment operator, where they go on with an expression of this level
unfoldable pub tests_used_type : ℕ → Tok → Bool
tests_used_type level tok = nat_le level COMPARISON_LEVEL && is_key INSTANCEOF tok

unfoldable pub asks : ℕ → Tok → Bool
asks level tok = nat_le level CONDITIONAL_LEVEL && is_op QUESTION tok

unfoldable pub assigns : ℕ → Tok → Bool
assigns level tok = nat_le level ASSIGNMENT_LEVEL && is_op_of ASSIGNMENTS tok

-- A token goes on with an expression of this level. A `.`, a `[` and a `++` do so at each level; and so does what an operand
-- begins with, since it makes arguments of a `(` and a cast of a name in parentheses.
unfoldable pub goes_on : ℕ → Tok → Bool
goes_on level tok =
    is_op DOT tok || (is_op LEFT_BRACKET tok || (is_op_of SUFFIXES tok || (begins_operand tok || (joins level tok || (tests_used_type level tok || (asks level tok || assigns level tok))))))

-- With these tokens behind it, an expression of this level is over.
unfoldable pub stops : ℕ → List Tok → Bool
stops level toks = not (begins (goes_on level) toks)

abbrev pub Stops : ℕ → List Tok → Type 0
Stops level toks = IsTrue (stops level toks)
