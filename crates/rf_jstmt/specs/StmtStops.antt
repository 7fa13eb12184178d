-- What may follow a statement without going on with it.
use Rattle.std.specs.Prelude.{◌≡◌, List, Bool, false, ◌||◌, IsTrue}
use Rattle.rf_jtree.specs.declared.tokens.Tok.{Tok}
use Rattle.rf_jtree.specs.declared.operator_names.TheConstants.{RIGHT_BRACE}
use Rattle.rf_jtree.specs.declared.keyword_names.TheConstants.{CASE, CATCH, DEFAULT, ELSE, FINALLY}
use Rattle.rf_jtree.specs.StmtTrees.{StmtTree, Label, If, While, For, Each, Try, OtherTree, NoOther, Other, LastTree, NoLast, Last}
use Rattle.rf_jexpr.specs.Reads.{is_op, is_key, begins}

-- A `catch` or a `finally` goes on with a `try` that has no `finally`.
unfoldable pub last_goes_on : LastTree → Tok → Bool
last_goes_on NoLast tok = is_key CATCH tok || is_key FINALLY tok
last_goes_on (Last word body) tok = false

-- An `else` goes on with an `if` that has none, and with what ends with one.
abbrev mutual
  pub goes_on : StmtTree → Tok → Bool
  goes_on (Label id colon body) tok = goes_on body tok
  goes_on (If word left test right then other) tok = other_goes_on other (goes_on then tok) tok
  goes_on (While word left test right body) tok = goes_on body tok
  goes_on (For word left first semi1 test semi2 last right body) tok = goes_on body tok
  goes_on (Each word left mods used_type id colon over right body) tok = goes_on body tok
  goes_on (Try word body parts last) tok = last_goes_on last tok
  goes_on stmt tok = false

  pub other_goes_on : OtherTree → Bool → Tok → Bool
  other_goes_on NoOther then_goes_on tok = is_key ELSE tok || then_goes_on
  other_goes_on (Other word stmt) then_goes_on tok = goes_on stmt tok

-- With these tokens behind it, a statement is over.
abbrev pub Over : StmtTree → List Tok → Type 0
Over stmt toks = begins (goes_on stmt) toks ≡ false

-- No other words go on with a statement.
unfoldable pub may_go_on : Tok → Bool
may_go_on tok = is_key ELSE tok || (is_key CATCH tok || is_key FINALLY tok)

-- Statements in braces or behind a label of a `switch` are over before `}`, `case` and `default`.
unfoldable pub ends_stmts : Tok → Bool
ends_stmts tok = is_op RIGHT_BRACE tok || (is_key CASE tok || is_key DEFAULT tok)

abbrev pub EndsStmts : List Tok → Type 0
EndsStmts toks = IsTrue (begins ends_stmts toks)
