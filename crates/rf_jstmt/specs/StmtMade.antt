-- What the code makes of parts that were read.
use Rattle.std.specs.Prelude.{◌≡◌, ℕ, ◌≤◌, ◌++◌, max, List, [], ◌∷◌, drop, length, Option, Some, None, Bool}
use Rattle.std.specs.declared.alloc.Global.{Global}
use Rattle.std.specs.declared.boxed.Box.{Box}
use Rattle.rf_jtree.specs.declared.exprs.Init.{Init}
use Rattle.rf_jtree.specs.declared.stmts.EachHead.{EachHead as EachHeadParts}
use Rattle.rf_jtree.specs.declared.stmts.ForHead.{ForHead as ForHeadParts}
use Rattle.rf_jtree.specs.declared.stmts.Head.{Head as HeadParts}
use Rattle.rf_jtree.specs.declared.stmts.Var.{Var}
use Rattle.rf_jtree.specs.declared.tokens.Tok.{Tok}
use Rattle.rf_jtree.specs.ExprShown.{exprs_shown}
use Rattle.rf_jtree.specs.ExprTrees.{ExprTree, InitTree, expr_depth, exprs_depth, init_depth}
use Rattle.rf_jtree.specs.NameShown.{mods_shown, type_shown}
use Rattle.rf_jtree.specs.NameTrees.{option_depth}
use Rattle.rf_jtree.specs.StmtShown.{first_shown, optional_expr_shown, var_shown}
use Rattle.rf_jtree.specs.StmtTrees.{VarTree, first_depth, var_depth}
use Rattle.rf_jmake.specs.ExprMade.{boxed_shown, boxed_init_shown}
use Rattle.rf_jexpr.specs.Reads.{Reads, ◌>>=◌, token}
use Rattle.rf_jstmt.specs.declared.loops.EachRest.{EachRest as EachRestParts}
use Rattle.rf_jstmt.specs.declared.loops.ForRest.{ForRest as ForRestParts}
use Rattle.rf_jstmt.specs.StmtParts.{EachHead, EachRest, ForHead, ForRest, Head}

-- a keyword with an expression in parentheses behind it
abbrev pub head_shown : Box HeadParts Global → Head
head_shown head = record {
  word = head.value.word;
  left = head.value.left;
  expression = boxed_shown head.value.expression;
  right = head.value.right;
}

abbrev pub head_depth : Head → ℕ
head_depth head = expr_depth head.expression

-- what stands before the body of a `for`
abbrev pub for_head_shown : Box ForHeadParts Global → ForHead
for_head_shown head = record {
  word = head.value.word;
  left = head.value.left;
  first = first_shown head.value.first;
  semi1 = head.value.semi1;
  test = optional_expr_shown head.value.test;
  semi2 = head.value.semi2;
  last = exprs_shown head.value.last;
  right = head.value.right;
}

abbrev pub for_head_depth : ForHead → ℕ
for_head_depth head = max (first_depth head.first) (max (option_depth expr_depth head.test) (exprs_depth head.last))

abbrev pub each_head_shown : Box EachHeadParts Global → EachHead
each_head_shown head = record {
  word = head.value.word;
  left = head.value.left;
  mods = mods_shown head.value.mods;
  used_type = type_shown head.value.used_type;
  id = head.value.id;
  colon = head.value.colon;
  over = boxed_shown head.value.over;
  right = head.value.right;
}

abbrev pub each_head_depth : EachHead → ℕ
each_head_depth head = expr_depth head.over

-- the rest of each, behind what stands first
abbrev pub for_rest_shown : ForRestParts → ForRest
for_rest_shown rest = record {
  semi1 = rest.semi1;
  test = optional_expr_shown rest.test;
  semi2 = rest.semi2;
  last = exprs_shown rest.last;
  right = rest.right;
}

abbrev pub for_rest_depth : ForRest → ℕ
for_rest_depth rest = max (option_depth expr_depth rest.test) (exprs_depth rest.last)

abbrev pub each_rest_shown : EachRestParts → EachRest
each_rest_shown rest = record {
  id = rest.id;
  colon = rest.colon;
  over = boxed_shown rest.over;
  right = rest.right;
}

abbrev pub each_rest_depth : EachRest → ℕ
each_rest_depth rest = expr_depth rest.over

-- a variable behind a pointer
abbrev pub boxed_var_shown : Box Var Global → VarTree
boxed_var_shown boxed = var_shown boxed.value

-- a token and a part behind it
abbrev pub boxed_beginning_shown : Tok × Box Init Global → Tok × InitTree
boxed_beginning_shown part = (part.0, boxed_init_shown part.1)

abbrev pub beginning_depth : Tok × InitTree → ℕ
beginning_depth part = init_depth part.1

abbrev pub message_depth : Tok × ExprTree → ℕ
message_depth part = expr_depth part.1

-- a comma and a variable
abbrev pub next_var_shown : Tok × Var → Tok × VarTree
next_var_shown item = (item.0, var_shown item.1)

abbrev pub next_var_depth : Tok × VarTree → ℕ
next_var_depth item = var_depth item.1

-- two tokens
abbrev pub pair_of : (Tok → Bool) → (Tok → Bool) → Reads (Tok × Tok)
pair_of first second toks = do
  one ← token first toks
  other ← token second one.1
  Some ((one.0, other.0), other.1)

-- where something ends that a reader reads of the tokens from a place on, though none of it is kept
pub record IsEndOf {A : Type 0} (toks : List Tok) (at : ℕ) (read : Option (A × List Tok)) (end : ℕ) : Type 0 where
  pub item : A
  pub is : read ≡ Some (item, drop end toks)
  pub forth : at ≤ end
  pub within : end ≤ length toks

abbrev pub IsEnd : {A : Type 0} → List Tok → ℕ → Option (A × List Tok) → Option ℕ → Type 0
IsEnd toks at read (Some end) = IsEndOf toks at read end
IsEnd toks at read None = read ≡ None
