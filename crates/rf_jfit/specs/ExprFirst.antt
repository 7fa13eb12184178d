-- The token that an expression begins with.
use Rattle.rf_jtree.specs.declared.tokens.Tok.{Tok}
use Rattle.rf_jtree.specs.ExprTrees.{ExprTree, Assign, Cond, Binary, Instance, Unary, Cast, Postfix, Lit, This, Paren, Name, Call, Field, Super, New, Index, NewArray, NewInit}
use Rattle.rf_jtree.specs.ExprTrees.{OnTree, NoOn, On}

abbrev mutual
  pub expr_first : ExprTree → Tok
  expr_first (Assign left op operand) = expr_first left
  expr_first (Cond test mark first colon other) = expr_first test
  expr_first (Binary left op right) = expr_first left
  expr_first (Instance operand word used_type) = expr_first operand
  expr_first (Unary op operand) = op
  expr_first (Cast left used_type right operand) = left
  expr_first (Postfix operand op) = expr_first operand
  expr_first (Lit tok) = tok
  expr_first (This tok) = tok
  expr_first (Paren left operand right) = left
  expr_first (Name name) = name.ids.first
  expr_first (Call on id args) = on_first on id
  expr_first (Field operand dot id) = expr_first operand
  expr_first (Super word dot id args) = word
  expr_first (New word name args) = word
  expr_first (Index operand left index right) = expr_first operand
  expr_first (NewArray word base sizes dims) = word
  expr_first (NewInit word base dims init) = word

  -- of what a method is called on, or the method's own name
  pub on_first : OnTree → Tok → Tok
  on_first NoOn id = id
  on_first (On operand dot) id = expr_first operand
