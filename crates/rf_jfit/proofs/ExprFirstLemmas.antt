-- An expression begins with a token.
use Rattle.std.proofs.Common.{◌↔◌, IsTrue, subst, ◌≡◌, List, [], ◌∷◌, ◌++◌, refl, ap, sym}
use Rattle.rf_jtree.specs.declared.tokens.Tok.{Tok}
use Rattle.rf_jtree.specs.ExprTrees.{ExprTree, Assign, Cond, Binary, Instance, Unary, Cast, Postfix, Lit, This, Paren, Name, Call, Field, Super, New, Index, NewArray, NewInit}
use Rattle.rf_jtree.specs.ExprTrees.{OnTree, NoOn, On, expr_yield, on_yield, args_yield}
use Rattle.rf_jtree.specs.ExprFits.{BeginsOperand, begins_operand}
use Rattle.rf_jfit.specs.ExprFirst.{expr_first, on_first}

-- the tokens begin with this one
pub record Begins (tok : Tok) (toks : List Tok) : Type 0 where
  pub rest : List Tok
  pub parts : toks ≡ tok ∷ rest

more : {tok : Tok} {toks : List Tok} → Begins tok toks → (others : List Tok) → Begins tok (toks ++ others)
more begins others = record { rest = begins.rest ++ others; parts = ap (λ toks. toks ++ others) begins.parts }

mutual
  pub expr_begins : (expr : ExprTree) → Begins (expr_first expr) (expr_yield expr)
  expr_begins (Assign left op operand) = more (expr_begins left) (op ∷ expr_yield operand)
  expr_begins (Cond test mark first colon other) = more (expr_begins test) (mark ∷ (expr_yield first ++ colon ∷ expr_yield other))
  expr_begins (Binary left op right) = more (expr_begins left) (op ∷ expr_yield right)
  expr_begins (Instance operand word used_type) = more (expr_begins operand) _
  expr_begins (Unary op operand) = record { rest = expr_yield operand; parts = refl }
  expr_begins (Cast left used_type right operand) = record { rest = _; parts = refl }
  expr_begins (Postfix operand op) = more (expr_begins operand) (op ∷ [])
  expr_begins (Lit tok) = record { rest = []; parts = refl }
  expr_begins (This tok) = record { rest = []; parts = refl }
  expr_begins (Paren left operand right) = record { rest = _; parts = refl }
  expr_begins (Name name) = record { rest = _; parts = refl }
  expr_begins (Call on id args) = on_begins on id (args_yield args)
  expr_begins (Field operand dot id) = more (expr_begins operand) (dot ∷ id ∷ [])
  expr_begins (Super word dot id args) = record { rest = _; parts = refl }
  expr_begins (New word name args) = record { rest = _; parts = refl }
  expr_begins (Index operand left index right) = more (expr_begins operand) (left ∷ (expr_yield index ++ right ∷ []))
  expr_begins (NewArray word base sizes dims) = record { rest = _; parts = refl }
  expr_begins (NewInit word base dims init) = record { rest = _; parts = refl }

  on_begins : (on : OnTree) (id : Tok) (others : List Tok) → Begins (on_first on id) (on_yield on ++ id ∷ others)
  on_begins NoOn id others = record { rest = others; parts = refl }
  on_begins (On operand dot) id others = more (more (expr_begins operand) (dot ∷ [])) (id ∷ others)

-- so the operand of a cast begins with that token
pub BeginsOperand_yield : (expr : ExprTree) → IsTrue (begins_operand (expr_first expr)) ↔ BeginsOperand (expr_yield expr)
BeginsOperand_yield expr =
    let begins = expr_begins expr in
    (λ h. subst BeginsOperand (sym begins.parts) h, λ h. subst BeginsOperand begins.parts h)
