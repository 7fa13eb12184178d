-- What a parser answers: the longest tree of one sort that stands at a place.
use Rattle.std.specs.Prelude.{◌≡◌, ℕ, ◌≤◌, List, ◌++◌, drop, length, Result, Ok, Err}
use Rattle.rf_jtree.specs.declared.exprs.Expr.{Expr}
use Rattle.rf_jtree.specs.declared.tokens.Tok.{Tok}
use Rattle.rf_jtree.specs.ExprFits.{ExprFits}
use Rattle.rf_jtree.specs.ExprShown.{expr_shown}
use Rattle.rf_jtree.specs.ExprTrees.{ExprTree, New, NewArray, NewInit, expr_yield, expr_depth}
use Rattle.rf_jexpr.specs.declared.found.Found.{Found}
use Rattle.rf_jexpr.specs.declared.found.Taken.{Taken}
use Rattle.rf_jexpr.specs.declared.parse_err.ParseErr.{ParseErr}
use Rattle.rf_jexpr.specs.declared.parse_err.ParseErr.TheVariants.{NoTree, Memory}

-- A sort of trees is given by which of them fit, by their tokens and by their depth.

-- A tree that fits, and is no deeper than the room, has these tokens from one place to another.
pub record IsTreeAt {A : Type 0} (Fits : A → Type 0) (yield : A → List Tok) (depth : A → ℕ) (toks : List Tok) (start room : ℕ) (tree : A) (end : ℕ) : Type 0 where
  pub fits : Fits tree
  pub shallow : depth tree ≤ room
  pub within : end ≤ length toks
  pub takes : drop start toks ≡ yield tree ++ drop end toks

-- no other such tree ends behind this place
abbrev pub NoneIsLonger : {A : Type 0} → (A → Type 0) → (A → List Tok) → (A → ℕ) → List Tok → ℕ → ℕ → ℕ → Type 0
NoneIsLonger {A} Fits yield depth toks start room end = (other : A) (to : ℕ) → IsTreeAt Fits yield depth toks start room other to → to ≤ end

-- no such tree stands there
abbrev pub NoneStands : {A : Type 0} → (A → Type 0) → (A → List Tok) → (A → ℕ) → List Tok → ℕ → ℕ → Type 0
NoneStands {A} Fits yield depth toks start room = (other : A) (to : ℕ) → IsTreeAt Fits yield depth toks start room other to → ⊥

abbrev pub IsLongestOf : {A B : Type 0} → (A → Type 0) → (A → List Tok) → (A → ℕ) → (B → A) → List Tok → ℕ → ℕ → Result (B × ℕ) ParseErr → Type 0
IsLongestOf Fits yield depth shown toks start room (Ok found) =
    IsTreeAt Fits yield depth toks start room (shown found.0) found.1 × NoneIsLonger Fits yield depth toks start room found.1
IsLongestOf Fits yield depth shown toks start room (Err NoTree) = NoneStands Fits yield depth toks start room
IsLongestOf Fits yield depth shown toks start room (Err Memory) = Unit {0}

-- expressions
abbrev pub IsLongest : List Tok → ℕ → ℕ → Result (Expr × ℕ) ParseErr → Type 0
IsLongest toks start room result = IsLongestOf ExprFits expr_yield expr_depth expr_shown toks start room result

-- new objects and new arrays (JLS 15.9, 15.10)
abbrev pub IsCreation : ExprTree → Type 0
IsCreation (New word name args) = Unit {0}
IsCreation (NewArray word base sizes dims) = Unit {0}
IsCreation (NewInit word base dims items) = Unit {0}
IsCreation expr = ⊥

abbrev pub CreationFits : ExprTree → Type 0
CreationFits expr = IsCreation expr × ExprFits expr

-- names and the uses of types, which are not deep
abbrev pub not_deep : {A : Type 0} → A → ℕ
not_deep tree = 0

-- the tree that was read, and its end
abbrev pub of_taken : {A : Type 0} → Result (Taken A) ParseErr → Result (A × ℕ) ParseErr
of_taken (Ok x) = Ok (x.item, x.end)
of_taken (Err error) = Err error

abbrev pub of_found : {A : Type 0} → Result (Found A) ParseErr → Result (A × ℕ) ParseErr
of_found (Ok x) = Ok (x.tree, x.end)
of_found (Err error) = Err error
