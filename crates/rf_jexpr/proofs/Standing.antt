-- A reader that goes on growing what it has in hand: where it stands, and what it answers from there.
use Rattle.std.proofs.Common.{◌≡◌, ℕ, zero, suc, ◌+◌, ◌≤◌, List, ◌++◌, Some, None, length, ap, ◌∙◌, arith}
use Rattle.rf_jtree.specs.declared.tokens.Tok.{Tok}
use Rattle.rf_jtree.specs.ExprTrees.{ExprTree, expr_yield, expr_depth}
use Rattle.rf_jexpr.specs.Reads.{Reads, chain}
use Rattle.rf_jexpr.proofs.LoopLemmas.{chain-turn, chain-stops}
use Rattle.rf_jexpr.proofs.Within.{Reaches, IsBounded, reaches-Some, reaches-chain}

-- The reader stands in its loop with this expression in hand, with turns enough for all that the room allows.
pub record Stands (m : ℕ) (read : Reads ExprTree) (turn : ExprTree → Reads ExprTree) (expr : ExprTree) (rest : List Tok) : Type 0 where
  pub turns : ℕ
  pub enough : suc m ≤ turns + expr_depth expr
  pub reads : read (expr_yield expr ++ rest) ≡ chain turn turns expr rest

module _ (m : ℕ) (read : Reads ExprTree) (turn : ExprTree → Reads ExprTree) where
  -- before its first turn
  pub stands_first : (expr : ExprTree) (rest : List Tok) → read (expr_yield expr ++ rest) ≡ chain turn (suc m) expr rest → Stands m read turn expr rest
  stands_first expr rest h = record { turns = suc m; enough = omega arith; reads = h }

  -- a turn further
  pub stands_turn : (operand expr : ExprTree) (between rest : List Tok) → Stands m read turn operand between → expr_depth operand ≤ m → suc (expr_depth operand) ≤ expr_depth expr
      → expr_yield expr ++ rest ≡ expr_yield operand ++ between → turn operand between ≡ Some (expr, rest) → Stands m read turn expr rest
  stands_turn operand expr between rest stands shallow deeper tokens found = by_turns stands.turns stands.enough stands.reads
    where
      by_turns : (turns : ℕ) → suc m ≤ turns + expr_depth operand → read (expr_yield operand ++ between) ≡ chain turn turns operand between → Stands m read turn expr rest
      by_turns zero enough reads = absurd (omega arith)
      by_turns (suc turns) enough reads = record {
        turns = turns;
        enough = omega arith;
        reads = ap read tokens ∙ reads ∙ chain-turn turn turns operand between (expr, rest) found;
      }

  -- it answers what it has in hand, where no turn follows
  pub stands_over : (expr : ExprTree) (rest : List Tok) → Stands m read turn expr rest → turn expr rest ≡ None → read (expr_yield expr ++ rest) ≡ Some (expr, rest)
  stands_over expr rest stands none = stands.reads ∙ chain-stops turn stands.turns expr rest none

  module _ (bounded : (expr : ExprTree) → IsBounded (turn expr)) where
    -- it answers something that is no shorter
    pub stands_far : (expr : ExprTree) (rest : List Tok) (n : ℕ) → Stands m read turn expr rest → length rest ≤ n → Reaches n (read (expr_yield expr ++ rest))
    stands_far expr rest n stands h =
        let reached = reaches-chain turn bounded stands.turns n expr rest h in
        reaches-Some n _ reached.to (stands.reads ∙ reached.reads) reached.left

    -- so it does where one turn follows that leaves no more
    pub stands_turn_far : (operand expr : ExprTree) (between rest : List Tok) → Stands m read turn operand between → expr_depth operand ≤ m
        → expr_yield expr ++ rest ≡ expr_yield operand ++ between → Reaches (length rest) (turn operand between) → Reaches (length rest) (read (expr_yield expr ++ rest))
    stands_turn_far operand expr between rest stands shallow tokens next = by_turns stands.turns stands.enough stands.reads
      where
        by_turns : (turns : ℕ) → suc m ≤ turns + expr_depth operand → read (expr_yield operand ++ between) ≡ chain turn turns operand between → Reaches (length rest) (read (expr_yield expr ++ rest))
        by_turns zero enough reads = absurd (omega arith)
        by_turns (suc turns) enough reads =
            let reached = reaches-chain turn bounded turns (length rest) next.to.0 next.to.1 next.left in
            reaches-Some (length rest) _ reached.to (ap read tokens ∙ reads ∙ chain-turn turn turns operand between next.to next.reads ∙ reached.reads) reached.left
