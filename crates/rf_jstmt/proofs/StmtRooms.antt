-- What the readers of a whole room are: nothing where it is 0, and else those of one room more than is left for parts; and
-- that each statement takes a token at least.
use Rattle.std.proofs.Common.{◌≡◌, ℕ, zero, suc, ◌+◌, ◌-◌, ◌≤◌, ◌<◌, List, Some, None, if◌then◌else◌, drop, length, refl, ap, ◌∙◌, sym, arith, length-append, length-drop}
use Rattle.rf_jtree.specs.declared.tokens.Tok.{Tok}
use Rattle.rf_jtree.specs.StmtTrees.{StmtTree, stmt_yield}
use Rattle.rf_jexpr.specs.Descent.{parsers}
use Rattle.rf_jstmt.specs.StmtReads.{stmt, block_stmt, local_stmt, block_alone, no_stmts, with_stmt_room, stmt_parsers, whole_block}
use Rattle.rf_jstmt.specs.VarReads.{begins_local}
use Rattle.rf_jstmt.proofs.SoundStmts.{stmt_parsers-sound}
use Rattle.rf_jstmt.proofs.StmtFirst.{stmt_some}

pub stmt-empty : (room : ℕ) (toks : List Tok) → room ≡ 0 → (stmt_parsers room).stmt toks ≡ None
unfolding stmt_parsers no_stmts
stmt-empty room toks h = rw h refl

pub stmt-room : (room : ℕ) (toks : List Tok) → 0 < room → (stmt_parsers room).stmt toks ≡ stmt (parsers (room - 1)) (stmt_parsers (room - 1)) toks
unfolding stmt_parsers with_stmt_room
stmt-room zero toks h = absurd (omega arith)
stmt-room (suc m) toks h = let e : suc m - 1 ≡ m = omega arith in rw e refl

pub block_stmt-empty : (room : ℕ) (toks : List Tok) → room ≡ 0 → (stmt_parsers room).block_stmt toks ≡ None
unfolding stmt_parsers no_stmts
block_stmt-empty room toks h = rw h refl

pub block_stmt-room : (room : ℕ) (toks : List Tok) → 0 < room → (stmt_parsers room).block_stmt toks ≡ (if begins_local toks then local_stmt (parsers (room - 1)) toks else stmt (parsers (room - 1)) (stmt_parsers (room - 1)) toks)
unfolding stmt_parsers with_stmt_room block_stmt
block_stmt-room zero toks h = absurd (omega arith)
block_stmt-room (suc m) toks h = let e : suc m - 1 ≡ m = omega arith in rw e refl

pub whole_block-empty : (room : ℕ) (toks : List Tok) → room ≡ 0 → whole_block room toks ≡ None
unfolding whole_block
whole_block-empty room toks h = rw h refl

pub whole_block-room : (room : ℕ) (toks : List Tok) → 0 < room → whole_block room toks ≡ block_alone (stmt_parsers (room - 1)) toks
unfolding whole_block
whole_block-room zero toks h = absurd (omega arith)
whole_block-room (suc m) toks h = let e : suc m - 1 ≡ m = omega arith in rw e refl

-- what is read ends behind the place where it begins
pub block_stmt-forth : (room at end : ℕ) (toks : List Tok) (tree : StmtTree) → (stmt_parsers room).block_stmt (drop at toks) ≡ Some (tree, drop end toks) → end ≤ length toks → at < end
block_stmt-forth room at end toks tree found within =
    let read = (stmt_parsers-sound room).block_stmt (drop at toks) (tree, drop end toks) found in
    let some : 1 ≤ length (stmt_yield tree) = stmt_some tree in
    let lengths : length toks - at ≡ length (stmt_yield tree) + (length toks - end) =
    sym (length-drop at toks) ∙ ap length read.takes ∙ length-append (stmt_yield tree) (drop end toks) ∙ ap (λ n. length (stmt_yield tree) + n) (length-drop end toks) in
    omega (arith, lengths, some)
