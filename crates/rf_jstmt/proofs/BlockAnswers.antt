-- What the code answers for a block in a room is the longest one that stands there, or that none does.
use Rattle.std.proofs.Common.{ℕ, List, Result, Ok, Err, drop}
use Rattle.rf_jtree.specs.declared.stmts.Stmt.{Stmt}
use Rattle.rf_jtree.specs.declared.tokens.Tok.{Tok}
use Rattle.rf_jtree.specs.StmtShown.{stmt_shown}
use Rattle.rf_jexpr.specs.declared.parse_err.ParseErr.{ParseErr}
use Rattle.rf_jexpr.specs.declared.parse_err.ParseErr.TheVariants.{NoTree, Memory}
use Rattle.rf_jstmt.specs.BlockAt.{IsLongestBlock}
use Rattle.rf_jstmt.specs.StmtGives.{GivesBlock}
use Rattle.rf_jstmt.specs.StmtReads.{whole_block}
use Rattle.rf_jstmt.proofs.BlockLemmas.{block_at, no_block_longer, no_block_stands}

pub longest-block : (toks : List Tok) (at room : ℕ) (result : Result (Stmt × ℕ) ParseErr) → GivesBlock toks result (whole_block room (drop at toks)) → IsLongestBlock toks at room result
longest-block toks at room (Ok found) h = (block_at toks at room (stmt_shown found.0) found.1 h.0 h.1, no_block_longer toks at room (stmt_shown found.0) found.1 h.0 h.1)
longest-block toks at room (Err NoTree) h = no_block_stands toks at room h
longest-block toks at room (Err Memory) h = tt
