-- Each member has a token at least.
use Rattle.std.proofs.Common.{◌≡◌, ℕ, ◌+◌, ◌≤◌, ◌<◌, List, Some, Result, Ok, Err, IfOk, length, drop, length-drop, length-append, arith}
use Rattle.rf_jtree.specs.declared.tokens.Tok.{Tok}
use Rattle.rf_jtree.specs.declared.decls.Member.{Member}
use Rattle.rf_jtree.specs.DeclShown.{member_shown}
use Rattle.rf_jtree.specs.DeclTrees.{MemberTree, member_yield, member_depth}
use Rattle.rf_jexpr.specs.declared.found.Found.{Found}
use Rattle.rf_jexpr.specs.declared.parse_err.ParseErr.{ParseErr}
use Rattle.rf_jexpr.specs.Gives.{GivesTree}
use Rattle.rf_jstmt.proofs.Exact.{stmt_parsers-exact}
use Rattle.rf_jstmt.proofs.SoundStmts.{stmt_parsers-sound}
use Rattle.rf_jdecl.specs.MemberReads.{member}
use Rattle.rf_jdecl.proofs.ExactMembers.{member_some}
use Rattle.rf_jdecl.proofs.SoundMembers.{member-sound}

pub member-forth : (room : ℕ) (toks : List Tok) (at end : ℕ) (x : MemberTree) → member room (drop at toks) ≡ Some (x, drop end toks) → end ≤ length toks → at < end
member-forth room toks at end x found within =
    let read = member-sound room (stmt_parsers-sound room) (drop at toks) (x, drop end toks) found in
    let some : 1 ≤ length (member_yield x) = member_some room (stmt_parsers-exact room) x read.fits in
    let all : length (drop at toks) ≡ length (member_yield x) + length (drop end toks) = rw read.takes (length-append (member_yield x) (drop end toks)) in
    omega (arith, all, some, length-drop at toks, length-drop end toks)

pub forth-of : (room : ℕ) (toks : List Tok) (at : ℕ) (result : Result (Found Member) ParseErr) → GivesTree member_shown member_depth room toks at result (member room (drop at toks)) → IfOk result (λ x. at < x.end)
forth-of room toks at (Ok x) gives = member-forth room toks at x.end (member_shown x.tree) gives.0 gives.2
forth-of room toks at (Err error) gives = tt
