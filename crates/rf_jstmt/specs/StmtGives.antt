-- What the parts of statements show as, where they are not yet in one piece, and how deep lists of them are.
use Rattle.std.specs.Prelude.{◌≡◌, ℕ, ◌+◌, ◌≤◌, List, drop, length, Option, Some, None, Result, Ok, Err}
use Rattle.std.specs.declared.alloc.Global.{Global}
use Rattle.std.specs.declared.boxed.Box.{Box}
use Rattle.rf_jtree.specs.declared.stmts.Catch.{Catch}
use Rattle.rf_jtree.specs.declared.stmts.ForFirst.{ForFirst}
use Rattle.rf_jtree.specs.declared.stmts.Stmt.{Stmt}
use Rattle.rf_jtree.specs.declared.tokens.Tok.{Tok}
use Rattle.rf_jtree.specs.NameShown.{name_shown}
use Rattle.rf_jtree.specs.StmtShown.{catches_tree, first_shown, groups_tree, stmt_shown}
use Rattle.rf_jtree.specs.StmtTrees.{BlockTree, CatchTree, GroupTree, StmtTree, catches_depth, first_depth, groups_depth, stmt_depth}
use Rattle.rf_jtree.specs.StmtTrees as t
use Rattle.rf_jexpr.specs.declared.found.Found.{Found}
use Rattle.rf_jexpr.specs.declared.parse_err.ParseErr.{ParseErr}
use Rattle.rf_jexpr.specs.declared.parse_err.ParseErr.TheVariants.{NoTree, Memory}
use Rattle.rf_jexpr.specs.Descent.{parsers}
use Rattle.rf_jexpr.specs.Gives.{GivesTree}
use Rattle.rf_jexpr.specs.PartReads.{Parsers}
use Rattle.rf_jexpr.specs.Reads.{Reads}
use Rattle.rf_jmake.specs.declared.stmts.CatchHead.{CatchHead as CatchHeadParts}
use Rattle.rf_jmake.specs.StmtMade.{boxed_stmt_shown}
use Rattle.rf_jstmt.specs.StmtParts.{CatchHead, StmtParsers}
use Rattle.rf_jstmt.specs.StmtReads.{stmt_parsers}

-- a catch clause up to its block, and with it
abbrev pub catch_head_shown : CatchHeadParts → CatchHead
catch_head_shown head = record {
  word = head.word;
  left = head.left;
  fixed = head.fixed;
  used_type = name_shown head.name;
  id = head.id;
  right = head.right;
}

abbrev pub catch_tree : CatchHead → BlockTree → CatchTree
catch_tree head body = t.Catch head.word head.left head.fixed head.used_type head.id head.right body

abbrev pub groups_found_depth : List GroupTree → ℕ
groups_found_depth groups = groups_depth (groups_tree groups)

abbrev pub catches_found_depth : List CatchTree → ℕ
catches_found_depth catches = catches_depth (catches_tree catches)

-- the depth that goes with what a `for` begins with is its own
abbrev pub IsFirstKnown : Found ForFirst → Type 0
IsFirstKnown x = x.depth ≡ first_depth (first_shown x.tree)

-- a block itself, and the number of the token behind it
abbrev pub GivesBlock : List Tok → Result (Stmt × ℕ) ParseErr → Option (StmtTree × List Tok) → Type 0
GivesBlock toks (Ok x) read = (read ≡ Some (stmt_shown x.0, drop x.1 toks)) × (x.1 ≤ length toks)
GivesBlock toks (Err NoTree) read = read ≡ None
GivesBlock toks (Err Memory) read = Unit {0}

-- a statement by its reader, where `room` is left for its parts, so that the statement itself has one more
abbrev pub GivesForm : List Tok → ℕ → ℕ → Result (Found (Box Stmt Global)) ParseErr → (Parsers → StmtParsers → Reads StmtTree) → Type 0
GivesForm toks at room result read = GivesTree boxed_stmt_shown stmt_depth (room + 1) toks at result (read (parsers room) (stmt_parsers room) (drop at toks))
