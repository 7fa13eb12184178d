-- What stands behind the last part ends its loop, and the readers of a whole room are told by those of the room that is left.
use Rattle.std.proofs.Common.{◌≡◌, ◌+◌, ◌-◌, ◌≤◌, ◌<◌, drop, length, true, false, refl, ap, ◌∙◌, sym, arith}
use Rattle.rf_jtree.specs.StmtTrees.{stmts_depth}
use Rattle.rf_jexpr.specs.Reads.{and_then}
use Rattle.rf_jexpr.proofs.GrowthLemmas.{first-filling, next-filling, last-filling}
use Rattle.rf_jstmt.specs.StmtParts.{stmts}
use Rattle.rf_jstmt.specs.VarReads.{begins_local}
use Rattle.rf_jmake.proofs.ListShows.{stmts-shown}
use Rattle.rf_jstmt.proofs.ListShows.{stmts-depth, groups-depth, catches-depth}
use Rattle.rf_jstmt.proofs.StmtRooms.{stmt-empty, stmt-room, block_stmt-empty, block_stmt-room, block_stmt-forth}
use Rattle.rf_jstmt.proofs.+stmt.Goals as goal

-- ---- lists of parts

pub blocks::stmts-items-init : goal.blocks::stmts-items-init
blocks::stmts-items-init t c = first-filling _ _ _ _ _ _ _ c.new.ensures c.requires

pub blocks::stmts-items-preserved : goal.blocks::stmts-items-preserved
blocks::stmts-items-preserved t c =
    let tried = rw c.in-Some.is at c.in_ok-next.ensures in
    let taken = rw tried at c.block_stmt.ensures in
    let forth = block_stmt-forth c.args.room c.items.list.end _ c.args.t.now _ taken.0 taken.2 in
    let grown = c.in_ok-list.ensures in
    rw grown.1 (next-filling _ _ _ _ _ _ _ _ _ c.in-Some.next.tree.value c.in-Some.next.end c.in-Some.next.depth _ _ c.items.invariant taken.0 forth taken.2 taken.3 taken.4 grown.0 grown.2)

pub blocks::stmts-items-smaller : goal.blocks::stmts-items-smaller
blocks::stmts-items-smaller t c =
    let tried = rw c.in-Some.is at c.in_ok-next.ensures in
    let taken = rw tried at c.block_stmt.ensures in
    let forth : c.items.list.end < c.in-Some.next.end = block_stmt-forth c.args.room c.items.list.end c.in-Some.next.end c.args.t.now _ taken.0 taken.2 in
    let end : c.in_ok-list.list.end ≡ c.in-Some.next.end = c.in_ok-list.ensures.1 in
    let within : c.in-Some.next.end ≤ length c.args.t.now = taken.2 in
    omega arith

pub blocks::stmts-returns : goal.blocks::stmts-returns
unfolding stmts and_then
blocks::stmts-returns t c =
    let missing = rw c.in_default.is at c.in_ok-next.ensures in
    let nothing = rw missing at c.block_stmt.ensures in
    let filling = c.items.invariant in
    let read = last-filling _ _ _ _ _ _ _ _ _ filling nothing in
    (rw (read, stmts-shown) refl, filling.turn.forth, filling.turn.within, filling.depth_is ∙ sym (stmts-depth _) ∙ ap stmts_depth (stmts-shown c.items.list.tree), filling.shallow)

pub branches::groups-items-init : goal.branches::groups-items-init
branches::groups-items-init t c = first-filling _ _ _ _ _ _ _ c.new.ensures c.requires

pub branches::groups-items-preserved : goal.branches::groups-items-preserved
branches::groups-items-preserved t c =
    let tried = rw c.in-Some.is at c.in_ok-next.ensures in
    let taken = rw tried at c.group.ensures.gives in
    let forth = rw tried at c.group.ensures.forth in
    let grown = c.in_ok-list.ensures in
    rw grown.1 (next-filling _ _ _ _ _ _ _ _ _ c.in-Some.next.tree c.in-Some.next.end c.in-Some.next.depth _ _ c.items.invariant taken.0 forth taken.2 taken.3 taken.4 grown.0 grown.2)

pub branches::groups-returns : goal.branches::groups-returns
branches::groups-returns t c =
    let missing = rw c.in_default.is at c.in_ok-next.ensures in
    let nothing = rw missing at c.group.ensures.gives in
    let filling = c.items.invariant in
    (last-filling _ _ _ _ _ _ _ _ _ filling nothing, filling.turn.forth, filling.turn.within, filling.depth_is ∙ sym (groups-depth _), filling.shallow)

pub tries::catches-items-init : goal.tries::catches-items-init
tries::catches-items-init t c = first-filling _ _ _ _ _ _ _ c.new.ensures c.requires

pub tries::catches-items-preserved : goal.tries::catches-items-preserved
tries::catches-items-preserved t c =
    let tried = rw c.in-Some.is at c.in_ok-next.ensures in
    let taken = rw tried at c.catch_part.ensures.gives in
    let forth = rw tried at c.catch_part.ensures.forth in
    let grown = c.in_ok-list.ensures in
    rw grown.1 (next-filling _ _ _ _ _ _ _ _ _ c.in-Some.next.tree c.in-Some.next.end c.in-Some.next.depth _ _ c.items.invariant taken.0 forth taken.2 taken.3 taken.4 grown.0 grown.2)

pub tries::catches-returns : goal.tries::catches-returns
tries::catches-returns t c =
    let missing = rw c.in_default.is at c.in_ok-next.ensures in
    let nothing = rw missing at c.catch_part.ensures.gives in
    let filling = c.items.invariant in
    (last-filling _ _ _ _ _ _ _ _ _ filling nothing, filling.turn.forth, filling.turn.within, filling.depth_is ∙ sym (catches-depth _), filling.shallow)

-- ---- whole rooms

pub top::stmt-returns-then-room-eq0 : goal.top::stmt-returns-then-room-eq0
top::stmt-returns-then-room-eq0 t c = stmt-empty _ _ (omega arith)

pub top::stmt-returns : goal.top::stmt-returns
top::stmt-returns t c =
    let same : c.args.room - 1 + 1 ≡ c.args.room = omega arith in
    rw (stmt-room c.args.room (drop c.args.at c.args.t.now) (omega arith)) (rw same at c.any_stmt.ensures)

pub top::block_stmt-returns-then-room-eq0 : goal.top::block_stmt-returns-then-room-eq0
top::block_stmt-returns-then-room-eq0 t c = block_stmt-empty _ _ (omega arith)

pub top::block_stmt-returns-then-begins_local : goal.top::block_stmt-returns-then-begins_local
top::block_stmt-returns-then-begins_local t c =
    let local : begins_local (drop c.args.at c.args.t.now) ≡ true = sym c.begins_local.ensures ∙ c.if-begins_local.true in
    let same : c.args.room - 1 + 1 ≡ c.args.room = omega arith in
    rw (block_stmt-room c.args.room (drop c.args.at c.args.t.now) (omega arith), local) (rw same at c.local_stmt.ensures)

pub top::block_stmt-returns : goal.top::block_stmt-returns
top::block_stmt-returns t c =
    let other : begins_local (drop c.args.at c.args.t.now) ≡ false = sym c.begins_local.ensures ∙ c.if-begins_local.false in
    let same : c.args.room - 1 + 1 ≡ c.args.room = omega arith in
    rw (block_stmt-room c.args.room (drop c.args.at c.args.t.now) (omega arith), other) (rw same at c.any_stmt.ensures)
