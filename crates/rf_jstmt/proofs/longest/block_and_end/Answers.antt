use Rattle.std.proofs.Common.{drop, refl, arith, rules}
use Rattle.rf_jstmt.proofs.StmtRooms.{whole_block-empty, whole_block-room}
use Rattle.rf_jstmt.proofs.longest.block_and_end.Goals as goal

pub returns-then-room-eq0 : goal.returns-then-room-eq0
returns-then-room-eq0 c = whole_block-empty _ _ (omega arith)

pub returns-in_err-found : goal.returns-in_err-found
returns-in_err-found c = rw (whole_block-room c.args.room (drop c.args.at c.args.t.now) (omega arith)) (search rules)

pub returns : goal.returns
returns c =
    let found = c.in_ok-found.ensures in
    (rw (whole_block-room c.args.room (drop c.args.at c.args.t.now) (omega arith), found.0, c.into_inner.ensures) refl, found.2)
