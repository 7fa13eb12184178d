use Rattle.std.proofs.Common.{arith}
use Rattle.rf_inst.proofs.Openings.{opened, read_at}
use Rattle.rf_inst.proofs.opening.first_doms.Goals as goal

pub loop-x-preserved : goal.loop-x-preserved
loop-x-preserved c = opened c.args.t.now.forced c.loop-x.x c.args.i.now.vals c.loop-x.alive c.push.new.self c.in_ok-places.places c.as_slice-in-loop-x.result.now
    (omega (arith, c.len-x-end.ensures)) c.loop-x.invariant c.in_ok-push.ensures.ok c.in_ok-places.ensures
    (read_at c.as_slice.result.now c.args.i.now.vals c.loop-x.x c.index-as_slice-x.result c.as_slice-in-loop-x.result.now c.as_slice-in-loop-x.ensures c.index-as_slice-x.is
    c.as_slice.ensures (omega (arith, c.len-x-end.ensures)))
