use Rattle.std.proofs.Common.{◌≡◌, ◌<◌, ℕ, List, length, ap, arith}
use Rattle.rf_refute.specs.declared.frames.Frame.{Frame}
use Rattle.rf_refute.specs.Stacks as stacks
use Rattle.rf_refute.proofs.Stackings.{framed}
use Rattle.rf_refute.proofs.entering.hold_next.Goals as goal

pub returns-in-Some-clause-entered : goal.returns-in-Some-clause-entered
returns-in-Some-clause-entered g c = let next = c.in-Some.ensures in let above = next.above in let lt : c.args.v < c.in-Some.w = omega arith in
    stacks.more c.in-Some.w lt next.alive next.same
    (framed c.mark.result.at (length (g.S.Store.removed c.args.store.now)) c.args.x c.in-Some.w c.args.frames.now.0 c.push.new.self.0
    (ap (λ (p : List Frame × ℕ). p.0) c.push.ensures) c.mark.ensures)
