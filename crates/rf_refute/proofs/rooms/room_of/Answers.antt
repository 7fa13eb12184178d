use Rattle.std.proofs.Common.{◌≡◌, ◌+◌, ◌∙◌, ℕ, List, length, ap, arith, sym}
use Rattle.rf_refute.proofs.Roomings.{count_to, count_start, count_next, room_from}
use Rattle.rf_refute.proofs.rooms.room_of.Goals as goal

pub loop-x-init : goal.loop-x-init
loop-x-init g c = λ vals fit. count_start vals (g.D.Alive.family c.args.doms.now)

pub loop-x-preserved : goal.loop-x-preserved
loop-x-preserved g c = λ vals fit. let was = c.loop-x.invariant vals fit in
    let next = count_next vals (g.D.Alive.family c.args.doms.now) c.loop-x.x c.in_ok-size_of.field-0 fit c.in_ok-size_of.ensures in
    next ∙ (ap (λ (n : ℕ). n + c.in_ok-size_of.field-0) was ∙ sym c.in-Some.ensures.1)

pub returns : goal.returns
returns g c = let all = c.vals.result.now in let system = g.C.Constraints.system c.args.all.now in
    let counted = ap (length {A = List ℕ}) c.vals.ensures in let end = c.len-x-end.ensures in let low = c.loop-x-test.false in let high = c.loop-x.auto.x-end in
    let e : c.loop-x.x ≡ length system.vals = omega arith in
    room_from system.vals (g.D.Alive.family c.args.doms.now) c.loop-x.x c.loop-x.room c.requires e c.loop-x.invariant
