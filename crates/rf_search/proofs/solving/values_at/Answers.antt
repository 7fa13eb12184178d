use Rattle.std.proofs.Common.{◌≡◌, ◌<◌, ◌∙◌, ℕ, List, length, ap, arith}
use Rattle.rf_form.specs.Need.{solution}
use Rattle.rf_cons.specs.Systems.{problem}
use Rattle.rf_search.proofs.Valuings.{valued_none, valued_more, valued_all}
use Rattle.rf_search.proofs.solving.values_at.Goals as goal

pub loop-x-init : goal.loop-x-init
loop-x-init g c = let s = g.C.Constraints.system c.args.all.now in c.new-values.ensures ∙ valued_none s (solution (problem s) (g.D.Alive.family c.args.doms.now))

pub loop-x-preserved : goal.loop-x-preserved
loop-x-preserved g c = let s = g.C.Constraints.system c.args.all.now in let end = c.len-x-end.ensures in let test = c.loop-x-test.true in
    let lt : c.loop-x.x < length c.vals-vals.result.now = omega arith in
    valued_more s (g.D.Alive.family c.args.doms.now) c.vals-vals.result.now c.loop-x.x c.in_ok-value_of.field-0 c.loop-x.values c.push.new.self c.vals-vals.ensures lt
    c.loop-x.invariant c.in_ok-value_of.ensures c.in_ok-push.ensures.ok

pub returns : goal.returns
returns g c = let s = g.C.Constraints.system c.args.all.now in let count = ap (length {A = List ℕ}) c.vals-vals.ensures in let end = c.len-x-end.ensures in
    let low = c.loop-x-test.false in let high = c.loop-x.auto.x-end in let e : c.loop-x.x ≡ length s.vals = omega arith in
    c.loop-x.invariant ∙ valued_all s (solution (problem s) (g.D.Alive.family c.args.doms.now)) c.loop-x.x e
