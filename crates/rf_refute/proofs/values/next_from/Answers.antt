use Rattle.std.proofs.Common.{◌≡◌, ◌<◌, ◌≤◌, ◌∙◌, length, sym, arith}
use Rattle.rf_form.specs.Truths.{row}
use Rattle.rf_refute.proofs.Listing.{values_dead, values_past}
use Rattle.rf_refute.proofs.values.next_from.Goals as goal

pub loop-v-preserved : goal.loop-v-preserved
loop-v-preserved g c = let width = c.width_of-v-end.ensures in let test = c.loop-v-test.true in
    let lt : c.loop-v.v < length (row c.args.vals.now c.args.x) = omega arith in
    c.loop-v.invariant ∙ values_dead c.args.vals.now (g.D.Alive.family c.args.doms.now) c.args.x c.loop-v.v lt (sym c.has.ensures ∙ c.if-has.false)

pub returns : goal.returns
returns g c = let width = c.width_of-v-end.ensures in let test = c.loop-v-test.false in
    let le : length (row c.args.vals.now c.args.x) ≤ c.loop-v.v = omega arith in
    c.loop-v.invariant ∙ values_past c.args.vals.now (g.D.Alive.family c.args.doms.now) c.args.x c.loop-v.v le
