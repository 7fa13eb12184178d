use Rattle.std.proofs.Common.{◌≡◌, ◌+◌, ℕ, List, [], ◌∷◌, drop, get_or, length, ap, ◌∙◌, sym}
use Rattle.std.proofs.lemmas.List.{drop_more, drop_all}
use Rattle.rf_refute.specs.Stacks.{values_from}
use Rattle.rf_refute.proofs.Listing.{values_alive, listed_none, listed_other, listed_up, listed_down, listed_over}
use Rattle.rf_refute.proofs.fitting.are_values.Goals as goal

pub returns-in-None : goal.returns-in-None
returns-in-None g c = λ is. listed_none c.args.listed.now c.loop-v.v-index _ c.loop-v-test.true (c.loop-v.invariant.down is) c.in-None.ensures

pub returns-then-w-v : goal.returns-then-w-v
returns-then-w-v g c = λ is. let next = c.in-Some.ensures in let δ = g.D.Alive.family c.args.doms.now in
    c.if-w-v.true (listed_other c.args.vals.now δ c.args.x c.loop-v.from c.in-Some.w c.args.listed.now c.loop-v.v-index c.requires next c.loop-v-test.true
    (c.loop-v.invariant.down is))

pub loop-v-preserved : goal.loop-v-preserved
loop-v-preserved g c = let next = c.in-Some.ensures in let δ = g.D.Alive.family c.args.doms.now in record {
  up = λ is. c.loop-v.invariant.up (listed_up c.args.vals.now δ c.args.x c.loop-v.from c.in-Some.w c.args.listed.now c.loop-v.v-index c.requires next c.loop-v-test.true
      c.if-w-v.false is);
  down = λ is. listed_down c.args.vals.now δ c.args.x c.loop-v.from c.in-Some.w c.args.listed.now c.loop-v.v-index c.requires next c.loop-v-test.true
      (c.loop-v.invariant.down is);
}

pub returns-in-None-next_from : goal.returns-in-None-next_from
returns-in-None-next_from g c = c.loop-v.invariant.up (drop_all c.loop-v.v-index c.args.listed.now c.loop-v-test.false ∙ sym c.in-None-next_from.ensures)

pub returns-in-Some-next_from : goal.returns-in-Some-next_from
returns-in-Some-next_from g c = λ is. let next = c.in-Some-next_from.ensures in
    listed_over c.args.vals.now (g.D.Alive.family c.args.doms.now) c.args.x c.loop-v.from c.in-Some-next_from.field-0 c.args.listed.now c.loop-v.v-index c.requires next
    c.loop-v-test.false (c.loop-v.invariant.down is)
