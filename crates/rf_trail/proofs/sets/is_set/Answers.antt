use Rattle.std.proofs.Common.{◌*◌, ◌<◌, get_or, length, sym, ap, ◌∙◌, arith, rules}
use Rattle.std.proofs.lemmas.Bool.{both_ways}
use Rattle.std.proofs.lemmas.List.{get_or_default}
use Rattle.rf_form.specs.Alive.{is_among}
use Rattle.rf_trail.proofs.Filling.{next_fresh, next_below, filled_more, distinct_more, below_more}
use Rattle.rf_trail.proofs.sets.is_set.Goals as goal

pub returns-then-v : goal.returns-then-v
returns-then-v g c = let l = c.args.places.now in let k = c.loop-v.v-index in let v = get_or l k 0 in
    let lt : k < length l = c.loop-v-test.true in
    λ set. let low : v < 64 * g.row.W = next_below l (64 * g.row.W) k v set.below lt (get_or_default l k 0 v lt) in let above = c.if-v.true in omega arith

pub returns-then-has : goal.returns-then-has
returns-then-has g c = let l = c.args.places.now in let k = c.loop-v.v-index in let v = get_or l k 0 in
    let lt : k < length l = c.loop-v-test.true in
    λ set. both_ways (is_among v c.loop-v.dom) (next_fresh l k v c.loop-v.dom set.distinct lt (get_or_default l k 0 v lt) c.loop-v.invariant.same)
    (sym c.has.ensures ∙ c.if-has.true)

pub put-requires : goal.put-requires
put-requires g c = let above = c.if-v.false in (search rules, (omega arith, sym c.has.ensures ∙ c.if-has.false))

pub loop-v-preserved : goal.loop-v-preserved
loop-v-preserved g c = let l = c.args.places.now in let k = c.loop-v.v-index in let v = get_or l k 0 in
    let lt : k < length l = c.loop-v-test.true in let e = get_or_default l k 0 v lt in let i = c.loop-v.invariant in let above = c.if-v.false in record {
      same = λ w. ap (is_among w) c.put.ensures ∙ filled_more l k v c.loop-v.dom lt e i.same w;
      distinct = distinct_more l k v lt e i.distinct (sym (i.same v) ∙ (sym c.has.ensures ∙ c.if-has.false));
      below = below_more l (64 * g.row.W) k v lt e i.below (omega arith);
    }
