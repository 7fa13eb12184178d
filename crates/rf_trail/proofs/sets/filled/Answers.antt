use Rattle.std.proofs.Common.{ℕ, ◌+◌, ◌*◌, ◌<◌, get_or, rules, ap, ◌∙◌, length}
use Rattle.std.proofs.lemmas.List.{get_or_default}
use Rattle.rf_form.specs.Alive.{is_among}
use Rattle.rf_trail.proofs.Filling.{next_fresh, next_below, filled_more}
use Rattle.rf_trail.proofs.Rows.{length_inserted}
use Rattle.rf_trail.proofs.sets.filled.Goals as goal

pub put-requires : goal.put-requires
put-requires g c = let l = c.args.places.now in let k = c.loop-v.v-index in let v = get_or l k 0 in
    let lt : k < length l = c.loop-v-test.true in let e = get_or_default l k 0 v lt in (
      search rules,
      (next_below l (64 * g.row.W) k v c.requires.below lt e, next_fresh l k v c.loop-v.dom c.requires.distinct lt e c.loop-v.invariant.same),
    )

pub loop-v-preserved : goal.loop-v-preserved
loop-v-preserved g c = let l = c.args.places.now in let k = c.loop-v.v-index in let v = get_or l k 0 in
    let lt : k < length l = c.loop-v-test.true in let e = get_or_default l k 0 v lt in record {
      same = λ w. ap (is_among w) c.put.ensures ∙ filled_more l k v c.loop-v.dom lt e c.loop-v.invariant.same w;
      size = ap (length {A = ℕ}) c.put.ensures ∙ (length_inserted v c.loop-v.dom ∙ ap (λ (n : ℕ). n + 1) c.loop-v.invariant.size);
    }
