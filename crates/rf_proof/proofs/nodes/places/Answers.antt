use Rattle.std.proofs.Common.{List, ℕ, sym, subst}
use Rattle.rf_proof.proofs.Behind.{PlacesTo, places_more}
use Rattle.rf_proof.proofs.nodes.places.Goals as goal

pub loop-v-preserved : goal.loop-v-preserved
loop-v-preserved c = subst (λ (vs : List ℕ). PlacesTo c.args.text.now vs c.in-Some.rest.now) (sym c.in_ok-push.ensures.ok)
    (places_more c.args.text.now c.loop-v.vals.items c.loop-v.left.now c.in-Some.v c.in-Some.rest.now c.loop-v.invariant c.in-Some.ensures)
