use Rattle.std.proofs.Common.{◌≡◌, ◌++◌, ◌+◌, ◌∷◌, [], ◌∙◌, ℕ, List, sym, ap, append_assoc}
use Rattle.rf_refute.specs.Stacks.{values_from}
use Rattle.rf_refute.proofs.Listing.{values_alive}
use Rattle.rf_search.proofs.writing.places_of.Goals as goal

pub loop-v-preserved : goal.loop-v-preserved
loop-v-preserved g c = let δ = g.D.Alive.family c.args.doms.now in let vals = c.args.vals.now in let x = c.args.x in let v = c.in-Some.v in let next = c.in-Some.ensures in
    let rest = values_from vals δ x (v + 1) in
    ap (λ (l : List ℕ). l ++ rest) c.in_ok-push.ensures.ok ∙ (append_assoc c.loop-v.places.items (v ∷ []) rest
    ∙ (ap (λ (l : List ℕ). c.loop-v.places.items ++ l) (sym (next.same ∙ values_alive vals δ x v (c.requires.within x v next.alive) next.alive)) ∙ c.loop-v.invariant))
