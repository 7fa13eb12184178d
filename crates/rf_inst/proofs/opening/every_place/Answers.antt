use Rattle.std.proofs.Common.{◌∙◌, ◌++◌, ◌∷◌, [], ap, sym}
use Rattle.rf_inst.proofs.Openings.{all_more}
use Rattle.rf_inst.proofs.opening.every_place.Goals as goal

pub loop-place-preserved : goal.loop-place-preserved
loop-place-preserved c = c.in_ok-push.ensures.ok ∙ (ap (λ l. l ++ c.loop-place.place ∷ []) c.loop-place.invariant ∙ sym (all_more c.loop-place.place))
