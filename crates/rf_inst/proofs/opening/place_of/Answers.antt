use Rattle.std.proofs.Common.{◌∙◌, ◌++◌, ◌∷◌, [], ap, sym, eqb, cond, slice_index_or}
use Rattle.rf_inst.proofs.Openings.{kept_more}
use Rattle.rf_inst.proofs.opening.place_of.Goals as goal

pub loop-place-preserved : goal.loop-place-preserved
loop-place-preserved c = c.in_ok-keep.ensures ∙ (ap (λ l. l ++ cond (eqb (slice_index_or c.args.values.now c.loop-place.place 0) c.args.value) (c.loop-place.place ∷ []) []) c.loop-place.invariant
    ∙ sym (kept_more (λ v. eqb (slice_index_or c.args.values.now v 0) c.args.value) c.loop-place.place))
