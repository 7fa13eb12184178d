use Rattle.std.proofs.Common.{ap, ◌∙◌, ◌++◌, ◌∷◌, []}
use Rattle.rf_facts.proofs.Indexes.{pushed}
use Rattle.rf_facts.proofs.columns.Column.push.Goals as goal

pub invariant_of-self-2 : goal.invariant_of-self-2
invariant_of-self-2 c = pushed c.self.inside.vals.items c.push.new.self.items c.self.inside.last.items c.grow.new.last.items c.self.inside.prev.items
    c.push-2.new.self.items c.args.value c.len-place.result c.index-before.result.now c.self.invariant c.in_ok-grow.ensures.kept
    c.in_ok-grow.ensures.room c.index-before.ensures (c.len-place.ensures ∙ c.self.inside.vals.ok.0) c.in_ok-push.ensures.items
    (c.in_ok-push-2.ensures.items ∙ ap (λ l. l ++ c.index-before.result.now ∷ []) c.reserve.ensures.items)
