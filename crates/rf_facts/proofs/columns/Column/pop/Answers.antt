use Rattle.std.proofs.Common.{arith, ap, ◌∙◌, ◌++◌}
use Rattle.std.specs.Option.{option_to_list}
use Rattle.rf_facts.proofs.Indexes.{room_to_pop, popped}
use Rattle.rf_facts.proofs.columns.Column.pop.Goals as goal

pub index_mut-requires : goal.index_mut-requires
index_mut-requires c = let lt = room_to_pop c.self.inside.vals.items c.pop.new.self.items c.self.inside.last.items c.self.inside.prev.items c.self.inside.prev.items c.in-Some.value
    c.self.invariant (c.pop.ensures.items ∙ ap (λ r. c.pop.new.self.items ++ option_to_list r) c.in-Some.is) in omega (arith, lt, c.self.inside.last.ok.0)

pub invariant_of-self-2 : goal.invariant_of-self-2
invariant_of-self-2 c = popped c.self.inside.vals.items c.pop.new.self.items c.self.inside.last.items c.self.inside.prev.items c.pop-2.new.self.items c.in-Some.value
    c.in-Some-pop.before c.self.invariant
    (c.pop.ensures.items ∙ ap (λ r. c.pop.new.self.items ++ option_to_list r) c.in-Some.is)
    (c.pop-2.ensures.items ∙ ap (λ r. c.pop-2.new.self.items ++ option_to_list r) c.in-Some-pop.is)
