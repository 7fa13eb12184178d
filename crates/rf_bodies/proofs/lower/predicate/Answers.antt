use Rattle.std.proofs.Common.{rules}
use Rattle.rf_bodies.specs.declared.bodies.Body.TheVariants.{Slot, Derived}
use Rattle.rf_bodies.proofs.Saying.{slot_says, derived_says, told_predicate}
use Rattle.rf_bodies.proofs.lower.predicate.Goals as goal

pub returns-then-eq : goal.returns-then-eq
returns-then-eq c = told_predicate c.args.derived.now c.args.names.now c.args.ask.now (Slot c.in_ok-args.args) c.new.result c.new.ensures
    (slot_says c.args.derived.now c.args.names.now c.args.ask.now c.in_ok-args.args (search rules) (search rules))

pub returns : goal.returns
returns c = told_predicate c.args.derived.now c.args.names.now c.args.ask.now (Derived c.number_in-which.result c.in_ok-args.args) c.new-2.result c.new-2.ensures
    (derived_says c.args.derived.now c.args.names.now c.args.ask.now c.number_in-which.result c.in_ok-args.args (search rules) (search rules) (search rules))
