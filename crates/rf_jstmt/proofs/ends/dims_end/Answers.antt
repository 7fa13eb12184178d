-- Where no further pair stands, the loop has passed all of them.
use Rattle.std.proofs.Common.{[], ◌∷◌, ◌++◌}
use Rattle.rf_jexpr.proofs.TurnLemmas.{first-turn, next-turn, last-turn}
use Rattle.rf_jexpr.specs.NameReads.{brackets}
use Rattle.rf_jstmt.proofs.ends.dims_end.Goals as goal

pub items-init : goal.items-init
items-init c = ([], first-turn _ _ _ c.requires)

pub items-preserved : goal.items-preserved
unfolding brackets
items-preserved c =
    let passed = c.items.invariant in
    let found = c.in-Some.ensures.end in
    (passed.0 ++ found.item ∷ [], next-turn _ _ _ _ _ _ _ passed.1 found.is c.in-Some.ensures.forth found.within)

pub returns : goal.returns
unfolding brackets
returns c =
    let passed = c.items.invariant in
    record { item = passed.0; is = last-turn _ _ _ _ _ passed.1 c.in_default.ensures.end; forth = passed.1.forth; within = passed.1.within }
