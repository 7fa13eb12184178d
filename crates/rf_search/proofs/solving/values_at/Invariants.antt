use Rattle.std.proofs.Common.{◌≡◌}
use Rattle.rf_form.specs.Need.{solution}
use Rattle.rf_cons.specs.Systems.{problem}
use Rattle.rf_search.proofs.Valuings.{valued_to}
use Rattle.rf_search.proofs.solving.values_at.Given as goal

abbrev pub invariant-loop-x : goal.invariant-loop-x
invariant-loop-x g l = let s = g.C.Constraints.system l.all in l.values ≡ valued_to s (solution (problem s) (g.D.Alive.family l.doms)) l.x
