use Rattle.std.proofs.Common.{◌≡◌, ◌+◌, ◌-◌, ◌≤◌, length}
use Rattle.rf_form.specs.Alive.{IsFit}
use Rattle.rf_prop.specs.Cuts.{Logged}
use Rattle.rf_prop.specs.Queues.{AllReady}
use Rattle.rf_prop.specs.Weights.{alive_places}
use Rattle.rf_prop.proofs.closing.close_in.Given as goal

abbrev pub invariant-loop-done : goal.invariant-loop-done
invariant-loop-done g l = let s = g.C.Constraints.system l.all in record {
  first : g.S.Store.first l.store ≡ g.S.Store.first l.fn.store;
  fit : IsFit s.vals (g.S.Alive.family l.store);
  logged : Logged s (g.S.Alive.family l.fn.store) (g.S.Store.removed l.fn.store) l.fn.log
      (g.S.Alive.family l.store) (g.S.Store.removed l.store) l.log;
  ready : AllReady s (g.S.Alive.family l.store) l.log l.done;
  from : length l.fn.log ≤ l.done;
  behind : l.done ≤ length l.log;
}

abbrev pub decreases-loop-done : goal.decreases-loop-done
decreases-loop-done g l = alive_places (g.C.Constraints.system l.all) (g.S.Alive.family l.store) + length l.log - l.done
