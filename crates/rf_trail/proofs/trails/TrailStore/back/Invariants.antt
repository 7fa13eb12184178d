use Rattle.std.proofs.Common.{◌≡◌, ◌≤◌, ◌-◌, take}
use Rattle.rf_form.specs.Alive.{among}
use Rattle.rf_trail.specs.Removals.{began}
use Rattle.rf_trail.proofs.trails.TrailStore.back.Given as goal

abbrev pub invariant-loop-self : goal.invariant-loop-self
invariant-loop-self g l = record {
  first : began (among l.self.doms.items) (take l.self.top l.self.log.items)
      ≡ began (among l.initial.self.doms.items) (take l.initial.self.top l.initial.self.log.items);
  log : l.self.log.items ≡ l.initial.self.log.items;
  top : l.self.top ≤ l.initial.self.top;
  mark : l.mark.at ≤ l.self.top;
}

abbrev pub decreases-loop-self : goal.decreases-loop-self
decreases-loop-self g l = l.self.top - l.mark.at
