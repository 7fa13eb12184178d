use Rattle.std.proofs.Common.{◌&&◌, nat_eq, take}
use Rattle.std.specs.List.{list_any}
use Rattle.rf_make.specs.Indexes.{Puts}
use Rattle.rf_make.proofs.indexes.put_each.Given as goal

abbrev pub invariant-loop-n : goal.invariant-loop-n
invariant-loop-n l = Puts l.initial.map l.map (λ a b. nat_eq l.first a && list_any (nat_eq b) (take l.n-index l.elems)) l.entry
