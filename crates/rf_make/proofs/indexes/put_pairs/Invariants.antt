use Rattle.std.proofs.Common.{◌&&◌, nat_eq, take}
use Rattle.std.specs.List.{list_any}
use Rattle.rf_make.specs.Indexes.{Puts}
use Rattle.rf_make.proofs.indexes.put_pairs.Given as goal

abbrev pub invariant-loop-n : goal.invariant-loop-n
invariant-loop-n l = Puts l.initial.map l.map (λ a b. list_any (nat_eq a) (take l.n-index l.elems) && list_any (nat_eq b) l.elems) l.entry
