use Rattle.std.proofs.Common.{take}
use Rattle.rf_make.specs.Indexes.{PutsRows, own}
use Rattle.rf_make.proofs.indexes.put_own.Given as goal

abbrev pub invariant-loop-x : goal.invariant-loop-x
invariant-loop-x l = PutsRows l.initial.index own (take l.x l.rows) l.index
