use Rattle.std.proofs.Common.{take}
use Rattle.rf_make.specs.Indexes.{PutsRows, outside}
use Rattle.rf_make.proofs.indexes.put_outside.Given as goal

abbrev pub invariant-loop-row : goal.invariant-loop-row
invariant-loop-row l = PutsRows l.initial.index (λ _ row. outside row) (take l.row-index l.rows) l.index
