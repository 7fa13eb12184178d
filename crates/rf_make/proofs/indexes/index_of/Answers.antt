use Rattle.std.proofs.Common.{subst}
use Rattle.rf_make.specs.declared.indexes.Index.{Index}
use Rattle.rf_make.specs.Indexes.{PutsRows, outside, own}
use Rattle.rf_make.proofs.Indexing.{indexed, none_under}
use Rattle.rf_make.proofs.indexes.index_of.Goals as goal

pub returns : goal.returns
returns c = let none : Index = record { values = c.new.result; slots = c.new-2.result } in
    indexed c.args.table.now none c.put_own.new.index c.put_outside.new.index (none_under c.new.result c.new.ensures.empty) (none_under c.new-2.result c.new-2.ensures.empty)
    (subst (λ rows. PutsRows none own rows c.put_own.new.index) c.as_slice.ensures c.in_ok-put_own.ensures)
    (subst (λ rows. PutsRows c.put_own.new.index (λ _ row. outside row) rows c.put_outside.new.index) c.as_slice-2.ensures c.in_ok-put_outside.ensures)
