use Rattle.rf_make.specs.Indexes.{outside}
use Rattle.rf_make.proofs.Indexing.{rows_more}
use Rattle.rf_make.proofs.indexes.put_outside.Goals as goal

pub loop-row-preserved : goal.loop-row-preserved
loop-row-preserved c = rows_more c.args.index.now c.loop-row.index c.put_row.new.index (λ _ row. outside row) c.args.rows.now c.row-item.result c.loop-row.row-index c.outside.result
    c.loop-row-test.true c.row-item.is c.outside.ensures c.loop-row.invariant c.in_ok-put_row.ensures
