use Rattle.rf_make.specs.Indexes.{own}
use Rattle.rf_make.proofs.Indexing.{rows_more}
use Rattle.rf_make.proofs.indexes.put_own.Goals as goal

pub loop-x-preserved : goal.loop-x-preserved
loop-x-preserved c = rows_more c.args.index.now c.loop-x.index c.put_row.new.index own c.args.rows.now c.index-rows-x.result c.loop-x.x c.own.result
    c.loop-x-test.true c.index-rows-x.is c.own.ensures c.loop-x.invariant c.in_ok-put_row.ensures
