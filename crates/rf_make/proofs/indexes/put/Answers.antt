use Rattle.std.proofs.Common.{sym, ◌∙◌}
use Rattle.rf_make.proofs.Indexing.{put_new}
use Rattle.rf_make.proofs.indexes.put.Goals as goal

pub returns : goal.returns
returns c = put_new c.args.map.now c.args.key c.args.entry c.insert.new.self (sym c.contains_key.ensures ∙ c.if-contains_key.false) c.in_ok-insert.ensures.updates.0
