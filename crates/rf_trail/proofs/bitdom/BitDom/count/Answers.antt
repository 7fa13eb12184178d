use Rattle.std.proofs.Common.{◌*◌}
use Rattle.rf_trail.proofs.Ranges.{set_counts}
use Rattle.rf_trail.proofs.bitdom.BitDom.count.Goals as goal

pub returns : goal.returns
returns g c = set_counts c.args.self.now (64 * g.row.W) c.size.result c.shape.ensures c.size.ensures
