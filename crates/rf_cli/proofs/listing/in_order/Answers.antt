use Rattle.rf_cli.proofs.ListingLemmas.{distinct_moved, ordered}
use Rattle.rf_cli.proofs.listing.in_order.Goals as goal

pub returns-clause-ok : goal.returns-clause-ok
returns-clause-ok g c =
    ordered c.in_ok-paths.paths _ c.sorted.ensures.permutation c.args.root.now (g.W.World.told c.args.world.now)
    c.sorted.ensures.order c.in_ok-paths.ensures.ok

pub returns-clause-once : goal.returns-clause-once
returns-clause-once g c = distinct_moved c.in_ok-paths.paths _ c.sorted.ensures.permutation c.in_ok-paths.ensures.once
