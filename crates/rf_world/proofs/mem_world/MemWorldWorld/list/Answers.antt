use Rattle.rf_world.proofs.Listing.{paths_are_listing}
use Rattle.rf_world.proofs.mem_world.MemWorldWorld.list.Goals as goal

pub returns-clause-listing : goal.returns-clause-listing
returns-clause-listing c = paths_are_listing c.args.root.now c.args.self.now.files _ c.args.self.now.apart c.in_ok-paths.ensures
