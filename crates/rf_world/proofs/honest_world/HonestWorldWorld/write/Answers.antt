use Rattle.std.proofs.Common.{refl}
use Rattle.rf_world.proofs.Listing.{put_in_map}
use Rattle.rf_world.proofs.honest_world.HonestWorldWorld.write.Goals as goal

pub returns-clause-written : goal.returns-clause-written
returns-clause-written c = put_in_map c.args.root.now c.args.path.now c.args.bytes.now _ c.args.self.now.files _ c.in_ok-put.ensures.ok refl
