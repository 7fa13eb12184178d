use Rattle.rf_search.proofs.Valuings.{first_is}
use Rattle.rf_search.proofs.solving.first_place.Goals as goal

pub returns-in-Some : goal.returns-in-Some
returns-in-Some g c = first_is c.args.vals.now (g.D.Alive.family c.args.doms.now) c.args.x c.in-Some.v c.requires c.in-Some.ensures
