use Rattle.rf_search.proofs.Widths.{empty_narrow, one_narrow}
use Rattle.rf_search.proofs.splitting.is_wide.Goals as goal

pub returns-in-None : goal.returns-in-None
returns-in-None g c = empty_narrow c.args.vals.now (g.D.Alive.family c.args.doms.now) c.args.x c.requires c.in-None.ensures

pub returns-in-None-next_from : goal.returns-in-None-next_from
returns-in-None-next_from g c = one_narrow c.args.vals.now (g.D.Alive.family c.args.doms.now) c.args.x c.in-Some.v c.requires c.in-Some.ensures c.in-None-next_from.ensures
