use Rattle.rf_form.proofs.Counts.{rows_count}
use Rattle.rf_form.proofs.domains.DomsAlive.size.Goals as goal

pub returns : goal.returns
returns c = rows_count c.args.self.now.alive c.args.x c.bound_of.result c.count_in.result c.places_of-row.result.now c.places_of-row.ensures
    c.bound_of.ensures.within c.count_in.ensures
