use Rattle.rf_jlex.proofs.SearchLemmas.{gives_first_end}
use Rattle.rf_jlex.proofs.comments.first_end.Goals as goal

pub returns : goal.returns
returns c = gives_first_end c.args.body.now c.find.result c.find.ensures
