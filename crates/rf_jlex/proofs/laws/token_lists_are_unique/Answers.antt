use Rattle.rf_jlex.proofs.CutLemmas.{one_token_list}
use Rattle.rf_jlex.proofs.laws.token_lists_are_unique.Goals as goal

pub returns : goal.returns
returns c = one_token_list c.args.bytes.now
