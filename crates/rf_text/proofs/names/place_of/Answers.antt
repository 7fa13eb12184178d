use Rattle.rf_text.proofs.NameLemmas.{position-cases}
use Rattle.rf_text.proofs.names.place_of.Goals as goal

pub returns : goal.returns
returns c = rw c.get_index_of.ensures.index (position-cases c.args.text.now c.args.texts.now.keys)
