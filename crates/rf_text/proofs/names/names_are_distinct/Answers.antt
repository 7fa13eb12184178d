use Rattle.rf_text.proofs.NameLemmas.{texts_are_distinct}
use Rattle.rf_text.proofs.names.names_are_distinct.Goals as goal

pub returns : goal.returns
returns c = rw (← c.names.view_is) (texts_are_distinct c.names.inside.texts.keys c.len.ensures.unique)
