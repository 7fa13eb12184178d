use Rattle.rf_jmodel.proofs.IdLemmas.{one-element, one-id}
use Rattle.rf_jmodel.proofs.laws.ids_are_unique.Goals as goal

pub returns-clause-element : goal.returns-clause-element
returns-clause-element c = one-element

pub returns-clause-id : goal.returns-clause-id
returns-clause-id c = one-id
