use Rattle.rf_tables.proofs.KeyOrderLemmas.{in-order}
use Rattle.rf_tables.proofs.type_keys.in_element_order.Goals as goal

pub returns-clause-order : goal.returns-clause-order
returns-clause-order c = in-order _ c.sort_unstable.ensures.sorted
