-- What its reader reads is the longest.
use Rattle.rf_jtree.specs.NameFits.{TypeFits}
use Rattle.rf_jtree.specs.NameShown.{type_shown}
use Rattle.rf_jtree.specs.NameTrees.{type_yield}
use Rattle.rf_jexpr.specs.Longest.{not_deep}
use Rattle.rf_jexpr.specs.NameReads.{type_use}
use Rattle.rf_jexpr.proofs.AnswerLemmas.{longest_taken, types_longest}
use Rattle.rf_jexpr.proofs.longest.type_use.Goals as goal

pub returns-clause-longest : goal.returns-clause-longest
returns-clause-longest c = longest_taken TypeFits type_yield not_deep 0 type_use types_longest c.args.t.now c.args.at type_shown c.type_use.result c.type_use.ensures
