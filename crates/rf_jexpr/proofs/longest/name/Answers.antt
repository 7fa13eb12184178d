-- What its reader reads is the longest.
use Rattle.rf_jtree.specs.NameFits.{NameFits}
use Rattle.rf_jtree.specs.NameShown.{name_shown}
use Rattle.rf_jtree.specs.NameTrees.{name_yield}
use Rattle.rf_jexpr.specs.Longest.{not_deep}
use Rattle.rf_jexpr.specs.NameReads.{name}
use Rattle.rf_jexpr.proofs.AnswerLemmas.{longest_taken, names_longest}
use Rattle.rf_jexpr.proofs.longest.name.Goals as goal

pub returns-clause-longest : goal.returns-clause-longest
returns-clause-longest c = longest_taken NameFits name_yield not_deep 0 name names_longest c.args.t.now c.args.at name_shown c.name.result c.name.ensures
