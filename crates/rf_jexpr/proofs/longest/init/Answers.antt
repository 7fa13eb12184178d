-- What its reader reads is the longest.
use Rattle.rf_jtree.specs.ExprFits.{InitFits}
use Rattle.rf_jtree.specs.ExprTrees.{init_yield, init_depth}
use Rattle.rf_jexpr.specs.Descent.{parsers}
use Rattle.rf_jmake.specs.ExprMade.{boxed_init_shown}
use Rattle.rf_jexpr.proofs.AnswerLemmas.{inits_longest, longest_found}
use Rattle.rf_jexpr.proofs.longest.init.Goals as goal

pub returns-clause-longest : goal.returns-clause-longest
returns-clause-longest c = longest_found InitFits init_yield init_depth c.args.room (parsers c.args.room).init (inits_longest c.args.room) c.args.t.now c.args.at boxed_init_shown c.init.result c.init.ensures
