-- What its reader reads is the longest.
use Rattle.rf_jtree.specs.ExprFits.{ArgsFit}
use Rattle.rf_jtree.specs.ExprShown.{args_shown}
use Rattle.rf_jtree.specs.ExprTrees.{args_yield, args_depth}
use Rattle.rf_jexpr.specs.Descent.{parsers}
use Rattle.rf_jexpr.specs.PartReads.{args}
use Rattle.rf_jexpr.proofs.AnswerLemmas.{args_longest, longest_found}
use Rattle.rf_jexpr.proofs.longest.args.Goals as goal

pub returns-clause-longest : goal.returns-clause-longest
returns-clause-longest c = longest_found ArgsFit args_yield args_depth c.args.room (args (parsers c.args.room)) (args_longest c.args.room) c.args.t.now c.args.at args_shown c.args_alone.result c.args_alone.ensures
