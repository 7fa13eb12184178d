use Rattle.rf_jtree.proofs.WordLemmas.{keyword_of-word, slice_get-keyword}
use Rattle.rf_jtree.proofs.words.keywords_are_found.Goals as goal

pub returns-clause-each : goal.returns-clause-each
returns-clause-each c = keyword_of-word

pub returns-clause-only : goal.returns-clause-only
returns-clause-only c = λ n. slice_get-keyword n c.args.bytes.now
