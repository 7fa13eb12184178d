use Rattle.std.proofs.Common.{length}
use Rattle.rf_jlex.proofs.WordFrontLemmas.{BeginsWithWord}
use Rattle.rf_jlex.proofs.words.longest_word.Given as goal

abbrev pub invariant-loop-more : goal.invariant-loop-more
invariant-loop-more l = BeginsWithWord l.text l.rest

abbrev pub decreases-loop-more : goal.decreases-loop-more
decreases-loop-more l = length l.rest
