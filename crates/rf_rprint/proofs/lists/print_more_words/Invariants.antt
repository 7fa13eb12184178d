use Rattle.std.proofs.Common.{◌≡◌, ◌++◌, length, map}
use Rattle.rf_rtree.specs.Plain.{after_commas, word_text}
use Rattle.rf_rprint.proofs.lists.print_more_words.Given as goal

abbrev pub invariant-loop-words : goal.invariant-loop-words
invariant-loop-words l = l.out ++ after_commas (map word_text l.words) ≡ l.fn.out ++ after_commas (map word_text l.fn.words)

abbrev pub decreases-loop-words : goal.decreases-loop-words
decreases-loop-words l = length l.words
