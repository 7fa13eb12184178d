use Rattle.std.proofs.Common.{refl}
use Rattle.rf_jtree.specs.Guesses.{keyword_guess}
use Rattle.rf_jtree.proofs.words.guess.Goals as goal

pub returns : goal.returns
unfolding keyword_guess
returns c = rw (c.byte_at.ensures.value, c.byte_at-2.ensures.value) refl
