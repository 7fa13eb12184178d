use Rattle.rf_jlex.proofs.PieceLemmas.{white_given}
use Rattle.rf_jlex.proofs.pieces.white_space.Goals as goal

pub returns : goal.returns
returns c = white_given c.args.text.now c.requires
