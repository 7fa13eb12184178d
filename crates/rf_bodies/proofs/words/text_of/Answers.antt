use Rattle.std.proofs.Common.{◌∙◌}
use Rattle.rf_bodies.proofs.Finding.{found_at, found_nowhere}
use Rattle.rf_bodies.proofs.words.text_of.Goals as goal

pub returns-in_err-place : goal.returns-in_err-place
returns-in_err-place c = c.from_residual.ensures ∙ found_nowhere c.args.table.now.names c.args.text.now c.in_err-place.ensures

pub returns : goal.returns
returns c = found_at c.args.table.now.names c.args.text.now c.in_ok-place.place.0 c.names_are_distinct.ensures c.in_ok-place.ensures
