use Rattle.std.proofs.Common.{sym, ◌∙◌}
use Rattle.rf_proof.proofs.Behind.{no_split_places, no_split_x}
use Rattle.rf_proof.proofs.Endings.{is_nil}
use Rattle.rf_proof.proofs.nodes.split.Goals as goal

pub returns-in_default : goal.returns-in_default
returns-in_default c = no_split_x c.args.text.now c.in_default.ensures

pub returns-then-is_empty : goal.returns-then-is_empty
returns-then-is_empty c =
    no_split_places c.args.text.now c.in-Some.x c.in-Some.rest.now c.in_ok-vals.vals.items c.in_ok-vals.rest.now c.in-Some.ensures c.in_ok-vals.ensures
    (sym c.as_slice.ensures ∙ is_nil c.as_slice.result.now c.is_empty.result c.is_empty.ensures c.if-is_empty.true)
