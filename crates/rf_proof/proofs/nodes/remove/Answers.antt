use Rattle.std.proofs.Common.{sym, ◌∙◌, subst}
use Rattle.rf_proof.proofs.Behind.{no_remove_x, no_remove_v, no_remove_c}
use Rattle.rf_proof.proofs.nodes.remove.Goals as goal

pub returns-in_err-x : goal.returns-in_err-x
returns-in_err-x c = rw c.from_residual.ensures (no_remove_x c.args.text.now c.in_err-x.ensures)

pub returns-in_err-v : goal.returns-in_err-v
returns-in_err-v c = rw c.from_residual-in_err-v.ensures (no_remove_v c.args.text.now c.in_ok-x.x c.in_ok-x.rest.now c.in_ok-x.ensures c.in_err-v.ensures)

pub returns-in_err-c : goal.returns-in_err-c
returns-in_err-c c = rw c.from_residual-in_err-c.ensures
    (no_remove_c c.args.text.now c.in_ok-x.x c.in_ok-x.rest.now c.in_ok-v.v c.in_ok-v.rest.now c.in_ok-x.ensures c.in_ok-v.ensures c.in_err-c.ensures)
