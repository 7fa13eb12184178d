use Rattle.std.proofs.Common.{sym, ◌∙◌, subst}
use Rattle.rf_proof.proofs.Behind.{no_last_number, no_last_end}
use Rattle.rf_proof.proofs.nodes.last_field.Goals as goal

pub returns-in_err-c : goal.returns-in_err-c
returns-in_err-c c = rw c.from_residual.ensures (no_last_number c.args.text.now c.in_err-c.ensures)

pub returns-in_err-rest : goal.returns-in_err-rest
returns-in_err-rest c = rw c.from_residual-in_err-rest.ensures (no_last_end c.args.text.now c.in_ok-c.c c.in_ok-c.rest.now c.in_ok-c.ensures c.in_err-rest.ensures)
