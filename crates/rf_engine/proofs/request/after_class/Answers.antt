use Rattle.std.proofs.Common.{◌++◌, codes}
use Rattle.rf_engine.proofs.RequestLemmas.{after_dot}
use Rattle.rf_engine.proofs.request.after_class.Goals as goal

pub returns-in_err-rest : goal.returns-in_err-rest
returns-in_err-rest c = rw c.from_residual.ensures (λ rest same. c.in_err-rest.ensures (c.args.class.now ++ (codes "." ++ rest)) same)

pub returns : goal.returns
returns c = after_dot c.args.request.now c.args.class.now c.in_ok-rest.rest.now c.in_ok-rest-2.rest.now c.after-3.result c.in_ok-rest.ensures c.in_ok-rest-2.ensures c.after-3.ensures
