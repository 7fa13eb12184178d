use Rattle.rf_engine.proofs.RequestLemmas.{request_is_read, request_of_another}
use Rattle.rf_engine.proofs.request.read_request.Goals as goal

pub returns-in_err-after_class : goal.returns-in_err-after_class
returns-in_err-after_class c = rw c.from_residual.ensures (request_of_another c.args.request.now c.args.class.now c.in_err-after_class.ensures)

pub returns : goal.returns
returns c = request_is_read c.args.request.now c.args.class.now c.in_ok-after_class.field-0.now c.read_names.result c.in_ok-after_class.ensures c.read_names.ensures
