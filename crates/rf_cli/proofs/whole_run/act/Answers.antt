use Rattle.std.proofs.Common.{ap, Err}
use Rattle.rf_cli.proofs.WholeRunLemmas.{acts_failed}
use Rattle.rf_cli.proofs.whole_run.act.Goals as goal

pub returns-in-Err-Failed-clause-acts : goal.returns-in-Err-Failed-clause-acts
returns-in-Err-Failed-clause-acts g c =
    acts_failed c.args.command.now.out.now c.args.decision.path c.in-Changed.bytes c.in-Changed.report _ _ c.args.decision.answer _ _ c.put_write_fault.result
    c.in-Changed.is c.as_slice-in-Changed.ensures c.as_slice-in-Changed-2.ensures c.put_write_fault.ensures.status
    c.in-Err-Failed.ensures.err (c.in-Err-Failed.ensures.cause.failed (ap (λ e. Err e) c.in-Err-Failed.field-0-is)) c.put_write_fault.ensures.puts
