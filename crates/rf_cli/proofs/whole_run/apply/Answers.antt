use Rattle.std.proofs.Common.{◌∙◌, ap, Err}
use Rattle.rf_cli.specs.Command.{command_seen}
use Rattle.rf_cli.specs.RunEnd.{ApplyEnd}
use Rattle.rf_cli.proofs.WholeRunLemmas.{acts_from}
use Rattle.rf_cli.proofs.whole_run.apply.Goals as goal

pub returns-in-Ok : goal.returns-in-Ok
returns-in-Ok g c =
    ApplyEnd.said c.in-Ok.decision.path c.in-Ok.decision.answer c.in-Ok.ensures.right
    (c.act.ensures.same_reads ∙ c.in-Ok.ensures.cause.kept)
    (acts_from (command_seen c.args.command.now).out c.in-Ok.decision.path c.in-Ok.decision.answer _ _ _ _ _ _ _ _ _ _ c.act.result
    c.in-Ok.ensures.same_files c.in-Ok.ensures.cause.kept c.in-Ok.ensures.same_write_faults c.in-Ok.ensures.same_honest c.act.ensures.acts)

pub returns-in-Err-Failed : goal.returns-in-Err-Failed
returns-in-Err-Failed g c =
    ApplyEnd.read_fault (c.in-Err-Failed.ensures.cause.failed (ap (λ e. Err e) c.in-Err-Failed.field-0-is))
    (λ honest asked. c.in-Err-Failed.ensures.never honest asked (ap (λ e. Err e) c.in-Err-Failed.field-0-is))
    (record { stays = record { files = c.in-Err-Failed.ensures.same_files; writes = c.in-Err-Failed.ensures.same_write_faults }; puts = c.put.ensures })
