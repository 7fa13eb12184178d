use Rattle.std.proofs.Common.{Err, ap}
use Rattle.rf_cli.specs.RulesEnd.{RulesEnd}
use Rattle.rf_cli.proofs.WholeRunLemmas.{not_built_in}
use Rattle.rf_cli.proofs.rule_files.rules.Goals as goal

pub returns-in-Ok : goal.returns-in-Ok
returns-in-Ok g c =
    RulesEnd.answered (not_built_in c.args.file.now c.as_slice.result.now c.eq.result c.eq.ensures c.if-eq.false c.as_slice.ensures)
    c.in-Ok.answer c.in-Ok.ensures.right c.in-Ok.ensures.cause.kept
    (record { stays = record { files = c.in-Ok.ensures.same_files; writes = c.in-Ok.ensures.same_write_faults }; puts = c.put_answer.ensures })

pub returns-in-Err-Failed : goal.returns-in-Err-Failed
returns-in-Err-Failed g c =
    let failed = ap (λ e. Err e) c.in-Err-Failed.field-0-is in
    RulesEnd.read_fault (not_built_in c.args.file.now c.as_slice.result.now c.eq.result c.eq.ensures c.if-eq.false c.as_slice.ensures)
    (c.in-Err-Failed.ensures.cause.failed failed) (λ honest asked. c.in-Err-Failed.ensures.never honest asked failed)
    (record { stays = record { files = c.in-Err-Failed.ensures.same_files; writes = c.in-Err-Failed.ensures.same_write_faults }; puts = c.put-in-Err-Failed.ensures })
