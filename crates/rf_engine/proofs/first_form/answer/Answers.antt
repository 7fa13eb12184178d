use Rattle.std.proofs.Common.{sym, ◌∙◌}
use Rattle.std.proofs.lemmas.Bool.{false≢true}
use Rattle.rf_engine.specs.FirstParts.{form_seen}
use Rattle.rf_engine.proofs.AnswerLemmas.{refuses, renames}
use Rattle.rf_engine.proofs.first_form.answer.Goals as goal

pub returns-then-is_declared : goal.returns-then-is_declared
returns-then-is_declared c =
    let taken = c.is_declared.ensures.0 c.if-is_declared.true in
    refuses (form_seen c.args.form.now) c.args.form.now.file.names (sym c.eq.ensures ∙ c.if-eq.false) c.requires.names _ taken c.in_ok-report-2.ensures

pub returns : goal.returns
returns c =
    renames (form_seen c.args.form.now) c.args.form.now.file.names (sym c.eq.ensures ∙ c.if-eq.false) c.requires.names _ _
    (λ taken. false≢true (sym c.if-is_declared.false ∙ c.is_declared.ensures.1 taken)) c.in_ok-bytes-2.ensures c.in_ok-report-3.ensures
