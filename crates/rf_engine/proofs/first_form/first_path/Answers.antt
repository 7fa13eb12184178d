use Rattle.std.proofs.lemmas.Result.{IfOk-weaker}
use Rattle.rf_engine.proofs.AnswerLemmas.{answer_is_read}
use Rattle.rf_engine.proofs.first_form.first_path.Goals as goal

pub returns-in-Some : goal.returns-in-Some
returns-in-Some c =
    let reading = rw c.in-Some.is at c.in_ok-form.ensures in
    let read = answer_is_read c.args.path.now c.args.file.now c.args.request.now c.in-Some.form in
    IfOk-weaker c.answer.result _ _ (λ answer is. read answer reading is) c.answer.ensures
