use Rattle.std.proofs.Common.{sym, ◌∙◌}
use Rattle.std.proofs.lemmas.Bool.{false≢true}
use Rattle.rf_engine.proofs.FormLemmas.{request_of_form, target_of_form, form_is_read}
use Rattle.rf_engine.proofs.first_parts.read_first_form.Goals as goal

pub returns-in_default-read_request : goal.returns-in_default-read_request
returns-in_default-read_request c = λ form is.
    let reading = rw c.in-Some.is at c.in_ok-file.ensures in
    c.in_default-read_request.ensures form.old form.new (request_of_form c.args.path.now c.args.file.now c.args.request.now c.in-Some.file form reading is)

pub returns-then-not-is_declared : goal.returns-then-not-is_declared
returns-then-not-is_declared c = λ form is.
    let reading = rw c.in-Some.is at c.in_ok-file.ensures in
    let target = target_of_form c.args.path.now c.args.file.now c.args.request.now c.in-Some.file form _ _ reading c.in-Some-read_request.ensures is in
    false≢true (sym c.if-not-is_declared.true ∙ c.is_declared.ensures.1 target)

pub returns : goal.returns
returns c =
    let reading = rw c.in-Some.is at c.in_ok-file.ensures in
    form_is_read c.args.path.now c.args.file.now c.args.request.now _ reading c.in-Some-read_request.ensures c.if-request-gt-REQUEST_LIMIT.false (c.is_declared.ensures.0 c.if-not-is_declared.false)
