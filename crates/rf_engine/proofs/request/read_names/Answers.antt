use Rattle.std.proofs.Common.{sym, ◌∙◌, subst}
use Rattle.std.proofs.lemmas.Bool.{false≢true}
use Rattle.rf_engine.specs.Request.{IsLineEnd}
use Rattle.rf_engine.proofs.RequestLemmas.{old_is_one, begins_with_new, new_is_one, names_are_read}
use Rattle.rf_engine.proofs.request.read_names.Goals as goal

pub returns-in_err-rest : goal.returns-in_err-rest
returns-in_err-rest c = rw c.from_residual-in_err-rest.ensures (λ old new names.
    c.in_err-rest.ensures _ (old_is_one c.args.text.now _ _ old new c.in_ok-old.ensures names).1)

pub returns-in_err-new : goal.returns-in_err-new
returns-in_err-new c = rw c.from_residual-in_err-new.ensures (λ old new names.
    c.in_err-new.ensures _ _ (begins_with_new c.args.text.now _ _ _ old new c.in_ok-old.ensures c.in_ok-rest.ensures names))

pub returns-then-not-is_line_end : goal.returns-then-not-is_line_end
returns-then-not-is_line_end c = λ old new names.
    let same = new_is_one c.args.text.now _ _ _ _ _ old new c.in_ok-old.ensures c.in_ok-rest.ensures c.in_ok-new.ensures names in
    false≢true (sym c.if-not-is_line_end.true ∙ c.is_line_end.ensures.1 (subst IsLineEnd same.1 names.ends))

pub returns : goal.returns
returns c = names_are_read c.args.text.now _ _ _ _ _ c.in_ok-old.ensures c.in_ok-rest.ensures c.in_ok-new.ensures (c.is_line_end.ensures.0 c.if-not-is_line_end.false)
