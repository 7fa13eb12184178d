use Rattle.std.proofs.Common.{◌≡◌, ◌<◌, ◌∙◌, length, get_or, sym, subst, arith}
use Rattle.std.proofs.lemmas.Bool.{false≢true}
use Rattle.std.proofs.lemmas.List.{take_rest}
use Rattle.rf_jlex.specs.QuotedFronts.{IsOnlyStringBody}
use Rattle.rf_jlex.proofs.StringLiteralLemmas.{only_string, string_of}
use Rattle.rf_jlex.proofs.quoted.string_literal.Goals as goal
use Rattle.rf_jlex.proofs.quoted.string_literal.Goals.{else-is_at-via-then-is_at+else-is_utf8, else-is_at-via-else-is_at}

pub returns-then-is_utf8 : goal.returns-then-is_utf8
returns-then-is_utf8 c =
    let text = c.args.text.now in
    let n = c.string_body-length.result in
    let body = subst (λ xs. IsOnlyStringBody xs n) (take_rest text 1) c.string_body-length.ensures in
    let here = subst (λ xs. (n < length xs) × (get_or xs n 0 ≡ 34)) (take_rest text 1) (c.is_at.ensures.0 c.if-is_at.true) in
    only_string text n (omega arith) c.if-first-ne34.false body here.0 here.1 (c.is_utf8.ensures.0 c.if-is_utf8.true)

pub returns-else-is_at : goal.returns-else-is_at
returns-else-is_at c = λ m front.
    let text = c.args.text.now in
    let n = c.string_body-length.result in
    let body = subst (λ xs. IsOnlyStringBody xs n) (take_rest text 1) c.string_body-length.ensures in
    let found = string_of text n m body front in
    elim c.else-is_at.branch [
      | else-is_at-via-then-is_at+else-is_utf8 w ↦ false≢true (sym w.if-is_utf8.false ∙ w.is_utf8.ensures.1 found.2)
      | else-is_at-via-else-is_at w ↦ false≢true (sym w.if-is_at.false ∙ c.is_at.ensures.1 (subst (λ xs. (n < length xs) × (get_or xs n 0 ≡ 34)) (sym (take_rest text 1)) (found.0, found.1)))
    ]
