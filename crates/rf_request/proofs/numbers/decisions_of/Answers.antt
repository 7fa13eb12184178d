use Rattle.std.proofs.Common.{◌≡◌, ◌∙◌, ap, sym, ◌<◌, ◌^◌, true, true≢false, arith}
use Rattle.rf_request.specs.Numbers.{is_plain}
use Rattle.rf_request.proofs.NumberLemmas.{parsed, unparsed, same_number, number_is_utf8, decimal_is_plain}
use Rattle.rf_request.proofs.numbers.decisions_of.Goals as goal

pub returns-then-not-is_plain : goal.returns-then-not-is_plain
returns-then-not-is_plain c = λ number most is.
    let small : number < 2 ^ 64 = omega (arith, most) in
    true≢false (sym (decimal_is_plain number small) ∙ ap is_plain (sym is) ∙ sym c.is_plain.ensures ∙ c.if-not-is_plain.true)

pub returns-in_default : goal.returns-in_default
returns-in_default c = λ number most is.
    c.in_default.ensures.cases.0 (number_is_utf8 c.args.word.now number (omega (arith, most)) is)

pub returns-in-Ok-parse : goal.returns-in-Ok-parse
returns-in-Ok-parse c =
    let text = c.in-Ok.text.now in
    let same : text ≡ c.args.word.now = c.in-Ok.ensures.cases.0 in
    let plain : is_plain text ≡ true = ap is_plain same ∙ sym c.is_plain.ensures ∙ c.if-not-is_plain.false in
    (c.if-number-le1000000.true, sym same ∙ parsed text c.in-Ok-parse.number plain c.in-Ok-parse.ensures.value.0)

pub returns-in_default-parse : goal.returns-in_default-parse
returns-in_default-parse c = λ number most is.
    let text = c.in-Ok.text.now in
    let same : text ≡ c.args.word.now = c.in-Ok.ensures.cases.0 in
    let plain : is_plain text ≡ true = ap is_plain same ∙ sym c.is_plain.ensures ∙ c.if-not-is_plain.false in
    let found = parsed text c.in-Ok-parse.number plain c.in-Ok-parse.ensures.value.0 in
    let fits : c.in-Ok-parse.number < 2 ^ 64 = omega arith in
    let equal = same_number number c.in-Ok-parse.number (omega (arith, most)) fits (sym is ∙ sym same ∙ found) in
    omega (arith, most, equal, c.if-number-le1000000.false)

pub returns-in_default-parse-2 : goal.returns-in_default-parse-2
returns-in_default-parse-2 c = λ number most is.
    let text = c.in-Ok.text.now in
    let same : text ≡ c.args.word.now = c.in-Ok.ensures.cases.0 in
    unparsed text number (omega (arith, most)) c.in_default-parse.ensures.value.0 (same ∙ is)
