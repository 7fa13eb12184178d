use Rattle.std.proofs.Common.{◌∙◌, ⊎_elim, ap, sym, arith}
use Rattle.rf_jtree.specs.Escapes.{IsUnicodeEscape}
use Rattle.rf_jlex.specs.EscapeFronts.{hex_code}
use Rattle.rf_jlex.proofs.UnicodeEscapeLemmas.{counted_behind, behind_us, none_not_begun, none_not_coded, none_refused, only_front, gives_none, Contains-from_test, not_Contains-from_test}
use Rattle.rf_jlex.proofs.escapes.unicode_escape.Goals as goal

pub returns-then-first-ne92 : goal.returns-then-first-ne92
returns-then-first-ne92 c = λ n front.
    none_not_begun c.args.refused.now c.args.text.now c.count_u-count.result n (counted_behind c.args.text.now c.count_u-count.result c.count_u-count.ensures.counted)
    (λ first. ⊎_elim (λ other. absurd (other first)) (λ both. both.1) c.then-first-ne92.either)
    front

pub returns-in_err-code : goal.returns-in_err-code
returns-in_err-code c =
    gives_none (IsUnicodeEscape c.args.refused.now) c.args.text.now c.from_residual.result c.from_residual.ensures
    (λ n front.
    none_not_coded c.args.refused.now c.args.text.now c.count_u-count.result n (counted_behind c.args.text.now c.count_u-count.result c.count_u-count.ensures.counted)
    (c.in_err-code.ensures ∙ ap hex_code (behind_us c.args.text.now c.count_u-count.result))
    front)

pub returns-then-contains : goal.returns-then-contains
returns-then-contains c = λ n front.
    none_refused c.args.refused.now c.args.text.now c.count_u-count.result c.in_ok-code.code n (counted_behind c.args.text.now c.count_u-count.result c.count_u-count.ensures.counted)
    (c.in_ok-code.ensures ∙ ap hex_code (behind_us c.args.text.now c.count_u-count.result))
    (Contains-from_test c.args.refused.now c.in_ok-code.code (sym c.contains.ensures.value ∙ c.if-contains.true))
    front

pub returns-else-contains : goal.returns-else-contains
returns-else-contains c =
    only_front c.args.refused.now c.args.text.now c.count_u-count.result c.in_ok-code.code (omega arith) c.if-first-ne92.false (omega arith)
    (counted_behind c.args.text.now c.count_u-count.result c.count_u-count.ensures.counted)
    (c.in_ok-code.ensures ∙ ap hex_code (behind_us c.args.text.now c.count_u-count.result))
    (not_Contains-from_test c.args.refused.now c.in_ok-code.code (sym c.contains.ensures.value ∙ c.if-contains.false))
