use Rattle.std.proofs.Common.{⊎_elim, arith}
use Rattle.rf_jlex.proofs.OctalEscapeLemmas.{octal_longest, octal_none, octal_behind}
use Rattle.rf_jlex.proofs.escapes.octal_escape.Goals as goal

pub returns-then-count-eq0 : goal.returns-then-count-eq0
returns-then-count-eq0 c =
    octal_none c.args.text.now c.count_octal_digits-count.result (octal_behind c.args.text.now c.count_octal_digits-count.result c.count_octal_digits-count.ensures.counted)
    (λ first. ⊎_elim (λ other. absurd (other first)) (λ both. both.1) c.if-count-eq0.either)

pub returns-else-count-eq0 : goal.returns-else-count-eq0
returns-else-count-eq0 c =
    octal_longest c.args.text.now c.count_octal_digits-count.result (omega arith) c.if-count-eq0.false.0 (omega (arith, c.if-count-eq0.false.1))
    (octal_behind c.args.text.now c.count_octal_digits-count.result c.count_octal_digits-count.ensures.counted)
