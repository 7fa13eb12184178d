use Rattle.std.proofs.Common.{◌∙◌, sym, arith}
use Rattle.std.proofs.lemmas.Bool.{false≢true}
use Rattle.rf_jlex.proofs.StringLemmas.{escape_step, plain_step, no_step}
use Rattle.rf_jlex.proofs.quoted.string_step.Goals as goal

pub returns-then-first-eq92 : goal.returns-then-first-eq92
returns-then-first-eq92 c = escape_step c.args.text.now c.escape.result c.if-first-eq92.true c.escape.ensures

pub returns-then-is_plain_byte : goal.returns-then-is_plain_byte
returns-then-is_plain_byte c = plain_step c.args.text.now (omega arith) c.if-first-eq92.false (c.is_plain_byte.ensures.0 c.if-is_plain_byte.true)

pub returns-else-is_plain_byte : goal.returns-else-is_plain_byte
returns-else-is_plain_byte c = λ end closed.
    no_step c.args.text.now end c.if-first-eq92.false (λ plain. false≢true (sym c.if-is_plain_byte.false ∙ c.is_plain_byte.ensures.1 plain)) closed
