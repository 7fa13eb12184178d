use Rattle.std.proofs.Common.{◌+◌, sym, ap, ◌∙◌, subst, arith}
use Rattle.rf_jlex.specs.OperatorFronts.{IsMost}
use Rattle.rf_jlex.proofs.OperatorFrontLemmas.{most_here, none_without_punctuation}
use Rattle.rf_jlex.proofs.operators.most_bytes.Goals as goal

pub returns-then-is_ascii_punctuation : goal.returns-then-is_ascii_punctuation
returns-then-is_ascii_punctuation c =
    subst (IsMost c.args.text.now) (ap (λ count. 1 + count) (sym c.bytes_that_go_on.ensures)) (most_here c.args.text.now (omega (arith, c.in-len1-up.len_at_least)))

pub returns-else-is_ascii_punctuation : goal.returns-else-is_ascii_punctuation
returns-else-is_ascii_punctuation c =
    none_without_punctuation c.args.text.now (omega (arith, c.in-len1-up.len_at_least)) (sym c.is_ascii_punctuation.ensures.value ∙ c.if-is_ascii_punctuation.false)
