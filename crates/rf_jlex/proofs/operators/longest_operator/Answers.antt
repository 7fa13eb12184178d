use Rattle.std.proofs.Common.{sym, ◌∙◌}
use Rattle.rf_jlex.proofs.OperatorFrontLemmas.{gives_operator}
use Rattle.rf_jlex.proofs.operators.longest_operator.Goals as goal

pub returns : goal.returns
returns c =
    gives_operator c.args.text.now c.most_bytes.result c.longest_within.result (sym c.begins_comment.ensures ∙ c.if-begins_comment.false) c.most_bytes.ensures c.longest_within.ensures
