use Rattle.std.proofs.Common.{◌∙◌, sym}
use Rattle.rf_jstmt.proofs.FrontLemmas.{label-both, label-none}
use Rattle.rf_jstmt.proofs.fronts.begins_label.Goals as goal

pub returns-then-is_at : goal.returns-then-is_at
returns-then-is_at c = label-both c.args.t.now c.is_at-then-is_at.result (sym c.is_at.ensures ∙ c.if-is_at.true) c.is_at-then-is_at.ensures

pub returns-else-is_at : goal.returns-else-is_at
returns-else-is_at c = c.if-is_at.false ∙ label-none c.args.t.now (sym c.is_at.ensures ∙ c.if-is_at.false)
