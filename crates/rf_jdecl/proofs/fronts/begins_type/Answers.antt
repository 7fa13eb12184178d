use Rattle.std.proofs.Common.{◌∙◌, sym}
use Rattle.rf_jdecl.proofs.FrontLemmas.{type-class, type-other}
use Rattle.rf_jdecl.proofs.fronts.begins_type.Goals as goal

pub returns-then-is_at : goal.returns-then-is_at
returns-then-is_at c = c.if-is_at.true ∙ type-class c.args.t.now (sym c.is_at.ensures ∙ c.if-is_at.true)

pub returns-else-is_at : goal.returns-else-is_at
returns-else-is_at c = type-other c.args.t.now c.is_at-else-is_at.result (sym c.is_at.ensures ∙ c.if-is_at.false) c.is_at-else-is_at.ensures
