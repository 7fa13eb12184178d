use Rattle.std.proofs.Common.{◌∙◌, sym}
use Rattle.rf_jexpr.specs.Gives.{passes}
use Rattle.rf_jexpr.proofs.CursorLemmas.{token-None}
use Rattle.rf_jexpr.proofs.Tools.{token-other}
use Rattle.rf_jstmt.proofs.EndLemmas.{token-end}
use Rattle.rf_jstmt.proofs.ends.tok_end.Goals as goal

pub returns-in_default-clause-end : goal.returns-in_default-clause-end
returns-in_default-clause-end c = token-None (passes c.args.want) c.args.t.now c.args.at (rw c.in_default.is at c.tok_at.ensures.value)

pub returns-then-is_at-clause-end : goal.returns-then-is_at-clause-end
returns-then-is_at-clause-end c = token-end (passes c.args.want) c.args.t.now c.args.at _ (rw c.in-Some.is at c.tok_at.ensures.value) (rw c.in-Some.is at c.tok_at.ensures.within) (sym c.is_at.ensures ∙ c.if-is_at.true)

pub returns-else-is_at-clause-end : goal.returns-else-is_at-clause-end
returns-else-is_at-clause-end c = token-other (passes c.args.want) _ (sym c.is_at.ensures ∙ c.if-is_at.false)
