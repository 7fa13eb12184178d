use Rattle.std.proofs.Common.{◌∙◌, sym}
use Rattle.rf_jstmt.proofs.EndLemmas.{base-primitive, base-named}
use Rattle.rf_jstmt.proofs.ends.base_end.Goals as goal

pub returns-then-is_at : goal.returns-then-is_at
returns-then-is_at c = base-primitive c.args.t.now c.args.at _ (sym c.is_at.ensures ∙ c.if-is_at.true) c.tok_end.ensures.end

pub returns : goal.returns
returns c = base-named c.args.t.now c.args.at _ (sym c.is_at.ensures ∙ c.if-is_at.false) c.name_end.ensures
