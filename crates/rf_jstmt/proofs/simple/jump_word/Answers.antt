use Rattle.std.proofs.Common.{◌∙◌, sym, drop}
use Rattle.rf_jstmt.proofs.HeadLemmas.{jump-break, jump-continue}
use Rattle.rf_jstmt.proofs.simple.jump_word.Goals as goal

pub returns-then-is_at : goal.returns-then-is_at
returns-then-is_at c = rw (jump-break (drop c.args.at c.args.t.now) (sym c.is_at.ensures ∙ c.if-is_at.true)) c.take.ensures.gives

pub returns : goal.returns
returns c = rw (jump-continue (drop c.args.at c.args.t.now) (sym c.is_at.ensures ∙ c.if-is_at.false)) c.take-2.ensures.gives
