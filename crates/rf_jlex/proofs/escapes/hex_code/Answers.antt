use Rattle.std.proofs.Common.{lit<, ◌∙◌}
use Rattle.rf_jlex.proofs.HexLemmas.{hex_code-other, hex_code-values}
use Rattle.rf_jlex.proofs.escapes.hex_code.Goals as goal

pub returns-in_err-c : goal.returns-in_err-c
returns-in_err-c c = c.from_residual-in_err-c.ensures ∙ hex_code-other c.args.text.now 2 c.in-len4-up.len_at_least (lit< tt) c.in_err-c.ensures.value

pub returns-in_err-d : goal.returns-in_err-d
returns-in_err-d c = c.from_residual-in_err-d.ensures ∙ hex_code-other c.args.text.now 3 c.in-len4-up.len_at_least (lit< tt) c.in_err-d.ensures.value

pub returns : goal.returns
returns c =
    hex_code-values c.args.text.now c.in_ok-a.a c.in_ok-b.b c.in_ok-c.c c.in_ok-d.d c.in-len4-up.len_at_least c.in_ok-a.ensures.value c.in_ok-b.ensures.value c.in_ok-c.ensures.value c.in_ok-d.ensures.value
