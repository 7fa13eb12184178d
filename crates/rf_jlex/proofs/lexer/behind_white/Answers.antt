use Rattle.std.proofs.Common.{ap, ◌∙◌, length}
use Rattle.std.specs.List.{take_while}
use Rattle.rf_jlex.specs.Classes.{is_white}
use Rattle.rf_jlex.proofs.RunLemmas.{Skips-white}
use Rattle.rf_jlex.proofs.lexer.behind_white.Goals as goal

pub returns-clause-skips : goal.returns-clause-skips
returns-clause-skips c =
    Skips-white c.args.text.now c.args.at c.white_length.result c.requires
    (c.white_length.ensures ∙ ap (λ rest. length (take_while is_white rest)) c.split_at.ensures.back)
