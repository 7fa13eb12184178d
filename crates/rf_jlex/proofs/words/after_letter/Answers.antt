use Rattle.std.proofs.Common.{sym, ◌∙◌}
use Rattle.rf_jtree.specs.Identifiers.{is_letter}
use Rattle.rf_jlex.proofs.LetterLemmas.{none_passes}
use Rattle.rf_jlex.proofs.words.after_letter.Goals as goal

pub returns-else-is_letter : goal.returns-else-is_letter
returns-else-is_letter c =
    none_passes is_letter c.args.text.now c.in_ok-first.first.character c.in_ok-first.first.rest.now c.in_ok-first.ensures (sym c.is_letter.ensures ∙ c.if-is_letter.false)
