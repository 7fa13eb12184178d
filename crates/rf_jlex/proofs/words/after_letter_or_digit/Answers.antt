use Rattle.std.proofs.Common.{sym, ◌∙◌}
use Rattle.rf_jtree.specs.Identifiers.{is_letter_or_digit}
use Rattle.rf_jlex.proofs.LetterLemmas.{none_passes}
use Rattle.rf_jlex.proofs.words.after_letter_or_digit.Goals as goal

pub returns-else-is_letter_or_digit : goal.returns-else-is_letter_or_digit
returns-else-is_letter_or_digit c =
    none_passes is_letter_or_digit c.args.text.now c.in_ok-first.first.character c.in_ok-first.first.rest.now c.in_ok-first.ensures (sym c.is_letter_or_digit.ensures ∙ c.if-is_letter_or_digit.false)
