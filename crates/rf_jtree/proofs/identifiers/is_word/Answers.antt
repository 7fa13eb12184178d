use Rattle.rf_jtree.proofs.IdentifierLemmas.{letters_decide, no_letter_decides, no_text_decides}
use Rattle.rf_jtree.proofs.identifiers.is_word.Goals as goal

pub returns-then-begins_with_letter : goal.returns-then-begins_with_letter
returns-then-begins_with_letter c =
    letters_decide c.in-Ok.text.now c.args.bytes.now c.are_letters_and_digits.result c.in-Ok.ensures.cases
    (c.begins_with_letter.ensures.0 c.if-begins_with_letter.true) c.are_letters_and_digits.ensures

pub returns-else-begins_with_letter : goal.returns-else-begins_with_letter
returns-else-begins_with_letter c =
    no_letter_decides c.in-Ok.text.now c.args.bytes.now c.begins_with_letter.result c.in-Ok.ensures.cases
    c.begins_with_letter.ensures c.if-begins_with_letter.false

pub returns-in-Err : goal.returns-in-Err
returns-in-Err c = no_text_decides c.args.bytes.now c.in-Err.ensures.cases.0
