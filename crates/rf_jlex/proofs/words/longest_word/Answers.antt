use Rattle.std.proofs.Common.{sym, ap, subst, arith, length, length-drop}
use Rattle.std.specs.List.{take_while}
use Rattle.rf_jlex.specs.Fronts.{GivesWord}
use Rattle.rf_jlex.specs.Letters.{is_ascii_letter_or_digit}
use Rattle.rf_jlex.proofs.LetterLemmas.{rest_is_shorter}
use Rattle.rf_jlex.proofs.RunLemmas.{word_goes_on}
use Rattle.rf_jlex.proofs.WordFrontLemmas.{BeginsWithWord, letter_is_word, longer_word, gives_word, gives_no_word}
use Rattle.rf_jlex.proofs.words.longest_word.Goals as goal

pub returns-in_err-first : goal.returns-in_err-first
returns-in_err-first c = subst (GivesWord c.args.text.now) (sym c.from_residual.ensures) (gives_no_word c.args.text.now c.in_err-first.ensures)

pub loop-more-init : goal.loop-more-init
loop-more-init c =
    let text = c.args.text.now in
    let first = c.in_ok-first.first.now in
    subst (BeginsWithWord text) (sym c.after_ascii-rest.ensures) (word_goes_on text first (letter_is_word text first c.in_ok-first.ensures))

pub loop-more-smaller : goal.loop-more-smaller
loop-more-smaller c =
    let more = c.in-Some.more.now in
    omega (
      arith,
      rest_is_shorter c.loop-more.rest.now c.in-Some.ensures.character more c.in-Some.ensures.begins,
      ap length c.after_ascii-rest-in-Some.ensures,
      length-drop (length (take_while is_ascii_letter_or_digit more)) more,
    )

pub loop-more-preserved : goal.loop-more-preserved
loop-more-preserved c =
    let text = c.args.text.now in
    let more = c.in-Some.more.now in
    subst (BeginsWithWord text) (sym c.after_ascii-rest-in-Some.ensures)
    (word_goes_on text more (longer_word text c.loop-more.rest.now more c.loop-more.invariant c.in-Some.ensures))

pub returns : goal.returns
returns c = gives_word c.args.text.now c.loop-more.rest.now c.loop-more.invariant c.in_default.ensures
