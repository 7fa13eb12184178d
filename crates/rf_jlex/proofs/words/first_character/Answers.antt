use Rattle.std.proofs.Common.{sym, ap, ◌∙◌, subst, arith, drop}
use Rattle.bstr.proofs.lemmas.PieceLemmas.{size-within}
use Rattle.rf_jlex.specs.Letters.{BeginsWithCharacter}
use Rattle.rf_jlex.proofs.LetterLemmas.{none_begins, begins_with_decoded}
use Rattle.rf_jlex.proofs.words.first_character.Goals as goal

pub split_at-requires : goal.split_at-requires
split_at-requires c = omega (arith, c.decode.ensures.size, size-within c.args.text.now)

pub returns-in-Some-default : goal.returns-in-Some-default
returns-in-Some-default c =
    let text = c.args.text.now in
    subst (BeginsWithCharacter text c.in-Some-default.character)
    (sym (c.split_at.ensures.back ∙ ap (λ size. drop size text) c.decode.ensures.size))
    (begins_with_decoded text c.in-Some-default.character (sym c.decode.ensures.char ∙ c.in-Some-default.is-0))

pub returns-in-None-default : goal.returns-in-None-default
returns-in-None-default c = none_begins c.args.text.now (sym c.decode.ensures.char ∙ c.in-None-default.is-0)
