use Rattle.std.proofs.Common.{◌∙◌, sym}
use Rattle.std.proofs.lemmas.Bool.{false≢true}
use Rattle.rf_jlex.proofs.CharacterLemmas.{no_unit_undecoded, no_unit_other, only_unit, gives_no_unit}
use Rattle.rf_jlex.proofs.quoted.plain_character.Goals as goal

pub returns-in_err-character : goal.returns-in_err-character
returns-in_err-character c =
    gives_no_unit c.args.text.now c.from_residual.result c.from_residual.ensures (no_unit_undecoded c.args.text.now (sym c.decode-character.ensures.char ∙ c.in_err-character.was))

pub returns-then-is_plain : goal.returns-then-is_plain
returns-then-is_plain c =
    only_unit c.args.text.now c.in_ok-character.character c.decode-character.result.1 (sym c.decode-character.ensures.char ∙ c.in_ok-character.was) (sym c.decode-character.ensures.size) (c.is_plain.ensures.0 c.if-is_plain.true)

pub returns-else-is_plain : goal.returns-else-is_plain
returns-else-is_plain c =
    no_unit_other c.args.text.now c.in_ok-character.character (sym c.decode-character.ensures.char ∙ c.in_ok-character.was) (λ plain. false≢true (sym c.if-is_plain.false ∙ c.is_plain.ensures.1 plain))
