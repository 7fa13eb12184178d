use Rattle.std.proofs.Common.{◌∙◌, sym}
use Rattle.std.proofs.lemmas.Bool.{false≢true}
use Rattle.rf_jlex.proofs.CharacterLemmas.{escape_body, plain_body}
use Rattle.rf_jlex.proofs.quoted.character_body.Goals as goal

pub returns-then-is_at : goal.returns-then-is_at
returns-then-is_at c =
    let at = c.is_at.ensures.0 c.if-is_at.true in
    escape_body c.args.text.now c.escape.result at.0 at.1 c.escape.ensures

pub returns-else-is_at : goal.returns-else-is_at
returns-else-is_at c =
    plain_body c.args.text.now c.plain_character.result (λ some first. false≢true (sym c.if-is_at.false ∙ c.is_at.ensures.1 (some, first))) c.plain_character.ensures
