use Rattle.std.proofs.Common.{◌≡◌, ◌<◌, ◌∙◌, Some, None, length, get_or, sym, subst, arith}
use Rattle.std.proofs.lemmas.Bool.{false≢true}
use Rattle.std.proofs.lemmas.List.{take_rest}
use Rattle.rf_jlex.specs.QuotedFronts.{GivesCharacterBody}
use Rattle.rf_jlex.proofs.CharacterLemmas.{only_character, no_character, no_quote, gives_no_character}
use Rattle.rf_jlex.proofs.quoted.character_literal.Goals as goal

pub returns-in_err-length : goal.returns-in_err-length
returns-in_err-length c =
    let text = c.args.text.now in
    gives_no_character text c.from_residual.result c.from_residual.ensures (no_character text (subst (λ xs. GivesCharacterBody xs None) (take_rest text 1) c.in_err-length.ensures))

pub returns-then-is_at : goal.returns-then-is_at
returns-then-is_at c =
    let text = c.args.text.now in
    let n = c.in_ok-length.length in
    let here = subst (λ xs. (n < length xs) × (get_or xs n 0 ≡ 39)) (take_rest text 1) (c.is_at.ensures.0 c.if-is_at.true) in
    only_character text n (omega arith) c.if-first-ne39.false (subst (λ xs. GivesCharacterBody xs (Some n)) (take_rest text 1) c.in_ok-length.ensures) here.0 here.1

pub returns-else-is_at : goal.returns-else-is_at
returns-else-is_at c =
    let text = c.args.text.now in
    let n = c.in_ok-length.length in
    no_quote text n (subst (λ xs. GivesCharacterBody xs (Some n)) (take_rest text 1) c.in_ok-length.ensures)
    (λ here. false≢true (sym c.if-is_at.false ∙ c.is_at.ensures.1 (subst (λ xs. (n < length xs) × (get_or xs n 0 ≡ 39)) (sym (take_rest text 1)) here)))
