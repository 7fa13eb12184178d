use Rattle.std.proofs.Common.{◌≡◌, [], ◌∷◌, drop, sym, ◌∙◌}
use Rattle.std.proofs.lemmas.Bool.Decides.{Decides-eqb}
use Rattle.std.proofs.lemmas.Slice.Eq.{starts_is}
use Rattle.rf_jlex.proofs.EscapeScanLemmas.{escape_found}
use Rattle.rf_jlex.proofs.comments.allows_escape.Goals as goal

pub returns-else-not-starts_with : goal.returns-else-not-starts_with
returns-else-not-starts_with c =
    let text = c.args.text.now in
    let begins : text ≡ 92 ∷ 117 ∷ drop 2 text = (starts_is Decides-eqb text (92 ∷ 117 ∷ []) c.starts_with.result c.starts_with.ensures.value).0 c.if-not-starts_with.false in
    let tells = escape_found text c.unicode_escape.result c.unicode_escape.ensures in (
      λ is rest parts. tells.0 (sym c.is_some.ensures ∙ is),
      λ allows. c.is_some.ensures ∙ tells.1 (allows (drop 2 text) begins),
    )
