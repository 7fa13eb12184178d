use Rattle.std.proofs.Common.{sym, ap, ◌∙◌}
use Rattle.rf_jfile.proofs.bytes_have_one_tree.Goals as goal

pub returns : goal.returns
returns c = λ one other first second.
    let same = c.token_lists_are_unique.ensures first.toks second.toks first.tokens second.tokens in
    c.files_have_one_tree.ensures one other first.fits second.fits (first.yields ∙ ap (λ toks. toks.list) same ∙ sym second.yields)
