use Rattle.std.proofs.Common.{subst, sym, ◌∙◌}
use Rattle.std.proofs.lemmas.Bool.{false≢true}
use Rattle.rf_engine.specs.Words.{IsName}
use Rattle.rf_engine.proofs.ScanLemmas.{name_is_front}
use Rattle.rf_engine.proofs.scan.name.Goals as goal

pub returns-else-is_name : goal.returns-else-is_name
returns-else-is_name c = λ word rest begins.
    let cut = c.letters_and_digits-cut.result in
    let same = name_is_front c.args.text.now cut.front.now cut.rest.now word rest c.letters_and_digits-cut.ensures begins in
    false≢true (sym c.if-is_name.false ∙ c.is_name.ensures.1 (subst IsName (sym same.0) begins.is_name))
