use Rattle.std.proofs.Common.{ℕ, List, subst}
use Rattle.std.proofs.lemmas.List.{take_rest}
use Rattle.rf_jlex.specs.QuotedFronts.{IsStringStep}
use Rattle.rf_jlex.proofs.StringLemmas.{reads_more}
use Rattle.rf_jlex.proofs.quoted.string_body.Goals as goal

pub loop-length-preserved : goal.loop-length-preserved
loop-length-preserved c =
    let text = c.args.text.now in
    let end = c.loop-length.end in
    let length = c.in-Some.length in
    reads_more text end length c.loop-length.invariant (subst (λ (xs : List ℕ). IsStringStep xs length) (take_rest text end) c.in-Some.ensures)
