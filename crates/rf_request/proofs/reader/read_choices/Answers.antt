use Rattle.std.proofs.Common.{◌≡◌, ◌∙◌, ◌+◌, ◌++◌, ap, sym, subst, map, List, [], ◌∷◌, false, arith}
use Rattle.rf_request.specs.declared.choices.ChoiceLine.{ChoiceLine}
use Rattle.rf_request.specs.Choices.{AreChoices, choice_line, is_repeated}
use Rattle.rf_request.specs.Requests.{Line, lines_from}
use Rattle.rf_request.proofs.OnceLemmas.{pushed, read_on}
use Rattle.rf_request.proofs.reader.read_choices.Goals as goal

pub loop-choices-smaller : goal.loop-choices-smaller
loop-choices-smaller c =
    let shorter = rw c.in-Some.is at c.in_ok-line.ensures.shorter in
    omega (arith, shorter)

pub loop-choices-preserved : goal.loop-choices-preserved
loop-choices-preserved c =
    let choices = c.loop-choices.choices in
    let line = c.in-Some.line in
    let last : ChoiceLine = record { number = line.number; choice = c.in-Some-2.choice } in
    let behind = lines_from (line.number + 1) line.rest.now in
    let lines = rw c.in-Some.is at c.in_ok-line.ensures.lines in
    let within = rw c.in-Some.is at c.in_ok-line.ensures.within in
    let said = rw c.in-Some-2.is at c.in_ok-choice.ensures in
    let fresh : is_repeated c.in-Some-2.choice choices ≡ false =
    ap (is_repeated c.in-Some-2.choice) (sym c.as_slice-in-Some.ensures) ∙ sym c.is_repeated.ensures ∙ c.if-is_repeated.false in
    let pushed_is : c.push.new.self ≡ choices ++ last ∷ [] = c.in_ok-push.ensures.ok in
    record {
      within = omega (arith, within, c.loop-choices.invariant.within);
      are = subst AreChoices (sym pushed_is) (pushed choices last c.loop-choices.invariant.are said.1 fresh);
      read = ap (λ (ls : List ChoiceLine). map choice_line ls ++ behind) pushed_is
          ∙ read_on choices last behind (lines_from c.args.number c.args.text.now) line.words (sym c.as_slice.ensures ∙ said.0)
          (ap (λ (ls : List Line). map choice_line choices ++ ls) (sym lines) ∙ c.loop-choices.invariant.read);
    }
