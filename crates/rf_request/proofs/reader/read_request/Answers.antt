use Rattle.std.proofs.Common.{◌∙◌, ◌+◌, ap, subst, List, ℕ}
use Rattle.rf_request.specs.Opened.{options_of}
use Rattle.rf_request.specs.Requests.{lines_from}
use Rattle.rf_request.specs.Targets.{IsTarget}
use Rattle.rf_request.proofs.ReaderLemmas.{fault_first, fault_behind, have_forms, answered}
use Rattle.rf_request.proofs.reader.read_request.Goals as goal

pub returns-in_default-2 : goal.returns-in_default-2
returns-in_default-2 c =
    let first = c.in-Some.first in
    let lines = rw c.in-Some.is at c.in_ok-first.ensures.lines in
    let more = lines_from (first.number + 1) first.rest.now in
    let utf8 = c.is_utf8.ensures.0 c.if-not-is_utf8.false in
    let none = rw c.in_default-2.is at c.in_ok-target.ensures in
    fault_first c.args.bytes.now first.number first.words more utf8 lines (λ target is fits. none target (c.as_slice.ensures ∙ is) fits)

pub returns-in_err-choices : goal.returns-in_err-choices
returns-in_err-choices c =
    let first = c.in-Some.first in
    let lines = rw c.in-Some.is at c.in_ok-first.ensures.lines in
    let more = lines_from (first.number + 1) first.rest.now in
    let utf8 = c.is_utf8.ensures.0 c.if-not-is_utf8.false in
    let answer = rw c.in-Some-2.is at c.in_ok-target.ensures in
    let is = subst (λ (ws : List (List ℕ)). IsTarget first.number ws c.in-Some-2.target) c.as_slice.ensures answer in
    answered c.args.bytes.now c.from_residual-in_err-choices.result c.in_err-choices.field-0.0 c.from_residual-in_err-choices.ensures.1
    (fault_behind c.args.bytes.now first.number first.words more utf8 lines c.in-Some-2.target is c.in_err-choices.field-0.0 c.in_err-choices.ensures)

pub invariant_of-result : goal.invariant_of-result
invariant_of-result c =
    let answer = rw c.in-Some-2.is at c.in_ok-target.ensures in
    record {
      forms = ∣ have_forms c.in-Some-2.target c.in_ok-choices.choices c.in_ok-options.options c.in-Some.first.number c.as_slice.result.now answer c.in_ok-choices.ensures.0
          (c.in_ok-options.ensures ∙ ap options_of c.as_slice-2.ensures) ∣₁;
    }
