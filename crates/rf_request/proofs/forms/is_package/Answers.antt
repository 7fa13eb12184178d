use Rattle.std.proofs.Common.{◌∙◌, sym, refl}
use Rattle.std.proofs.lemmas.Bool.{false≢true}
use Rattle.rf_request.proofs.FormLemmas.{first_of, package_on, package_ends}
use Rattle.rf_request.proofs.forms.is_package.Goals as goal

pub returns-then-not-is_identifier : goal.returns-then-not-is_identifier
returns-then-not-is_identifier c = (
  λ yes. absurd (false≢true yes),
  λ whole. absurd (false≢true (sym c.if-not-is_identifier.true ∙ c.is_identifier.ensures.1 (first_of c.loop-behind.rest.now c.first_part.result.0.now _ c.first_part.ensures.parts (c.loop-behind.invariant.1 whole)))),
)

pub loop-behind-preserved : goal.loop-behind-preserved
loop-behind-preserved c =
    let parts = rw c.in-Some.is at c.first_part.ensures.parts in
    let on = package_on c.loop-behind.rest.now c.first_part.result.0.now c.in-Some.more.now parts (c.is_identifier.ensures.0 c.if-not-is_identifier.false) in
    (λ more. c.loop-behind.invariant.0 (on.0 more), λ whole. on.1 (c.loop-behind.invariant.1 whole))

pub returns-in-None : goal.returns-in-None
returns-in-None c =
    let parts = rw c.in-None.is at c.first_part.ensures.parts in
    let ends = package_ends c.loop-behind.rest.now c.first_part.result.0.now parts (c.is_identifier.ensures.0 c.if-not-is_identifier.false) in
    (λ yes. c.loop-behind.invariant.0 ends, λ whole. refl)
