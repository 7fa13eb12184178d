use Rattle.std.proofs.Common.{◌≢◌, AllPairs, arith, subst}
use Rattle.rf_engine.proofs.FieldNameLemmas.{names_seen, field_twice, field_once}
use Rattle.rf_engine.proofs.field_names.declared.Goals as goal

pub returns-then-place-count : goal.returns-then-place-count
returns-then-place-count c =
    let fields = c.as_slice-field-items.result.now in
    let twice = field_twice fields c.loop-field.field-index _ c.loop-field.names _ _ c.loop-field-test.true c.loop-field.invariant.names c.in_ok-place.ensures.ok (omega (arith, c.len-count.ensures.len)) in
    subst (λ them. AllPairs (λ a b. a ≢ b) (names_seen them) → ⊥) c.as_slice-field-items.ensures twice

pub loop-field-preserved : goal.loop-field-preserved
loop-field-preserved c =
    let fields = c.as_slice-field-items.result.now in
    let once = field_once fields c.loop-field.field-index _ c.loop-field.names _ _ c.loop-field-test.true c.loop-field.invariant.names c.loop-field.invariant.distinct c.in_ok-place.ensures.ok (omega (arith, c.len-count.ensures.len)) in
    record { names = once.0; distinct = once.1 }
