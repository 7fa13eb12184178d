use Rattle.std.proofs.Common.{subst, sym}
use Rattle.std.specs.List.{IsDistinct}
use Rattle.rf_text.proofs.NameLemmas.{absent_before, same_text}
use Rattle.rf_text.proofs.names.Names.copy.Goals as goal

-- the texts copied so far are those before this one
pub add-requires : goal.add-requires
add-requires c = rw (c.loop-text.invariant, c.as_slice.ensures.value)
    (absent_before c.as_slice-text-items.result.now c.loop-text.text-index c.text-item.result
    (subst (IsDistinct same_text) (sym c.as_slice-text-items.ensures.keys) c.as_slice-text-items.ensures.unique)
    c.loop-text-test.true c.text-item.is)
