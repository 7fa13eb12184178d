use Rattle.std.proofs.Common.{◌≡◌, map, length}
use Rattle.rf_rtree.specs.Kinds.{is_among}
use Rattle.rf_kind.proofs.kinds.is_among.Given as goal

abbrev pub invariant-loop-texts : goal.invariant-loop-texts
invariant-loop-texts l = is_among l.text (map (λ other. other.now) l.texts) ≡ is_among l.text (map (λ other. other.now) l.fn.texts)

abbrev pub decreases-loop-texts : goal.decreases-loop-texts
decreases-loop-texts l = length l.texts
