use Rattle.std.proofs.Common.{◌≡◌, map, length}
use Rattle.std.specs.List.{list_any}
use Rattle.rf_rtree.specs.Kinds.{is_part}
use Rattle.rf_kind.proofs.terms.fits_one.Given as goal

abbrev pub invariant-loop-kinds : goal.invariant-loop-kinds
invariant-loop-kinds l = list_any (is_part l.kind) (map (λ wanted. wanted.now) l.kinds) ≡ list_any (is_part l.kind) (map (λ wanted. wanted.now) l.fn.kinds)

abbrev pub decreases-loop-kinds : goal.decreases-loop-kinds
decreases-loop-kinds l = length l.kinds
