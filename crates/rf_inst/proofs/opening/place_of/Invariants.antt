use Rattle.std.proofs.Common.{◌≡◌, filter, eqb, slice_index_or}
use Rattle.std.specs.List.{range_with_len}
use Rattle.rf_inst.proofs.opening.place_of.Given as goal

abbrev pub invariant-loop-place : goal.invariant-loop-place
invariant-loop-place l = l.places ≡ filter (λ v. eqb (slice_index_or l.values v 0) l.value) (range_with_len 0 l.place)
