use Rattle.std.proofs.Common.{◌≡◌, map, take}
use Rattle.rf_kind.proofs.language.texts.Given as goal

abbrev pub invariant-loop-kind : goal.invariant-loop-kind
invariant-loop-kind l = l.list ≡ map (λ kind. kind.now) (take l.kind-index l.kinds)
