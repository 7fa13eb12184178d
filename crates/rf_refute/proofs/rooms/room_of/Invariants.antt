use Rattle.std.proofs.Common.{◌≡◌, ℕ, List}
use Rattle.rf_form.specs.Alive.{IsFit}
use Rattle.rf_refute.proofs.Roomings.{count_to}
use Rattle.rf_refute.proofs.rooms.room_of.Given as goal

abbrev pub invariant-loop-x : goal.invariant-loop-x
invariant-loop-x g l = (vals : List (List ℕ)) → IsFit vals (g.D.Alive.family l.doms) → count_to vals (g.D.Alive.family l.doms) l.x ≡ l.room
