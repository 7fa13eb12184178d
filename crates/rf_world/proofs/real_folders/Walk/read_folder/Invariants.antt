use Rattle.std.proofs.Common.{◌+◌, ◌≤◌, vec_len}
use Rattle.rf_world.proofs.real_folders.Walk.read_folder.Given as goal

-- each folder that was noted took one of the names that were left
abbrev pub invariant-loop-entry : goal.invariant-loop-entry
invariant-loop-entry g l =
    (goal.iterator-loop-entry g).can_next l.entry-iterator ×
    (goal.iterator-loop-entry g).is_finite l.entry-iterator ×
    (vec_len l.self.folders + l.self.names_left ≤ vec_len l.initial.self.folders + l.initial.self.names_left)
