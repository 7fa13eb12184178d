use Rattle.std.proofs.Common.{◌+◌, vec_len}
use Rattle.rf_world.proofs.real_folders.list.Given as goal

-- the folders that are noted, and those that names may still add
abbrev pub decreases-loop-folder : goal.decreases-loop-folder
decreases-loop-folder g l = vec_len l.walk.folders + l.walk.names_left
