use Rattle.std.proofs.Common.{◌≡◌, take}
use Rattle.rf_world.specs.MemFiles.{paths_under}
use Rattle.rf_world.proofs.mem_files.paths.Given as goal

-- the paths of the files that were looked at
abbrev pub invariant-loop-file : goal.invariant-loop-file
invariant-loop-file l = l.paths ≡ paths_under l.root (take l.file-index l.file-items)
