use Rattle.std.proofs.Common.{◌≡◌, map, take}
use Rattle.rf_world.proofs.real_folders.copied.Given as goal

-- the paths that were looked at are copied
abbrev pub invariant-loop-path : goal.invariant-loop-path
invariant-loop-path l = l.copies ≡ map (λ path. path.items) (take l.path-index l.path-items)
