use Rattle.std.proofs.Common.{◌≡◌, ◌++◌, drop, map}
use Rattle.rf_tables.specs.TypeKeys.{file_of}
use Rattle.rf_tables.proofs.type_keys.files_of.Given as goal

abbrev pub invariant-loop-key : goal.invariant-loop-key
invariant-loop-key l = l.files ++ map file_of (drop l.key-index l.keys) ≡ map file_of l.keys
