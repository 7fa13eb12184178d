use Rattle.std.proofs.Common.{◌≡◌, filter, take, option_to_list, option_map}
use Rattle.rf_jtree.specs.JavaPath.{is_java_path}
use Rattle.rf_cli.proofs.java_files.only_java.Given as goal

abbrev pub invariant-loop-path : goal.invariant-loop-path
invariant-loop-path l = filter is_java_path (take l.path-index l.paths) ≡ option_to_list (option_map (λ path. path.now) l.found)
