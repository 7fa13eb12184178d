use Rattle.std.proofs.Common.{sym, ap, ◌∙◌}
use Rattle.rf_jtree.specs.JavaPath.{is_java_path}
use Rattle.rf_cli.proofs.JavaFileLemmas.{never_alone}
use Rattle.rf_cli.proofs.java_files.only_java.Goals as goal

-- one was found before, and this path is a second one
pub returns-then-is_some : goal.returns-then-is_some
returns-then-is_some c =
    let here = sym (ap is_java_path (c.as_slice.ensures ∙ c.path-item.is)) ∙ sym c.is_java_path.ensures ∙ c.if-is_java_path.true in
    never_alone is_java_path (λ path. path.now) c.args.paths.now c.loop-path.path-index c.path-item.result c.loop-path.found
    c.loop-path-test.true here c.loop-path.invariant (sym c.is_some.ensures ∙ c.if-is_some.true)
