-- What was read of the parts of a file is what the file shows.
use Rattle.std.proofs.Common.{drop, refl, arith}
use Rattle.rf_jtree.specs.DeclShown.{unit_shown}
use Rattle.rf_jtree.specs.DeclTrees.{unit_depth}
use Rattle.rf_jexpr.specs.Reads.{and_then}
use Rattle.rf_jexpr.specs.declared.parse_err.ParseErr.TheVariants.{Memory}
use Rattle.rf_jdecl.specs.UnitReads.{front_unit}
use Rattle.rf_jdecl.proofs.AnswerLemmas.{wanting, handed}
use Rattle.rf_jdecl.proofs.units.front_unit.Goals as goal

pub returns : goal.returns
unfolding front_unit and_then
returns c =
    let clause = c.in_ok-clause.ensures in
    let imports = c.in_ok-imports.ensures in
    let decl = c.in_ok-decl.ensures in
    let semis = c.in_ok-semis.ensures in
    (rw (clause.0, imports.0, decl.0, semis.0) refl, omega (arith, clause.1, imports.1, decl.1, semis.1), semis.2, decl.3, decl.4)

pub returns-in_err-semis : goal.returns-in_err-semis
returns-in_err-semis c = wanting unit_shown unit_depth c.args.room c.args.t.now c.args.at c.from_residual-in_err-semis.result (front_unit c.args.room (drop c.args.at c.args.t.now)) (handed c.from_residual-in_err-semis.result Memory c.from_residual-in_err-semis.ensures)
