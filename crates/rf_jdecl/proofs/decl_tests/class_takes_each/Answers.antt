-- The test of each one is the test of what it shows.
use Rattle.std.proofs.Common.{◌∙◌, rules, tests}
use Rattle.std.proofs.lemmas.Iterator.{YieldsList-from_slice}
use Rattle.std.proofs.lemmas.Iterator.Search.{all_from_yields_List}
use Rattle.rf_jtree.specs.declared.decls.Member.{Member}
use Rattle.rf_jtree.specs.DeclShown.{member_shown}
use Rattle.rf_jdecl.specs.DeclTests.{class_takes}
use Rattle.rf_jdecl.proofs.CodeLemmas.{all-shown}
use Rattle.rf_jdecl.proofs.decl_tests.class_takes_each.Goals as goal

pub returns : goal.returns
returns c =
    all_from_yields_List (λ (one : Member). class_takes (member_shown one)) _ _ _ c.all.ensures.ran (YieldsList-from_slice c.args.members.now cc) (λ x b q k. search (rules, tests))
    ∙ all-shown member_shown class_takes c.args.members.now
