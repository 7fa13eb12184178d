-- The test of each variable is the one of what the variable shows.
use Rattle.std.proofs.Common.{◌∙◌, rules, tests}
use Rattle.std.proofs.lemmas.Iterator.{YieldsList-from_slice}
use Rattle.std.proofs.lemmas.Iterator.Search.{all_from_yields_List}
use Rattle.rf_jtree.specs.declared.stmts.Var.{Var}
use Rattle.rf_jtree.specs.declared.tokens.Tok.{Tok}
use Rattle.rf_jdecl.specs.DeclMade.{var_item_shown}
use Rattle.rf_jdecl.specs.DeclTests.{begins_with_some}
use Rattle.rf_jdecl.proofs.CodeLemmas.{all-shown}
use Rattle.rf_jdecl.proofs.decl_tests.each_begins.Goals as goal

pub returns : goal.returns
returns c =
    all_from_yields_List (λ (item : Tok × Var). begins_with_some (var_item_shown item)) _ _ _ c.all.ensures.ran (YieldsList-from_slice c.args.rest.now cc) (λ x b q k. search (rules, tests))
    ∙ all-shown var_item_shown begins_with_some c.args.rest.now
