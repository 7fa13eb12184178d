-- What was read of the parts of a type is what the type shows.
use Rattle.std.proofs.Common.{List, Option, Some, Result, Err, option_map, drop, refl, sym, subst, arith}
use Rattle.rf_jtree.specs.declared.decls.TypeDecl.{TypeDecl}
use Rattle.rf_jtree.specs.declared.tokens.Tok.{Tok}
use Rattle.rf_jtree.specs.declared.operator_names.TheConstants.{RIGHT_BRACE}
use Rattle.rf_jtree.specs.DeclShown.{names_shown, members_shown, decl_shown}
use Rattle.rf_jtree.specs.DeclTrees.{TypeDeclTree}
use Rattle.rf_jtree.specs.NameShown.{mods_shown}
use Rattle.rf_jexpr.specs.Gives.{GivesTree}
use Rattle.rf_jexpr.specs.Reads.{and_then, is_op, token}
use Rattle.rf_jexpr.specs.declared.found.Found.{Found}
use Rattle.rf_jexpr.specs.declared.parse_err.ParseErr.{ParseErr}
use Rattle.rf_jdecl.specs.DeclMade.{decl_depth}
use Rattle.rf_jdecl.specs.UnitReads.{any_decl}
use Rattle.rf_jdecl.proofs.AnswerLemmas.{refused, handed}
use Rattle.rf_jdecl.proofs.decls.any_decl.Goals as goal

pub returns : goal.returns
unfolding any_decl and_then
returns c =
    let mods = c.in_ok-mods.ensures in
    let word = c.in_ok-word.ensures in
    let id = c.in_ok-id.ensures.gives in
    let extends = c.in_ok-extends.ensures in
    let implements = c.in_ok-implements.ensures in
    let left = c.in_ok-left.ensures.gives in
    let list = c.in_ok-list.ensures in
    let right = c.in_ok-right.ensures.gives in
    (rw (mods.0, word.0, id.0, extends.0, implements.0, left.0, list.0, right.0) refl, omega (arith, mods.1, word.1, id.1, extends.1, implements.1, left.1, list.1, right.1), right.2, list.3, list.4)

pub returns-in_err-right : goal.returns-in_err-right
unfolding any_decl and_then
returns-in_err-right c =
    let mods = c.in_ok-mods.ensures in
    let word = c.in_ok-word.ensures in
    let id = c.in_ok-id.ensures.gives in
    let extends = c.in_ok-extends.ensures in
    let implements = c.in_ok-implements.ensures in
    let left = c.in_ok-left.ensures.gives in
    let list = c.in_ok-list.ensures in
    let tree : Tok → TypeDeclTree = λ right. record {
      mods = mods_shown c.in_ok-mods.mods.item;
      word = c.in_ok-word.word.item;
      id = c.in_ok-id.id.item;
      extends = option_map names_shown c.in_ok-extends.extends.item;
      implements = option_map names_shown c.in_ok-implements.implements.item;
      left = c.in_ok-left.left.item;
      members = members_shown c.in_ok-list.list.tree;
      right = right;
    } in
    let next : Tok × List Tok → Option (TypeDeclTree × List Tok) = λ right. Some (tree right.0, right.1) in
    let none : GivesTree decl_shown decl_depth c.args.room c.args.t.now c.args.at (Err c.in_err-right.field-0.0) (any_decl c.args.room (drop c.args.at c.args.t.now)) =
    rw (mods.0, word.0, id.0, extends.0, implements.0, left.0, list.0)
    (refused decl_shown decl_depth c.args.room c.args.t.now c.args.at (λ (tok : Tok). tok) c.in_ok-list.list.end _ (token (is_op RIGHT_BRACE) (drop c.in_ok-list.list.end c.args.t.now)) next c.in_err-right.ensures.gives) in
    subst (λ (r : Result (Found TypeDecl) ParseErr). GivesTree decl_shown decl_depth c.args.room c.args.t.now c.args.at r (any_decl c.args.room (drop c.args.at c.args.t.now))) (sym (handed c.from_residual-in_err-right.result c.in_err-right.field-0.0 c.from_residual-in_err-right.ensures)) none
