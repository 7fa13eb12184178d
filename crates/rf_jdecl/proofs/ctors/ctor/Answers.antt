-- What was read of the parts of a constructor is what the constructor shows.
use Rattle.std.proofs.Common.{List, Option, Some, Result, Err, option_map, drop, refl, sym, subst, arith}
use Rattle.rf_jtree.specs.declared.decls.Member.{Member}
use Rattle.rf_jtree.specs.declared.tokens.Tok.{Tok}
use Rattle.rf_jtree.specs.declared.operator_names.TheConstants.{RIGHT_BRACE}
use Rattle.rf_jtree.specs.DeclShown.{names_shown, params_shown, ctor_call_shown, member_shown}
use Rattle.rf_jtree.specs.DeclTrees.{MemberTree, Ctor, member_depth}
use Rattle.rf_jtree.specs.NameShown.{mods_shown}
use Rattle.rf_jtree.specs.StmtShown.{stmts_shown}
use Rattle.rf_jexpr.specs.Gives.{GivesTree}
use Rattle.rf_jexpr.specs.Reads.{and_then, is_op, token}
use Rattle.rf_jexpr.specs.declared.found.Found.{Found}
use Rattle.rf_jexpr.specs.declared.parse_err.ParseErr.{ParseErr}
use Rattle.rf_jdecl.specs.MemberReads.{ctor}
use Rattle.rf_jdecl.proofs.AnswerLemmas.{refused, handed}
use Rattle.rf_jdecl.proofs.ctors.ctor.Goals as goal

pub returns : goal.returns
unfolding ctor and_then
returns c =
    let id = rw c.as_slice.ensures at c.in_ok-id.ensures in
    let list = c.in_ok-list.ensures in
    let thrown = c.in_ok-thrown.ensures in
    let left = c.in_ok-left.ensures.gives in
    let call = c.in_ok-call.ensures in
    let body = c.in_ok-body.ensures in
    let right = c.in_ok-right.ensures.gives in
    (rw (id.0, list.0, thrown.0, left.0, call.0, body.0, right.0) refl, omega (arith, id.1, list.1, thrown.1, left.1, call.1, body.1, right.1), right.2, rw (c.deeper.ensures, call.3, body.3) refl, omega (arith, c.deeper.ensures, call.4, body.4))

pub returns-in_err-right : goal.returns-in_err-right
unfolding ctor and_then
returns-in_err-right c =
    let id = rw c.as_slice.ensures at c.in_ok-id.ensures in
    let list = c.in_ok-list.ensures in
    let thrown = c.in_ok-thrown.ensures in
    let left = c.in_ok-left.ensures.gives in
    let call = c.in_ok-call.ensures in
    let body = c.in_ok-body.ensures in
    let next : Tok × List Tok → Option (MemberTree × List Tok) = λ right.
    Some (Ctor (mods_shown c.args.mods) c.in_ok-id.id.item (params_shown c.in_ok-list.list.item) (option_map names_shown c.in_ok-thrown.thrown.item) c.in_ok-left.left.item (option_map ctor_call_shown c.in_ok-call.call.tree) (stmts_shown c.in_ok-body.body.tree) right.0, right.1) in
    let none : GivesTree member_shown member_depth c.args.room c.args.t.now c.args.at (Err c.in_err-right.field-0.0) (ctor c.args.room (mods_shown c.args.mods) (drop c.args.at c.args.t.now)) =
    rw (id.0, list.0, thrown.0, left.0, call.0, body.0)
    (refused member_shown member_depth c.args.room c.args.t.now c.args.at (λ (tok : Tok). tok) c.in_ok-body.body.end _ (token (is_op RIGHT_BRACE) (drop c.in_ok-body.body.end c.args.t.now)) next c.in_err-right.ensures.gives) in
    subst (λ (r : Result (Found Member) ParseErr). GivesTree member_shown member_depth c.args.room c.args.t.now c.args.at r (ctor c.args.room (mods_shown c.args.mods) (drop c.args.at c.args.t.now))) (sym (handed c.from_residual-in_err-right.result c.in_err-right.field-0.0 c.from_residual-in_err-right.ensures)) none
