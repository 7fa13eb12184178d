use Rattle.std.proofs.Common.{refl, sym, ap, subst, ◌∙◌, IsTrue, [], ◌∷◌, filter, rules}
use Rattle.rf_jtree.specs.JavaPath.{is_java_path}
use Rattle.rf_cli.specs.Command.{command_seen}
use Rattle.rf_cli.proofs.ReadLemmas.{never_absent, none_told, right_told}
use Rattle.rf_cli.proofs.decide.decide.Goals as goal

pub returns-in_err-file-clause-never : goal.returns-in_err-file-clause-never
returns-in_err-file-clause-never g c = λ honest asked failed.
    let still_honest : IsTrue (g.W.World.honest c.in_order.new.world) = subst IsTrue (sym (c.in_order.ensures.same_honest ∙ c.read.ensures.same_honest)) honest in
    let some = g.met.W.World.tells c.args.world.now honest in
    let absent = c.in_err-file.ensures.absent still_honest (search rules) in
    never_absent (command_seen c.args.command.now) _ c.in_ok-paths.paths (g.W.World.told c.args.world.now) _ _
    c.read.ensures.same_files c.in_order.ensures.same_files some c.in_ok-paths.ensures.ok
    (ap (filter is_java_path) (sym c.as_slice-2.ensures) ∙ c.in-Some.ensures ∙ ap (λ x. x ∷ []) (sym (c.as_slice-at.ensures ∙ c.in_ok-path.ensures ∙ c.as_slice-3.ensures))) absent

pub returns-clause-right : goal.returns-clause-right
returns-clause-right g c =
    right_told (command_seen c.args.command.now) c.in_ok-path.path c.in_ok-file.file c.in_ok-request.request _ _ c.in_ok-paths.paths _ c.in_ok-answer.answer _ _ _ _
    (g.W.World.told c.args.world.now) _ _ c.ne.result
    c.read.ensures.same_files c.in_order.ensures.same_files c.ne.ensures c.if-ne.false c.as_slice.ensures
    refl c.in_ok-request.ensures.ok c.in_ok-paths.ensures.ok c.as_slice-2.ensures c.in-Some.ensures (c.in_ok-path.ensures ∙ c.as_slice-3.ensures)
    c.in_ok-file.ensures.ok c.as_slice-at.ensures c.as_slice-4.ensures c.as_slice-5.ensures c.in_ok-answer.ensures

pub returns-in_default-clause-right : goal.returns-in_default-clause-right
returns-in_default-clause-right g c =
    none_told (command_seen c.args.command.now) c.not_yet-in_default.result.path c.in_ok-paths.paths _ c.not_yet-in_default.result.answer (g.W.World.told c.args.world.now) _
    c.read.ensures.same_files c.in_ok-paths.ensures.ok c.as_slice-2.ensures c.in_default.ensures c.not_yet-in_default.ensures
