use Rattle.std.proofs.Common.{◌≡◌, ◌++◌, ◌∷◌, [], ◌∙◌, ℕ, List, length, map, sym, ap, subst, arith}
use Rattle.std.proofs.lemmas.List.{map_push}
use Rattle.rf_prop.proofs.CutLemmas.{cut_part}
use Rattle.rf_prop.specs.declared.steps.Outcome.{Outcome}
use Rattle.rf_prop.specs.declared.steps.Step.{Step}
use Rattle.rf_prop.specs.Turns.{Closes}
use Rattle.rf_refute.specs.Shown.{shown}
use Rattle.rf_search.specs.Writes.{removing}
use Rattle.rf_search.proofs.Widths.{closed_nodes, failed_nodes}
use Rattle.rf_search.proofs.writing.close_written.Goals as goal

pub returns-in_err-outcome-clause-part : goal.returns-in_err-outcome-clause-part
returns-in_err-outcome-clause-part g c = let s = g.C.Constraints.system c.args.all.now in let logged = c.close_in.ensures.logged in
    cut_part s (g.S.Alive.family c.args.store.now) (g.S.Alive.family c.close_in.new.store) logged.steps logged.cut

pub returns-in_err-write_steps-clause-part : goal.returns-in_err-write_steps-clause-part
returns-in_err-write_steps-clause-part g c = let s = g.C.Constraints.system c.args.all.now in let logged = c.close_in.ensures.logged in
    cut_part s (g.S.Alive.family c.args.store.now) (g.S.Alive.family c.close_in.new.store) logged.steps logged.cut

pub returns-in_err-push-in-Empty-clause-part : goal.returns-in_err-push-in-Empty-clause-part
returns-in_err-push-in-Empty-clause-part g c = let s = g.C.Constraints.system c.args.all.now in let logged = c.close_in.ensures.logged in
    cut_part s (g.S.Alive.family c.args.store.now) (g.S.Alive.family c.close_in.new.store) logged.steps logged.cut

pub returns-in_ok-push-in-Empty-clause-part : goal.returns-in_ok-push-in-Empty-clause-part
returns-in_ok-push-in-Empty-clause-part g c = let s = g.C.Constraints.system c.args.all.now in let logged = c.close_in.ensures.logged in
    cut_part s (g.S.Alive.family c.args.store.now) (g.S.Alive.family c.close_in.new.store) logged.steps logged.cut

pub returns-in-Closed-clause-writes : goal.returns-in-Closed-clause-writes
returns-in-Closed-clause-writes g c = let s = g.C.Constraints.system c.args.all.now in let old = c.args.store.now in let new = c.close_in.new.store in
    closed_nodes s (g.S.Alive.family old) (g.S.Alive.family new) (g.S.Store.removed old) (g.S.Store.removed new) c.truncate.new.self c.close_in.new.log
    (map shown c.args.nodes.now) (map shown c.write_steps.new.nodes) c.requires.fit c.close_in.ensures.logged c.truncate.ensures
    (c.in_ok-write_steps.ensures ∙ ap (λ (l : List Step). map shown c.args.nodes.now ++ map removing l) c.as_slice.ensures)

pub returns-in_ok-push-in-Empty-clause-writes : goal.returns-in_ok-push-in-Empty-clause-writes
returns-in_ok-push-in-Empty-clause-writes g c = let s = g.C.Constraints.system c.args.all.now in let old = c.args.store.now in let new = c.close_in.new.store in
    failed_nodes s (g.S.Alive.family old) (g.S.Alive.family new) (g.S.Store.removed old) (g.S.Store.removed new) c.truncate.new.self c.close_in.new.log
    (map shown c.args.nodes.now) (map shown c.write_steps.new.nodes) c.requires.fit c.close_in.ensures.logged c.truncate.ensures
    (c.in_ok-write_steps.ensures ∙ ap (λ (l : List Step). map shown c.args.nodes.now ++ map removing l) c.as_slice.ensures)
    c.in-Empty.c (map shown c.push.new.self) (ap (map shown) c.in_ok-push-in-Empty.ensures.ok ∙ map_push shown c.write_steps.new.nodes _)
    (let emptied = subst (λ (o : Outcome). Closes s (g.S.Alive.family old) (g.S.Alive.family new) o) c.in-Empty.is c.in_ok-outcome.ensures.closes in emptied.fails)
