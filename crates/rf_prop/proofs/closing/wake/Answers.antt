use Rattle.std.proofs.Common.{◌≡◌, ℕ, ◌+◌, List, get_or, refl, sym, ap, ◌∙◌, subst, inl, inr, arith}
use Rattle.rf_form.specs.Alive.{is_among}
use Rattle.rf_form.specs.Truths.{row}
use Rattle.rf_prop.specs.declared.steps.Turn.{Turn}
use Rattle.rf_prop.specs.Turns.{Quiet, Turned}
use Rattle.rf_prop.specs.Queues.{variable_at}
use Rattle.rf_prop.proofs.CutLemmas.{logged_then, logged_none}
use Rattle.rf_prop.proofs.Quiets.{ready_logged, logged_lighter, ready_next, among_drop, among_row, variable_is}
use Rattle.rf_prop.specs.declared.steps.Step.{Step}
use Rattle.rf_prop.proofs.closing.wake.Goals as goal

abbrev blank : Step
blank = record { x = 0; v = 0; c = 0 }

pub loop-place-init : goal.loop-place-init
loop-place-init g c = let s = (g.C.Constraints.system c.args.all.now) in let x = (get_or c.as_slice.result.now c.args.done blank).x in
    let same : variable_at c.args.log.now c.args.done ≡ x = variable_is c.args.log.now c.args.done blank c.requires.inside
    ∙ ap (λ (l : List Step). (get_or l c.args.done blank).x) (sym c.as_slice.ensures) in record {
      first = refl;
      fit = c.requires.fit;
      logged = logged_none s (g.S.Alive.family c.args.store.now) (g.S.Store.removed c.args.store.now) c.args.log.now;
      ready = λ k lt. elim (ready_next s (g.S.Alive.family c.args.store.now) c.args.log.now c.args.done k (c.requires.ready k lt)) [
        | inl r ↦ inl r
        | inr m ↦ inr (ap (is_among k) (c.row_of-place-items.ensures ∙ ap (row c.args.net.now.watchers) (sym same))
            ∙ c.requires.wired.watched k (variable_at c.args.log.now c.args.done) lt c.requires.variable m)
      ];
    }

pub turn-requires-clause-inside : goal.turn-requires-clause-inside
turn-requires-clause-inside g c = let items = c.row_of-place-items.result.now in let i = c.loop-place.place-index in
    c.requires.wired.inside (get_or items i 0) (get_or c.as_slice.result.now c.args.done blank).x
    (sym (ap (is_among (get_or items i 0)) c.row_of-place-items.ensures) ∙ among_row items i c.loop-place-test.true)

pub returns-in_err-turn-clause-logged : goal.returns-in_err-turn-clause-logged
returns-in_err-turn-clause-logged g c = logged_then (g.C.Constraints.system c.args.all.now) (g.S.Alive.family c.args.store.now) (g.S.Alive.family c.loop-place.store) (g.S.Alive.family c.turn.new.store) (g.S.Store.removed c.args.store.now) (g.S.Store.removed c.loop-place.store) (g.S.Store.removed c.turn.new.store) c.args.log.now c.loop-place.log c.turn.new.log
    c.loop-place.invariant.logged c.turn.ensures.logged

pub returns-in-Fail-clause-logged : goal.returns-in-Fail-clause-logged
returns-in-Fail-clause-logged g c = logged_then (g.C.Constraints.system c.args.all.now) (g.S.Alive.family c.args.store.now) (g.S.Alive.family c.loop-place.store) (g.S.Alive.family c.turn.new.store) (g.S.Store.removed c.args.store.now) (g.S.Store.removed c.loop-place.store) (g.S.Store.removed c.turn.new.store) c.args.log.now c.loop-place.log c.turn.new.log
    c.loop-place.invariant.logged c.turn.ensures.logged

pub loop-place-preserved : goal.loop-place-preserved
loop-place-preserved g c = let δ = (g.S.Alive.family c.turn.new.store) in let items = c.row_of-place-items.result.now in let i = c.loop-place.place-index in
    let quiet = subst (λ (t : Turn). Turned (g.C.Constraints.system c.args.all.now) δ (get_or items i 0) t) c.in-Rest.is c.in_ok-turn.ensures.turned in
    let longer = (logged_lighter (g.C.Constraints.system c.args.all.now) (g.S.Alive.family c.args.store.now) (g.S.Alive.family c.loop-place.store) (g.S.Store.removed c.args.store.now) (g.S.Store.removed c.loop-place.store) c.args.log.now c.loop-place.log c.requires.fit c.loop-place.invariant.logged).0 in record {
      first = c.turn.ensures.first ∙ c.loop-place.invariant.first;
      fit = c.turn.ensures.fit;
      logged = logged_then (g.C.Constraints.system c.args.all.now) (g.S.Alive.family c.args.store.now) (g.S.Alive.family c.loop-place.store) (g.S.Alive.family c.turn.new.store) (g.S.Store.removed c.args.store.now) (g.S.Store.removed c.loop-place.store) (g.S.Store.removed c.turn.new.store) c.args.log.now c.loop-place.log c.turn.new.log
          c.loop-place.invariant.logged c.turn.ensures.logged;
      ready = λ k lt. elim (c.loop-place.invariant.ready k lt) [
        | inl r ↦ inl (ready_logged (g.C.Constraints.system c.args.all.now) (g.S.Alive.family c.loop-place.store) (g.S.Alive.family c.turn.new.store) (g.S.Store.removed c.loop-place.store) (g.S.Store.removed c.turn.new.store) c.loop-place.log c.turn.new.log (c.args.done + 1) k (omega arith) c.turn.ensures.logged r)
        | inr h ↦ elim (among_drop items i k c.loop-place-test.true h) [
          | inl e ↦ inl (inl (subst (λ (p : ℕ). Quiet (g.C.Constraints.system c.args.all.now) δ p) (sym e) quiet))
          | inr later ↦ inr later
        ]
      ];
    }
