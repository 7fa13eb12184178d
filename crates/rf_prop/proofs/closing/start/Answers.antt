use Rattle.std.proofs.Common.{◌≡◌, ℕ, length, ◌∙◌, subst, inl, inr, arith}
use Rattle.std.proofs.lemmas.Bool.{cases_lt}
use Rattle.rf_prop.specs.declared.steps.Turn.{Turn}
use Rattle.rf_prop.specs.Turns.{Quiet, Turned}
use Rattle.rf_prop.proofs.CutLemmas.{logged_then}
use Rattle.rf_prop.proofs.Quiets.{ready_logged, logged_lighter}
use Rattle.rf_prop.proofs.closing.start.Goals as goal

pub returns-in_err-turn-clause-logged : goal.returns-in_err-turn-clause-logged
returns-in_err-turn-clause-logged g c = logged_then (g.C.Constraints.system c.args.all.now) (g.S.Alive.family c.args.store.now) (g.S.Alive.family c.loop-place.store) (g.S.Alive.family c.turn.new.store) (g.S.Store.removed c.args.store.now) (g.S.Store.removed c.loop-place.store) (g.S.Store.removed c.turn.new.store) c.args.log.now c.loop-place.log c.turn.new.log
    c.loop-place.invariant.logged c.turn.ensures.logged

pub returns-in-Fail-clause-logged : goal.returns-in-Fail-clause-logged
returns-in-Fail-clause-logged g c = logged_then (g.C.Constraints.system c.args.all.now) (g.S.Alive.family c.args.store.now) (g.S.Alive.family c.loop-place.store) (g.S.Alive.family c.turn.new.store) (g.S.Store.removed c.args.store.now) (g.S.Store.removed c.loop-place.store) (g.S.Store.removed c.turn.new.store) c.args.log.now c.loop-place.log c.turn.new.log
    c.loop-place.invariant.logged c.turn.ensures.logged

pub loop-place-preserved : goal.loop-place-preserved
loop-place-preserved g c = let δ = (g.S.Alive.family c.turn.new.store) in
    let quiet = subst (λ (t : Turn). Turned (g.C.Constraints.system c.args.all.now) δ c.loop-place.place t) c.in-Rest.is c.in_ok-turn.ensures.turned in
    let longer = (logged_lighter (g.C.Constraints.system c.args.all.now) (g.S.Alive.family c.args.store.now) (g.S.Alive.family c.loop-place.store) (g.S.Store.removed c.args.store.now) (g.S.Store.removed c.loop-place.store) c.args.log.now c.loop-place.log c.requires.fit c.loop-place.invariant.logged).0 in record {
      first = c.turn.ensures.first ∙ c.loop-place.invariant.first;
      fit = c.turn.ensures.fit;
      logged = logged_then (g.C.Constraints.system c.args.all.now) (g.S.Alive.family c.args.store.now) (g.S.Alive.family c.loop-place.store) (g.S.Alive.family c.turn.new.store) (g.S.Store.removed c.args.store.now) (g.S.Store.removed c.loop-place.store) (g.S.Store.removed c.turn.new.store) c.args.log.now c.loop-place.log c.turn.new.log
          c.loop-place.invariant.logged c.turn.ensures.logged;
      ready = λ k lt. elim (cases_lt k c.loop-place.place) [
        | inl below ↦ ready_logged (g.C.Constraints.system c.args.all.now) (g.S.Alive.family c.loop-place.store) (g.S.Alive.family c.turn.new.store) (g.S.Store.removed c.loop-place.store) (g.S.Store.removed c.turn.new.store) c.loop-place.log c.turn.new.log (length c.args.log.now) k longer c.turn.ensures.logged (c.loop-place.invariant.ready k below)
        | inr above ↦ let e : c.loop-place.place ≡ k = omega arith in inl (subst (λ (p : ℕ). Quiet (g.C.Constraints.system c.args.all.now) δ p) e quiet)
      ];
    }
