use Rattle.std.proofs.Common.{ℕ, ◌+◌, Option, MatchOption, length, ◌∙◌, subst, arith}
use Rattle.rf_cons.specs.Systems.{FalseAt}
use Rattle.rf_prop.specs.Queues.{AllReady}
use Rattle.rf_prop.proofs.CutLemmas.{logged_then}
use Rattle.rf_prop.proofs.Quiets.{logged_lighter, logged_inside, filled_logged, closed_from, emptied_from}
use Rattle.rf_prop.proofs.closing.close_in.Goals as goal

pub returns-in_err-c-clause-filled : goal.returns-in_err-c-clause-filled
returns-in_err-c-clause-filled g c = filled_logged (g.C.Constraints.system c.args.all.now) (g.S.Alive.family c.args.store.now) (g.S.Alive.family c.start.new.store) (g.S.Store.removed c.args.store.now) (g.S.Store.removed c.start.new.store) c.args.log.now c.start.new.log c.start.ensures.logged c.requires.filled

pub returns-in-Some-clause-filled : goal.returns-in-Some-clause-filled
returns-in-Some-clause-filled g c = filled_logged (g.C.Constraints.system c.args.all.now) (g.S.Alive.family c.args.store.now) (g.S.Alive.family c.start.new.store) (g.S.Store.removed c.args.store.now) (g.S.Store.removed c.start.new.store) c.args.log.now c.start.new.log c.start.ensures.logged c.requires.filled

pub returns-in-Some-clause-closes : goal.returns-in-Some-clause-closes
returns-in-Some-clause-closes g c = emptied_from (g.C.Constraints.system c.args.all.now) (g.S.Alive.family c.args.store.now) (g.S.Alive.family c.start.new.store) (g.S.Store.removed c.args.store.now) (g.S.Store.removed c.start.new.store) c.args.log.now c.start.new.log c.in-Some.c c.requires.fit c.requires.filled c.start.ensures.logged
    (subst (λ (o : Option ℕ). MatchOption o (AllReady (g.C.Constraints.system c.args.all.now) (g.S.Alive.family c.start.new.store) c.start.new.log (length c.args.log.now)) (FalseAt (g.C.Constraints.system c.args.all.now) (g.S.Alive.family c.start.new.store))) c.in-Some.is c.in_ok-c.ensures.ready)

pub returns-in_err-c-2-clause-logged : goal.returns-in_err-c-2-clause-logged
returns-in_err-c-2-clause-logged g c = logged_then (g.C.Constraints.system c.args.all.now) (g.S.Alive.family c.args.store.now) (g.S.Alive.family c.loop-done.store) (g.S.Alive.family c.wake.new.store) (g.S.Store.removed c.args.store.now) (g.S.Store.removed c.loop-done.store) (g.S.Store.removed c.wake.new.store) c.args.log.now c.loop-done.log c.wake.new.log
    c.loop-done.invariant.logged c.wake.ensures.logged

pub returns-in_err-c-2-clause-filled : goal.returns-in_err-c-2-clause-filled
returns-in_err-c-2-clause-filled g c = filled_logged (g.C.Constraints.system c.args.all.now) (g.S.Alive.family c.args.store.now) (g.S.Alive.family c.wake.new.store) (g.S.Store.removed c.args.store.now) (g.S.Store.removed c.wake.new.store) c.args.log.now c.wake.new.log (logged_then (g.C.Constraints.system c.args.all.now) (g.S.Alive.family c.args.store.now) (g.S.Alive.family c.loop-done.store) (g.S.Alive.family c.wake.new.store) (g.S.Store.removed c.args.store.now) (g.S.Store.removed c.loop-done.store) (g.S.Store.removed c.wake.new.store) c.args.log.now c.loop-done.log c.wake.new.log
    c.loop-done.invariant.logged c.wake.ensures.logged) c.requires.filled

pub returns-in-Some-2-clause-logged : goal.returns-in-Some-2-clause-logged
returns-in-Some-2-clause-logged g c = logged_then (g.C.Constraints.system c.args.all.now) (g.S.Alive.family c.args.store.now) (g.S.Alive.family c.loop-done.store) (g.S.Alive.family c.wake.new.store) (g.S.Store.removed c.args.store.now) (g.S.Store.removed c.loop-done.store) (g.S.Store.removed c.wake.new.store) c.args.log.now c.loop-done.log c.wake.new.log
    c.loop-done.invariant.logged c.wake.ensures.logged

pub returns-in-Some-2-clause-filled : goal.returns-in-Some-2-clause-filled
returns-in-Some-2-clause-filled g c = filled_logged (g.C.Constraints.system c.args.all.now) (g.S.Alive.family c.args.store.now) (g.S.Alive.family c.wake.new.store) (g.S.Store.removed c.args.store.now) (g.S.Store.removed c.wake.new.store) c.args.log.now c.wake.new.log (logged_then (g.C.Constraints.system c.args.all.now) (g.S.Alive.family c.args.store.now) (g.S.Alive.family c.loop-done.store) (g.S.Alive.family c.wake.new.store) (g.S.Store.removed c.args.store.now) (g.S.Store.removed c.loop-done.store) (g.S.Store.removed c.wake.new.store) c.args.log.now c.loop-done.log c.wake.new.log
    c.loop-done.invariant.logged c.wake.ensures.logged) c.requires.filled

pub returns-in-Some-2-clause-closes : goal.returns-in-Some-2-clause-closes
returns-in-Some-2-clause-closes g c = emptied_from (g.C.Constraints.system c.args.all.now) (g.S.Alive.family c.args.store.now) (g.S.Alive.family c.wake.new.store) (g.S.Store.removed c.args.store.now) (g.S.Store.removed c.wake.new.store) c.args.log.now c.wake.new.log c.in-Some-2.c c.requires.fit c.requires.filled (logged_then (g.C.Constraints.system c.args.all.now) (g.S.Alive.family c.args.store.now) (g.S.Alive.family c.loop-done.store) (g.S.Alive.family c.wake.new.store) (g.S.Store.removed c.args.store.now) (g.S.Store.removed c.loop-done.store) (g.S.Store.removed c.wake.new.store) c.args.log.now c.loop-done.log c.wake.new.log
    c.loop-done.invariant.logged c.wake.ensures.logged)
    (subst (λ (o : Option ℕ). MatchOption o (AllReady (g.C.Constraints.system c.args.all.now) (g.S.Alive.family c.wake.new.store) c.wake.new.log (c.loop-done.done + 1)) (FalseAt (g.C.Constraints.system c.args.all.now) (g.S.Alive.family c.wake.new.store))) c.in-Some-2.is c.in_ok-c-2.ensures.ready)

pub wake-requires-clause-variable : goal.wake-requires-clause-variable
wake-requires-clause-variable g c = logged_inside (g.C.Constraints.system c.args.all.now) (g.S.Alive.family c.args.store.now) (g.S.Alive.family c.loop-done.store) (g.S.Store.removed c.args.store.now) (g.S.Store.removed c.loop-done.store) c.args.log.now c.loop-done.log c.loop-done.done c.requires.fit c.loop-done.invariant.logged c.loop-done.invariant.from (omega arith)

pub loop-done-smaller : goal.loop-done-smaller
loop-done-smaller g c = let w = logged_lighter (g.C.Constraints.system c.args.all.now) (g.S.Alive.family c.loop-done.store) (g.S.Alive.family c.wake.new.store) (g.S.Store.removed c.loop-done.store) (g.S.Store.removed c.wake.new.store) c.loop-done.log c.wake.new.log c.loop-done.invariant.fit c.wake.ensures.logged in
    let light = w.1 in let test = c.loop-done-test.true in let len = c.len.ensures in omega arith

pub loop-done-preserved : goal.loop-done-preserved
loop-done-preserved g c = let w = logged_lighter (g.C.Constraints.system c.args.all.now) (g.S.Alive.family c.loop-done.store) (g.S.Alive.family c.wake.new.store) (g.S.Store.removed c.loop-done.store) (g.S.Store.removed c.wake.new.store) c.loop-done.log c.wake.new.log c.loop-done.invariant.fit c.wake.ensures.logged in
    let grown = w.0 in let test = c.loop-done-test.true in let len = c.len.ensures in record {
      first = c.wake.ensures.first ∙ c.loop-done.invariant.first;
      fit = c.wake.ensures.fit;
      logged = logged_then (g.C.Constraints.system c.args.all.now) (g.S.Alive.family c.args.store.now) (g.S.Alive.family c.loop-done.store) (g.S.Alive.family c.wake.new.store) (g.S.Store.removed c.args.store.now) (g.S.Store.removed c.loop-done.store) (g.S.Store.removed c.wake.new.store) c.args.log.now c.loop-done.log c.wake.new.log
          c.loop-done.invariant.logged c.wake.ensures.logged;
      ready = subst (λ (o : Option ℕ). MatchOption o (AllReady (g.C.Constraints.system c.args.all.now) (g.S.Alive.family c.wake.new.store) c.wake.new.log (c.loop-done.done + 1)) (FalseAt (g.C.Constraints.system c.args.all.now) (g.S.Alive.family c.wake.new.store))) c.in-None-2.is c.in_ok-c-2.ensures.ready;
      from = let f = c.loop-done.invariant.from in omega arith;
      behind = omega arith;
    }

pub returns-clause-filled : goal.returns-clause-filled
returns-clause-filled g c = filled_logged (g.C.Constraints.system c.args.all.now) (g.S.Alive.family c.args.store.now) (g.S.Alive.family c.loop-done.store) (g.S.Store.removed c.args.store.now) (g.S.Store.removed c.loop-done.store) c.args.log.now c.loop-done.log c.loop-done.invariant.logged c.requires.filled

pub returns-clause-closes : goal.returns-clause-closes
returns-clause-closes g c = closed_from (g.C.Constraints.system c.args.all.now) (g.S.Alive.family c.args.store.now) (g.S.Alive.family c.loop-done.store) (g.S.Store.removed c.args.store.now) (g.S.Store.removed c.loop-done.store) c.args.log.now c.loop-done.log c.loop-done.done c.requires.fit c.requires.filled c.loop-done.invariant.logged (omega arith) c.loop-done.invariant.ready
