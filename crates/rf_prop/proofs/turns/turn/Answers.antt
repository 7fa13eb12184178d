use Rattle.std.proofs.Common.{◌∙◌}
use Rattle.rf_prop.proofs.CutLemmas.{logged_then}
use Rattle.rf_prop.proofs.Quiets.{quiet_from}
use Rattle.rf_prop.proofs.turns.turn.Goals as goal

pub returns-in-None-clause-turned : goal.returns-in-None-clause-turned
returns-in-None-clause-turned g c = quiet_from (g.C.Constraints.system c.args.all.now) (g.S.Alive.family c.loop-place.store) c.args.place
    c.args.vars.now c.loop-place.invariant.fit c.requires.vars c.if-is_false.ensures c.in-None.ensures

pub loop-place-preserved : goal.loop-place-preserved
loop-place-preserved g c = let old = c.args.store.now in let mid = c.loop-place.store in let new = c.take_away.new.store in record {
  first = c.take_away.ensures.first ∙ c.loop-place.invariant.first;
  fit = c.take_away.ensures.fit;
  logged = logged_then (g.C.Constraints.system c.args.all.now) (g.S.Alive.family old) (g.S.Alive.family mid) (g.S.Alive.family new)
      (g.S.Store.removed old) (g.S.Store.removed mid) (g.S.Store.removed new) c.args.log.now c.loop-place.log c.take_away.new.log
      c.loop-place.invariant.logged c.take_away.ensures.logged;
}

pub returns-in_err-take_away-in-Some-clause-logged : goal.returns-in_err-take_away-in-Some-clause-logged
returns-in_err-take_away-in-Some-clause-logged g c = let old = c.args.store.now in let mid = c.loop-place.store in let new = c.take_away.new.store in
    logged_then (g.C.Constraints.system c.args.all.now) (g.S.Alive.family old) (g.S.Alive.family mid) (g.S.Alive.family new)
    (g.S.Store.removed old) (g.S.Store.removed mid) (g.S.Store.removed new) c.args.log.now c.loop-place.log c.take_away.new.log
    c.loop-place.invariant.logged c.take_away.ensures.logged
