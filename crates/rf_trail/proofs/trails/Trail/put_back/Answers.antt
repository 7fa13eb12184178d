use Rattle.std.proofs.Common.{arith, rules}
use Rattle.rf_trail.proofs.Steps.{last_removed, last_gone, back_room, back_places, back_gone, back_once, back_first}
use Rattle.rf_trail.proofs.trails.Trail.put_back.Goals as goal

pub index_mut-requires : goal.index_mut-requires
index_mut-requires g c = let s = c.args.self.now in let r = c.index.result.now in
    (s.places r.0 r.1 (last_removed s.log.items s.top r.0 r.1 c.requires (omega (arith, s.log.ok.0)) c.index.ensures)).0

pub put-requires : goal.put-requires
put-requires g c = let s = c.args.self.now in let r = c.index.result.now in
    let p = s.places r.0 r.1 (last_removed s.log.items s.top r.0 r.1 c.requires (omega (arith, s.log.ok.0)) c.index.ensures) in (
      search rules,
      (
        p.1,
        last_gone s.doms.items s.log.items s.top r.0 r.1 c.index_mut.result.now c.requires (omega (arith, s.log.ok.0)) c.index.ensures
            (omega (arith, s.doms.ok.0)) c.index_mut.ensures.value s.gone,
      ),
    )

pub invariant_of-self-clause-room : goal.invariant_of-self-clause-room
invariant_of-self-clause-room g c = let s = c.args.self.now in let r = c.index.result.now in
    let p = s.places r.0 r.1 (last_removed s.log.items s.top r.0 r.1 c.requires (omega (arith, s.log.ok.0)) c.index.ensures) in
    back_room s.doms.items s.log.items s.top r.0 r.1 c.index_mut.result.now c.put.new.self c.requires (omega (arith, s.log.ok.0)) c.index.ensures
    (omega (arith, s.doms.ok.0)) c.index_mut.ensures.value c.put.ensures s.log.len s.room

pub invariant_of-self-clause-places : goal.invariant_of-self-clause-places
invariant_of-self-clause-places g c = let s = c.args.self.now in let r = c.index.result.now in
    let p = s.places r.0 r.1 (last_removed s.log.items s.top r.0 r.1 c.requires (omega (arith, s.log.ok.0)) c.index.ensures) in
    λ y w h. s.places y w (back_places s.doms.items s.log.items s.top r.0 r.1 c.index_mut.result.now c.put.new.self c.requires (omega (arith, s.log.ok.0)) c.index.ensures
    (omega (arith, s.doms.ok.0)) c.index_mut.ensures.value c.put.ensures y w h)

pub invariant_of-self-clause-gone : goal.invariant_of-self-clause-gone
invariant_of-self-clause-gone g c = let s = c.args.self.now in let r = c.index.result.now in
    let p = s.places r.0 r.1 (last_removed s.log.items s.top r.0 r.1 c.requires (omega (arith, s.log.ok.0)) c.index.ensures) in
    back_gone s.doms.items s.log.items s.top r.0 r.1 c.index_mut.result.now c.put.new.self c.requires (omega (arith, s.log.ok.0)) c.index.ensures
    (omega (arith, s.doms.ok.0)) c.index_mut.ensures.value c.put.ensures s.once s.gone

pub invariant_of-self-clause-once : goal.invariant_of-self-clause-once
invariant_of-self-clause-once g c = let s = c.args.self.now in let r = c.index.result.now in
    let p = s.places r.0 r.1 (last_removed s.log.items s.top r.0 r.1 c.requires (omega (arith, s.log.ok.0)) c.index.ensures) in
    back_once s.doms.items s.log.items s.top r.0 r.1 c.index_mut.result.now c.put.new.self c.requires (omega (arith, s.log.ok.0)) c.index.ensures
    (omega (arith, s.doms.ok.0)) c.index_mut.ensures.value c.put.ensures s.once

pub returns-clause-first : goal.returns-clause-first
returns-clause-first g c = let s = c.args.self.now in let r = c.index.result.now in
    let p = s.places r.0 r.1 (last_removed s.log.items s.top r.0 r.1 c.requires (omega (arith, s.log.ok.0)) c.index.ensures) in
    back_first s.doms.items s.log.items s.top r.0 r.1 c.index_mut.result.now c.put.new.self c.requires (omega (arith, s.log.ok.0)) c.index.ensures
    (omega (arith, s.doms.ok.0)) c.index_mut.ensures.value c.put.ensures
