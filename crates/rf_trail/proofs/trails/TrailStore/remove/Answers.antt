use Rattle.std.proofs.Common.{◌<◌, ◌*◌, sym, ap, ◌∙◌, arith}
use Rattle.rf_trail.proofs.Steps.{has_room, more_room, more_places, more_gone, more_once, more_first, place_below, read_row}
use Rattle.rf_form.specs.Alive.{is_among}
use Rattle.rf_trail.proofs.Rows.{row_inside}
use Rattle.rf_trail.proofs.trails.TrailStore.remove.Goals as goal

pub invariant_of-self-clause-room : goal.invariant_of-self-clause-room
invariant_of-self-clause-room g c = let s = c.args.self.now in
    more_room s.doms.items s.log.items s.top c.args.x c.args.v c.index_mut-dom.result.now c.take.new.self c.requires c.index_mut-dom.ensures.value c.take.ensures s.log.len s.room

pub invariant_of-self-clause-places : goal.invariant_of-self-clause-places
invariant_of-self-clause-places g c = let s = c.args.self.now in
    more_places s.doms.items s.log.items s.top c.args.x c.args.v c.index_mut-dom.result.now c.take.new.self c.requires c.index_mut-dom.ensures.value c.take.ensures
    (let room = has_room s.doms.items s.log.items s.top c.args.x c.args.v c.index_mut-dom.result.now c.take.new.self c.requires c.index_mut-dom.ensures.value c.take.ensures s.log.len s.room in omega (arith, s.log.ok.0))
    (λ y w. (y < s.doms.len) × (w < 64 * g.row.W)) (
      (let inside = row_inside s.doms.items c.args.x c.args.v c.requires in omega (arith, s.doms.ok.0)),
      place_below c.index_mut-dom.result.now (64 * g.row.W) c.args.v c.shape.ensures
          (sym (ap (is_among c.args.v) (read_row s.doms.items c.args.x c.index_mut-dom.result.now (row_inside s.doms.items c.args.x c.args.v c.requires) c.index_mut-dom.ensures.value)) ∙ c.requires),
    )
    s.places

pub invariant_of-self-clause-gone : goal.invariant_of-self-clause-gone
invariant_of-self-clause-gone g c = let s = c.args.self.now in
    more_gone s.doms.items s.log.items s.top c.args.x c.args.v c.index_mut-dom.result.now c.take.new.self c.requires c.index_mut-dom.ensures.value c.take.ensures
    (let room = has_room s.doms.items s.log.items s.top c.args.x c.args.v c.index_mut-dom.result.now c.take.new.self c.requires c.index_mut-dom.ensures.value c.take.ensures s.log.len s.room in omega (arith, s.log.ok.0)) s.gone

pub invariant_of-self-clause-once : goal.invariant_of-self-clause-once
invariant_of-self-clause-once g c = let s = c.args.self.now in
    more_once s.doms.items s.log.items s.top c.args.x c.args.v c.index_mut-dom.result.now c.take.new.self c.requires c.index_mut-dom.ensures.value c.take.ensures
    (let room = has_room s.doms.items s.log.items s.top c.args.x c.args.v c.index_mut-dom.result.now c.take.new.self c.requires c.index_mut-dom.ensures.value c.take.ensures s.log.len s.room in omega (arith, s.log.ok.0)) s.gone s.once

pub returns-clause-first : goal.returns-clause-first
returns-clause-first g c = let s = c.args.self.now in
    more_first s.doms.items s.log.items s.top c.args.x c.args.v c.index_mut-dom.result.now c.take.new.self c.requires c.index_mut-dom.ensures.value c.take.ensures
    (let room = has_room s.doms.items s.log.items s.top c.args.x c.args.v c.index_mut-dom.result.now c.take.new.self c.requires c.index_mut-dom.ensures.value c.take.ensures s.log.len s.room in omega (arith, s.log.ok.0))
