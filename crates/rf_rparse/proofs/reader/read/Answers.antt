use Rattle.std.proofs.Common.{◌∙◌, sym, subst, map, arith, List}
use Rattle.rf_rtree.specs.declared.items.Item.{Item}
use Rattle.rf_rtree.specs.Readings.{Reading}
use Rattle.rf_rparse.specs.Words.{shown}
use Rattle.rf_rparse.proofs.Final.{run_next, run_stops, ends_within, ends_whole}
use Rattle.rf_rparse.proofs.ParseLemmas.{not_so}
use Rattle.rf_rparse.proofs.reader.read.Goals as goal

pub returns-in-None : goal.returns-in-None
returns-in-None c = run_stops c.args.toks.now c.loop-at.at c.index-toks-at.result c.loop-at.course c.loop-at-test.true
    c.index-toks-at.is c.loop-at.invariant (sym c.in_ok-next.ensures ∙ c.in-None.is)

pub loop-at-preserved : goal.loop-at-preserved
loop-at-preserved c = run_next c.args.toks.now c.loop-at.at c.index-toks-at.result c.loop-at.course c.in-Some.next c.loop-at-test.true
    c.index-toks-at.is c.loop-at.invariant (sym c.in_ok-next.ensures ∙ c.in-Some.is)

pub returns-then-not-is_whole : goal.returns-then-not-is_whole
returns-then-not-is_whole c = ends_within c.args.toks.now c.loop-at.at c.loop-at.course (omega arith) c.loop-at.invariant
    (λ top. not_so c.is_whole.result c.if-not-is_whole.true (c.is_whole.ensures.1 top))

pub returns : goal.returns
returns c = subst (λ (items : List Item). Reading (map shown c.args.toks.now) (record { items = items })) (sym c.into_items.ensures)
    (ends_whole c.args.toks.now c.loop-at.at c.loop-at.course.0 c.loop-at.course.1 (omega arith) c.loop-at.invariant
    (c.is_whole.ensures.0 c.if-not-is_whole.false))
