use Rattle.std.proofs.Common.{ℕ, List, [], ◌∷◌, ◌++◌, ◌<◌, length, get_or, refl, sym, ap, ◌∙◌, arith}
use Rattle.std.proofs.lemmas.List.{get_or_default}
use Rattle.rf_form.specs.Alive.{is_among}
use Rattle.rf_prop.proofs.Wires.{added_skip, added_push}
use Rattle.rf_prop.proofs.wiring.wire_one.Goals as goal

pub loop-x-preserved-then-at-len : goal.loop-x-preserved-then-at-len
loop-x-preserved-then-at-len c = let k = c.loop-x.x-index in let now = c.loop-x.watchers in
    added_skip c.args.found.now k c.args.place c.args.watchers.now.items now.items c.loop-x.vars c.loop-x-test.true c.loop-x.invariant
    (λ inside. absurd (let test = c.if-at-len.true in let len = c.len.ensures in omega (arith, now.ok.0)))

pub loop-x-preserved-then-ends_with : goal.loop-x-preserved-then-ends_with
loop-x-preserved-then-ends_with c = let k = c.loop-x.x-index in let now = c.loop-x.watchers in let x = get_or c.args.found.now k 0 in
    added_skip c.args.found.now k c.args.place c.args.watchers.now.items now.items c.loop-x.vars c.loop-x-test.true c.loop-x.invariant
    (λ inside. ap (is_among c.args.place) (get_or_default now.items x [] c.index.result.now inside ∙ (sym c.index.ensures ∙ sym c.as_slice.ensures))
    ∙ c.if-ends_with.ensures)

pub loop-x-preserved : goal.loop-x-preserved
loop-x-preserved c = let k = c.loop-x.x-index in let now = c.loop-x.watchers in let x = get_or c.args.found.now k 0 in
    let inside : x < length now.items = (let test = c.if-at-len.false in let len = c.len.ensures in omega (arith, now.ok.0)) in
    added_push c.args.found.now k c.args.place c.args.watchers.now.items now.items c.loop-x.vars c.loop-x-test.true c.loop-x.invariant
    x refl inside c.push.new.self
    (c.in_ok-push.ensures.ok ∙ ap (λ (l : List ℕ). l ++ c.args.place ∷ []) (c.index_mut.ensures.value
    ∙ get_or_default now.items x c.index_mut.result.now [] inside))
    c.push-in-loop-x.new.self c.in_ok-push-2.ensures.ok
