use Rattle.std.proofs.Common.{◌≡◌, ◌+◌, ◌<◌, ◌≤◌, ◌∷◌, ◌++◌, ℕ, List, length, map, get_or, sym, ap, ◌∙◌, subst, arith}
use Rattle.rf_form.specs.Families.{Family}
use Rattle.rf_refute.specs.Shown.{shown}
use Rattle.rf_refute.specs.Good.{below}
use Rattle.rf_refute.specs.Stacks.{pending}
use Rattle.rf_refute.proofs.Leading.{Leads, leads_step, leads_bad, leads_over, leads_missing, leads_done, node_at, node_read, nodes_past, first_bad_at}
use Rattle.rf_refute.proofs.Stackings.{opened_moved}
use Rattle.rf_refute.proofs.checking.check_in.Goals as goal

pub returns-then-not-fits-clause-verdict : goal.returns-then-not-fits-clause-verdict
returns-then-not-fits-clause-verdict g c = let s = g.C.Constraints.system c.args.all.now in let l = c.loop-at in
    leads_bad s (g.S.Alive.family c.args.store.now) (map shown c.args.nodes.now) l.at (shown c.index-nodes-at.result)
    (node_read c.args.nodes.now l.at c.index-nodes-at.result c.loop-at-test.true c.index-nodes-at.is)
    (g.S.Alive.family l.store) (pending s.vals (g.S.Store.first l.store) (g.S.Store.removed l.store) l.frames.0) c.if-not-fits.ensures l.invariant.leads

pub returns-then-at-nodes-clause-verdict : goal.returns-then-at-nodes-clause-verdict
returns-then-at-nodes-clause-verdict g c = let s = g.C.Constraints.system c.args.all.now in let l = c.loop-at in let whole = g.S.Alive.family c.args.store.now in
    let nodes = map shown c.args.nodes.now in let rest = pending s.vals (g.S.Store.first l.store) (g.S.Store.removed l.store) l.frames.0 in
    let n = shown c.index-nodes-at.result in let δ = g.S.Alive.family l.store in
    first_bad_at s whole nodes (l.at + 1 + 1) (l.at + 2) (omega arith)
    (leads_over s whole nodes (l.at + 1) (shown (get_or c.args.nodes.now (l.at + 1) c.index-nodes-at.result))
    (node_at c.args.nodes.now (l.at + 1) c.index-nodes-at.result c.if-at-nodes.true) (below δ n ++ rest) c.if-not-open.ensures.opened
    (leads_step s whole nodes l.at n (node_read c.args.nodes.now l.at c.index-nodes-at.result c.loop-at-test.true c.index-nodes-at.is) δ rest
    c.if-not-fits.ensures l.invariant.leads))

pub loop-at-preserved : goal.loop-at-preserved
loop-at-preserved g c = let s = g.C.Constraints.system c.args.all.now in let l = c.loop-at in let whole = g.S.Alive.family c.args.store.now in
    let nodes = map shown c.args.nodes.now in let rest = pending s.vals (g.S.Store.first l.store) (g.S.Store.removed l.store) l.frames.0 in
    let n = shown c.index-nodes-at.result in let δ = g.S.Alive.family l.store in let new = c.open.new.store in
    let o = opened_moved s.vals l.frames.1 c.open.new.frames.1 (g.S.Store.first l.store) (g.S.Store.first new) (below δ n ++ rest) (g.S.Alive.family new)
    (g.S.Store.removed new) c.open.new.frames.0 c.open.ensures.first c.open.ensures.room c.if-not-open.ensures.opened in record {
      first = c.open.ensures.first ∙ l.invariant.first;
      fit = o.fit;
      room = c.open.ensures.room ∙ l.invariant.room;
      held = o.held;
      light = o.light;
      leads = subst (λ (t : List Family). Leads s whole nodes (l.at + 1) t) (sym o.families)
          (leads_step s whole nodes l.at n (node_read c.args.nodes.now l.at c.index-nodes-at.result c.loop-at-test.true c.index-nodes-at.is) δ rest
          c.if-not-fits.ensures l.invariant.leads);
    }

pub returns-clause-verdict : goal.returns-clause-verdict
returns-clause-verdict g c = let s = g.C.Constraints.system c.args.all.now in let l = c.loop-at in let whole = g.S.Alive.family c.args.store.now in
    let low = c.loop-at-test.false in let high = l.auto.at-end in
    first_bad_at s whole (map shown c.args.nodes.now) (l.at + 1) (length c.args.nodes.now + 1) (omega arith)
    (leads_missing s whole (map shown c.args.nodes.now) l.at (nodes_past c.args.nodes.now l.at c.loop-at-test.false) (g.S.Alive.family l.store)
    (pending s.vals (g.S.Store.first l.store) (g.S.Store.removed l.store) l.frames.0) l.invariant.leads)
