use Rattle.std.proofs.Common.{◌≡◌, ◌++◌, List, sym, subst}
use Rattle.rf_refute.specs.declared.nodes.Node.{Node}
use Rattle.rf_refute.specs.Good.{Fits, below}
use Rattle.rf_refute.specs.Shown.{shown}
use Rattle.rf_refute.specs.Stacks.{pending, Opened}
use Rattle.rf_refute.proofs.Stackings.{split_some, split_opened}
use Rattle.rf_refute.proofs.opening.open.Goals as goal

pub open_split-requires-clause-some : goal.open_split-requires-clause-some
open_split-requires-clause-some g c = let s = g.C.Constraints.system c.args.all.now in let δ = g.S.Alive.family c.args.store.now in
    split_some s c.vals-in-Split.result.now δ c.in-Split.x c.in-Split.vals.items c.vals-in-Split.ensures
    (subst (λ (n : Node). Fits s δ (shown n)) c.in-Split.is c.requires.fits)

pub returns-in-Split-clause-opened : goal.returns-in-Split-clause-opened
returns-in-Split-clause-opened g c = let s = g.C.Constraints.system c.args.all.now in let old = c.args.store.now in let new = c.open_split.new.store in
    let δ = g.S.Alive.family old in let first = g.S.Store.first old in let rs = g.S.Store.removed old in let fs = c.args.frames.now.0 in
    subst (λ (n : Node). Opened s.vals c.args.frames.now.1 first (below δ (shown n) ++ pending s.vals first rs fs) (g.S.Alive.family new) (g.S.Store.removed new)
    c.open_split.new.frames.0) (sym c.in-Split.is)
    (split_opened s c.vals-in-Split.result.now c.args.frames.now.1 first δ rs fs c.in-Split.x c.in-Split.vals.items (g.S.Alive.family new) (g.S.Store.removed new)
    c.open_split.new.frames.0 c.vals-in-Split.ensures (subst (λ (n : Node). Fits s δ (shown n)) c.in-Split.is c.requires.fits) c.open_split.ensures.opened)
