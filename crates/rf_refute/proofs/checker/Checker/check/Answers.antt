use Rattle.std.proofs.Common.{◌≡◌, ◌∙◌, ◌≤◌, ℕ, List, take, ap, sym, subst, arith}
use Rattle.rf_form.specs.Alive.{among}
use Rattle.rf_form.specs.Families.{Family}
use Rattle.rf_trail.specs.Removals.{began, left_began}
use Rattle.rf_refute.specs.declared.frames.Frame.{Frame}
use Rattle.rf_refute.specs.Stacks.{HasRoom}
use Rattle.rf_refute.proofs.Stackings.{same_family}
use Rattle.rf_refute.proofs.checker.Checker.check.Goals as goal

pub invariant_of-self : goal.invariant_of-self
invariant_of-self g c = let t = c.args.self.now.trail in let u = c.back.new.self in
    let same = same_family (among t.doms.items) (among u.doms.items) (began (among t.doms.items) (take t.top t.log.items)) (began (among u.doms.items) (take u.top u.log.items))
    (take t.top t.log.items) (take u.top u.log.items) (left_began (among t.doms.items) (take t.top t.log.items) t.gone)
    (left_began (among u.doms.items) (take u.top u.log.items) u.gone) (c.back.ensures.first ∙ c.check_in-verdict.ensures.first)
    (c.back.ensures.removed ∙ sym c.args.self.now.whole) in
    let room = ap (λ (p : List Frame × ℕ). p.1) c.clear.ensures ∙ c.check_in-verdict.ensures.room in record {
      whole = c.back.ensures.removed;
      none = ap (λ (p : List Frame × ℕ). p.0) c.clear.ensures;
      room = subst (λ (δ : Family). HasRoom δ c.clear.new.self.1) (sym same) (subst (λ (n : ℕ). HasRoom (among t.doms.items) n) (sym room) c.args.self.now.room);
    }

pub returns-clause-same : goal.returns-clause-same
returns-clause-same g c = let t = c.args.self.now.trail in let u = c.back.new.self in
    same_family (among t.doms.items) (among u.doms.items) (began (among t.doms.items) (take t.top t.log.items)) (began (among u.doms.items) (take u.top u.log.items))
    (take t.top t.log.items) (take u.top u.log.items) (left_began (among t.doms.items) (take t.top t.log.items) t.gone)
    (left_began (among u.doms.items) (take u.top u.log.items) u.gone) (c.back.ensures.first ∙ c.check_in-verdict.ensures.first)
    (c.back.ensures.removed ∙ sym c.args.self.now.whole)
