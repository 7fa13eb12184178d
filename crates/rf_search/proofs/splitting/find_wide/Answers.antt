use Rattle.std.proofs.Common.{◌≡◌, ◌<◌, ℕ, List, length, ap, sym, subst, arith}
use Rattle.rf_form.specs.Families.{IsWide}
use Rattle.rf_search.proofs.splitting.find_wide.Goals as goal

pub returns-then-is_wide : goal.returns-then-is_wide
returns-then-is_wide g c = let s = g.C.Constraints.system c.args.all.now in let count = ap (length {A = List ℕ}) c.vals-vals.ensures in
    let end = c.len-x-end.ensures in let test = c.loop-x-test.true in let same : c.loop-x.x ≡ c.in-Ok.x = omega (arith, c.in-Ok.ensures) in record {
      inside = omega arith;
      wide = c.if-is_wide.ensures;
      before = λ y lt. c.loop-x.invariant y (omega arith);
    }

pub returns : goal.returns
returns g c = λ y lt. let count = ap (length {A = List ℕ}) c.vals-vals.ensures in let end = c.len-x-end.ensures in let test = c.loop-x-test.false in
    c.loop-x.invariant y (omega arith)
