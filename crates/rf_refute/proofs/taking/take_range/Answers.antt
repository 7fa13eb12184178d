use Rattle.std.proofs.Common.{◌≡◌, ℕ, not, ◌&&◌, eqb, leb, ltb, subst, arith}
use Rattle.rf_refute.proofs.taking.take_range.Goals as goal

pub returns-clause-family : goal.returns-clause-family
returns-clause-family g c = λ y w. let low = c.loop-v-test.false in let high = c.loop-v.auto.v-end c.requires.ordered in let e : c.loop-v.v ≡ c.args.end = omega arith in
    subst (λ (n : ℕ). g.S.Alive.family c.loop-v.store y w ≡ (g.S.Alive.family c.args.store.now y w && not (eqb c.args.x y && (leb c.args.from w && ltb w n)))) e
    (c.loop-v.invariant.left y w)
