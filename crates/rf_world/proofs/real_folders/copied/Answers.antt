use Rattle.std.proofs.Common.{◌≡◌, List, ℕ, map, sym, subst, arith}
use Rattle.std.proofs.lemmas.Grind.{common_steps}
use Rattle.rf_world.specs.World.{AreDistinct}
use Rattle.rf_world.proofs.Distinct.{distinct_bytes}
use Rattle.rf_world.proofs.real_folders.copied.Goals as goal

-- the copies are the bytes of the set's keys, which are distinct
pub returns : goal.returns
returns c =
    let whole : c.loop-path.copies ≡ map (λ path. path.items) c.args.paths.now.keys = grind (arith, common_steps) in
    let P : List (List ℕ) → Type 0 = AreDistinct in
    subst P (sym whole) (distinct_bytes c.args.paths.now.keys c.as_slice-path-items.ensures.unique)
