-- Where what was gathered is decided, nothing that comes behind changes it.
use Rattle.std.proofs.Common.{◌≡◌, Bool, true, not, List, [], ◌∷◌, ◌++◌, map, refl, sym, ap, subst, append_assoc}
use Rattle.std.proofs.lemmas.Bool.{cond-true}
use Rattle.std.proofs.lemmas.List.{append-nil}
use Rattle.rf_form.specs.Formulas.{Formula}
use Rattle.rf_form.specs.Shown.{form_of, listed}
use Rattle.rf_inst.specs.Directs.{constant_form}
use Rattle.rf_bodies.specs.Alike.{Alike}
use Rattle.rf_bodies.specs.declared.gathered.Gathered.{Gathered}
use Rattle.rf_bodies.specs.Gathered.{so_far, whole}
use Rattle.rf_bodies.proofs.Joining.{alike}
use Rattle.rf_bodies.proofs.Gathering.{stepped, still_decided}

decided_stays : (k : Bool) (gs more : List Formula) → Alike (constant_form (not k)) (whole k (listed gs)) → Alike (constant_form (not k)) (whole k (listed (gs ++ more)))
decided_stays k gs [] is = subst (λ (fs : List Formula). Alike (constant_form (not k)) (whole k (listed fs))) (sym (append-nil gs)) is
decided_stays k gs (g ∷ more) is = subst (λ (fs : List Formula). Alike (constant_form (not k)) (whole k (listed fs))) (append_assoc gs (g ∷ []) more)
    (decided_stays k (gs ++ g ∷ []) more (stepped k (constant_form (not k)) (constant_form (not k)) g g gs (still_decided k g) is (alike g g refl)))

pub leaves : (gathered : Gathered) (gs more : List Formula) → gathered.decided ≡ true → Alike (so_far gathered) (whole gathered.all (listed gs))
    → Alike (so_far gathered) (whole gathered.all (listed (gs ++ more)))
leaves gathered gs more is so = let e = cond-true gathered.decided (constant_form (not gathered.all)) (whole gathered.all (listed (map form_of gathered.forms))) is in
    subst (λ (f : Formula). Alike f (whole gathered.all (listed (gs ++ more)))) (sym e)
    (decided_stays gathered.all gs more (subst (λ (f : Formula). Alike f (whole gathered.all (listed gs))) e so))
