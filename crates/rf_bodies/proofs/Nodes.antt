-- The formulas of bodies, node by node.
use Rattle.std.proofs.Common.{◌≡◌, ℕ, Bool, List, map, slice_get, sym, ap, ◌∙◌}
use Rattle.rf_form.specs.Formulas.{Formula, Neg, AllOf, AnyOf, Formulas}
use Rattle.rf_inst.specs.Bindings.{Bound}
use Rattle.rf_inst.specs.Directs.{Derived, World, atom, boolean, both, constant_form, direct, form_step, quant_step, is_one, predicate, slot_value, value_of}
use Rattle.rf_join.specs.Joins.{number_at}
use Rattle.rf_rtree.specs.declared.forms.Comp.{Comp}
use Rattle.rf_rtree.specs.declared.forms.Quant.{Quant}
use Rattle.rf_rtree.specs.declared.forms.RForm.{RForm}
use Rattle.rf_rtree.specs.declared.forms.RForm.TheOpen.{RForm-F}
use Rattle.rf_rtree.specs.declared.forms.RForm.TheFolds.{fold-RForm, fold-roll-RForm, fold-roll-Quant}
use Rattle.rf_rtree.specs.declared.forms.RForm.TheVariants as f
use Rattle.rf_rtree.specs.declared.forms.RTerm.{RTerm}
use Rattle.rf_rtree.specs.declared.words.Ask.{Ask}
use Rattle.rf_bodies.specs.declared.bodies.Body.{Body}
use Rattle.rf_bodies.specs.declared.bodies.Body.TheOpen.{Body-F}
use Rattle.rf_bodies.specs.declared.bodies.Body.TheFolds.{fold-Body, fold-roll-Body, fold-roll-Many}
use Rattle.rf_bodies.specs.declared.bodies.Body.TheVariants as b
use Rattle.rf_bodies.specs.declared.bodies.Many.{Many}
use Rattle.rf_bodies.specs.declared.bodies.Operand.{Operand}
use Rattle.rf_bodies.specs.Bodies.{at_numbers, body_step, many_step, value_at}

abbrev OverNames : Type 0
OverNames = List Bound → Formula

abbrev OverNumbers : Type 0
OverNumbers = List ℕ → Formula

-- the formula of each node over names
pub direct_implies : (world : World) (x : RForm) (y : RForm) (scope : List Bound) → direct world (f.Implies x y) scope ≡ AnyOf (both (Neg (direct world x scope)) (direct world y scope))
unfolding direct
direct_implies world x y scope = ap (λ (g : OverNames). g scope)
    (ap (fold-RForm OverNames (List Bound → Formulas) (form_step world) (quant_step world)) (sym (f.rolls-Implies x y))
    ∙ fold-roll-RForm OverNames (List Bound → Formulas) (form_step world) (quant_step world) (RForm-F.Implies x y))

pub direct_or : (world : World) (x : RForm) (y : RForm) (scope : List Bound) → direct world (f.Or x y) scope ≡ AnyOf (both (direct world x scope) (direct world y scope))
unfolding direct
direct_or world x y scope = ap (λ (g : OverNames). g scope)
    (ap (fold-RForm OverNames (List Bound → Formulas) (form_step world) (quant_step world)) (sym (f.rolls-Or x y))
    ∙ fold-roll-RForm OverNames (List Bound → Formulas) (form_step world) (quant_step world) (RForm-F.Or x y))

pub direct_and : (world : World) (x : RForm) (y : RForm) (scope : List Bound) → direct world (f.And x y) scope ≡ AllOf (both (direct world x scope) (direct world y scope))
unfolding direct
direct_and world x y scope = ap (λ (g : OverNames). g scope)
    (ap (fold-RForm OverNames (List Bound → Formulas) (form_step world) (quant_step world)) (sym (f.rolls-And x y))
    ∙ fold-roll-RForm OverNames (List Bound → Formulas) (form_step world) (quant_step world) (RForm-F.And x y))

pub direct_not : (world : World) (x : RForm) (scope : List Bound) → direct world (f.Not x) scope ≡ Neg (direct world x scope)
unfolding direct
direct_not world x scope = ap (λ (g : OverNames). g scope)
    (ap (fold-RForm OverNames (List Bound → Formulas) (form_step world) (quant_step world)) (sym (f.rolls-Not x))
    ∙ fold-roll-RForm OverNames (List Bound → Formulas) (form_step world) (quant_step world) (RForm-F.Not x))

pub direct_every : (world : World) (q : Quant) (scope : List Bound) → direct world (f.Every q) scope ≡ AllOf (quant_step world (record { vars = q.vars; asks = q.asks; body = direct world q.body }) scope)
unfolding direct
direct_every world q scope = ap (λ (g : OverNames). g scope)
    (ap (fold-RForm OverNames (List Bound → Formulas) (form_step world) (quant_step world)) (sym (f.rolls-Every q))
    ∙ fold-roll-RForm OverNames (List Bound → Formulas) (form_step world) (quant_step world) (RForm-F.Every q)
    ) ∙ ap (λ (many : List Bound → Formulas). AllOf (many scope))
    (fold-roll-Quant OverNames (List Bound → Formulas) (form_step world) (quant_step world) (record { vars = q.vars; asks = q.asks; body = q.body }))

pub direct_exists : (world : World) (q : Quant) (scope : List Bound) → direct world (f.Exists q) scope ≡ AnyOf (quant_step world (record { vars = q.vars; asks = q.asks; body = direct world q.body }) scope)
unfolding direct
direct_exists world q scope = ap (λ (g : OverNames). g scope)
    (ap (fold-RForm OverNames (List Bound → Formulas) (form_step world) (quant_step world)) (sym (f.rolls-Exists q))
    ∙ fold-roll-RForm OverNames (List Bound → Formulas) (form_step world) (quant_step world) (RForm-F.Exists q)
    ) ∙ ap (λ (many : List Bound → Formulas). AnyOf (many scope))
    (fold-roll-Quant OverNames (List Bound → Formulas) (form_step world) (quant_step world) (record { vars = q.vars; asks = q.asks; body = q.body }))

pub direct_truth : (world : World) (value : Bool) (scope : List Bound) → direct world (f.Truth value) scope ≡ constant_form value
unfolding direct
direct_truth world value scope = ap (λ (g : OverNames). g scope)
    (ap (fold-RForm OverNames (List Bound → Formulas) (form_step world) (quant_step world)) (sym (f.rolls-Truth value))
    ∙ fold-roll-RForm OverNames (List Bound → Formulas) (form_step world) (quant_step world) (RForm-F.Truth value))

pub direct_pred : (world : World) (ask : Ask) (scope : List Bound) → direct world (f.Pred ask) scope ≡ predicate world scope ask
unfolding direct
direct_pred world ask scope = ap (λ (g : OverNames). g scope)
    (ap (fold-RForm OverNames (List Bound → Formulas) (form_step world) (quant_step world)) (sym (f.rolls-Pred ask))
    ∙ fold-roll-RForm OverNames (List Bound → Formulas) (form_step world) (quant_step world) (RForm-F.Pred ask))

pub direct_cmp : (world : World) (left : RTerm) (how : Comp) (right : RTerm) (scope : List Bound) → direct world (f.Cmp left how right) scope ≡ atom (value_of world scope left) how (value_of world scope right)
unfolding direct
direct_cmp world left how right scope = ap (λ (g : OverNames). g scope)
    (ap (fold-RForm OverNames (List Bound → Formulas) (form_step world) (quant_step world)) (sym (f.rolls-Cmp left how right))
    ∙ fold-roll-RForm OverNames (List Bound → Formulas) (form_step world) (quant_step world) (RForm-F.Cmp left how right))

-- and over numbers
pub at_implies : (world : World) (x : Body) (y : Body) (taken : List ℕ) → at_numbers world (b.Implies x y) taken ≡ AnyOf (both (Neg (at_numbers world x taken)) (at_numbers world y taken))
unfolding at_numbers
at_implies world x y taken = ap (λ (g : OverNumbers). g taken)
    (ap (fold-Body OverNumbers (List ℕ → Formulas) (body_step world) (many_step world)) (sym (b.rolls-Implies x y))
    ∙ fold-roll-Body OverNumbers (List ℕ → Formulas) (body_step world) (many_step world) (Body-F.Implies x y))

pub at_or : (world : World) (x : Body) (y : Body) (taken : List ℕ) → at_numbers world (b.Or x y) taken ≡ AnyOf (both (at_numbers world x taken) (at_numbers world y taken))
unfolding at_numbers
at_or world x y taken = ap (λ (g : OverNumbers). g taken)
    (ap (fold-Body OverNumbers (List ℕ → Formulas) (body_step world) (many_step world)) (sym (b.rolls-Or x y))
    ∙ fold-roll-Body OverNumbers (List ℕ → Formulas) (body_step world) (many_step world) (Body-F.Or x y))

pub at_and : (world : World) (x : Body) (y : Body) (taken : List ℕ) → at_numbers world (b.And x y) taken ≡ AllOf (both (at_numbers world x taken) (at_numbers world y taken))
unfolding at_numbers
at_and world x y taken = ap (λ (g : OverNumbers). g taken)
    (ap (fold-Body OverNumbers (List ℕ → Formulas) (body_step world) (many_step world)) (sym (b.rolls-And x y))
    ∙ fold-roll-Body OverNumbers (List ℕ → Formulas) (body_step world) (many_step world) (Body-F.And x y))

pub at_not : (world : World) (x : Body) (taken : List ℕ) → at_numbers world (b.Not x) taken ≡ Neg (at_numbers world x taken)
unfolding at_numbers
at_not world x taken = ap (λ (g : OverNumbers). g taken)
    (ap (fold-Body OverNumbers (List ℕ → Formulas) (body_step world) (many_step world)) (sym (b.rolls-Not x))
    ∙ fold-roll-Body OverNumbers (List ℕ → Formulas) (body_step world) (many_step world) (Body-F.Not x))

pub at_every : (world : World) (m : Many) (taken : List ℕ) → at_numbers world (b.Every m) taken ≡ AllOf (many_step world (record { ranges = m.ranges; asks = m.asks; body = at_numbers world m.body }) taken)
unfolding at_numbers
at_every world m taken = ap (λ (g : OverNumbers). g taken)
    (ap (fold-Body OverNumbers (List ℕ → Formulas) (body_step world) (many_step world)) (sym (b.rolls-Every m))
    ∙ fold-roll-Body OverNumbers (List ℕ → Formulas) (body_step world) (many_step world) (Body-F.Every m)
    ) ∙ ap (λ (many : List ℕ → Formulas). AllOf (many taken))
    (fold-roll-Many OverNumbers (List ℕ → Formulas) (body_step world) (many_step world) (record { ranges = m.ranges; asks = m.asks; body = m.body }))

pub at_exists : (world : World) (m : Many) (taken : List ℕ) → at_numbers world (b.Exists m) taken ≡ AnyOf (many_step world (record { ranges = m.ranges; asks = m.asks; body = at_numbers world m.body }) taken)
unfolding at_numbers
at_exists world m taken = ap (λ (g : OverNumbers). g taken)
    (ap (fold-Body OverNumbers (List ℕ → Formulas) (body_step world) (many_step world)) (sym (b.rolls-Exists m))
    ∙ fold-roll-Body OverNumbers (List ℕ → Formulas) (body_step world) (many_step world) (Body-F.Exists m)
    ) ∙ ap (λ (many : List ℕ → Formulas). AnyOf (many taken))
    (fold-roll-Many OverNumbers (List ℕ → Formulas) (body_step world) (many_step world) (record { ranges = m.ranges; asks = m.asks; body = m.body }))

pub at_truth : (world : World) (value : Bool) (taken : List ℕ) → at_numbers world (b.Truth value) taken ≡ constant_form value
unfolding at_numbers
at_truth world value taken = ap (λ (g : OverNumbers). g taken)
    (ap (fold-Body OverNumbers (List ℕ → Formulas) (body_step world) (many_step world)) (sym (b.rolls-Truth value))
    ∙ fold-roll-Body OverNumbers (List ℕ → Formulas) (body_step world) (many_step world) (Body-F.Truth value))

pub at_slot : (world : World) (places : List ℕ) (taken : List ℕ) → at_numbers world (b.Slot places) taken ≡ is_one (slot_value world (map (number_at taken) places))
unfolding at_numbers
at_slot world places taken = ap (λ (g : OverNumbers). g taken)
    (ap (fold-Body OverNumbers (List ℕ → Formulas) (body_step world) (many_step world)) (sym (b.rolls-Slot places))
    ∙ fold-roll-Body OverNumbers (List ℕ → Formulas) (body_step world) (many_step world) (Body-F.Slot places))

pub at_derived : (world : World) (which : ℕ) (places : List ℕ) (taken : List ℕ) → at_numbers world (b.Derived which places) taken ≡ is_one (boolean (slice_get world.derived which) (map (number_at taken) places))
unfolding at_numbers
at_derived world which places taken = ap (λ (g : OverNumbers). g taken)
    (ap (fold-Body OverNumbers (List ℕ → Formulas) (body_step world) (many_step world)) (sym (b.rolls-Derived which places))
    ∙ fold-roll-Body OverNumbers (List ℕ → Formulas) (body_step world) (many_step world) (Body-F.Derived which places))

pub at_compare : (world : World) (left : Operand) (how : Comp) (right : Operand) (taken : List ℕ) → at_numbers world (b.Compare left how right) taken ≡ atom (value_at world taken left) how (value_at world taken right)
unfolding at_numbers
at_compare world left how right taken = ap (λ (g : OverNumbers). g taken)
    (ap (fold-Body OverNumbers (List ℕ → Formulas) (body_step world) (many_step world)) (sym (b.rolls-Compare left how right))
    ∙ fold-roll-Body OverNumbers (List ℕ → Formulas) (body_step world) (many_step world) (Body-F.Compare left how right))
