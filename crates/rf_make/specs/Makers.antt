-- The worlds that a maker of formulas knows, and what its formulas tell of them.
use Rattle.std.specs.Prelude.{◌≡◌, ℕ, ◌≤◌, length, map}
use Rattle.rf_form.specs.declared.forms.Form.{Form}
use Rattle.rf_form.specs.Formulas.{Formula}
use Rattle.rf_form.specs.Shown.{form_of}
use Rattle.rf_inst.specs.Directs.{Derived, World}
use Rattle.rf_bodies.specs.Alike.{Alike}
use Rattle.rf_make.specs.declared.makers.Maker.{Maker}
use Rattle.rf_make.specs.Indexes.{IsIndex}

-- there is a list of tuples for each query, and for each derived predicate
pub record IsReady (maker : Maker) : Type 0 where
  pub queries : maker.queries ≤ length maker.facts.now
  pub derived : length maker.bases.now ≤ length maker.derived.now

-- the world has these facts, this table, and derived predicates with these first variables and these tuples
pub record Knows (maker : Maker) (world : World) : Type 0 where
  pub facts : world.scene.facts ≡ maker.facts.now
  pub index : IsIndex world.table maker.index.now
  pub bases : map (λ (one : Derived). one.base) world.derived ≡ maker.bases.now
  pub tuples : map (λ (one : Derived). one.tuples) world.derived ≡ maker.derived.now

-- in each such world the form says what the formula of this world says, under all values and all domains
abbrev pub Tells : Maker → Form → (World → Formula) → Type 0
Tells maker form gives = (world : World) → Knows maker world → Alike (form_of form) (gives world)
