use Rattle.std.proofs.Common.{◌≡◌, ◌⊎◌, ℕ, true, drop}
use Rattle.rf_form.specs.Alive.{is_among}
use Rattle.rf_form.specs.Mentions.{some_mentions}
use Rattle.rf_form.specs.Shown.{forms_of}
use Rattle.rf_prop.specs.Wiring.{Keeps}
use Rattle.rf_prop.proofs.wiring.+mention.Given as goal

abbrev pub invariant-mention_each-loop-f : goal.invariant-mention_each-loop-f
invariant-mention_each-loop-f l = record {
  keeps : Keeps l.initial.found l.found;
  has : (x : ℕ) → some_mentions (forms_of l.fs) x ≡ true
      → (is_among x l.found ≡ true) ⊎ (some_mentions (forms_of (drop l.f-index l.fs)) x ≡ true);
}
