-- Texts that are at their end, and want of memory.
use Rattle.std.proofs.Common.{◌≡◌, ◌≢◌, ℕ, Bool, true, false, ◌==◌, eqb-true, List, [], ◌∷◌, length, sym, ap, ◌∙◌, subst}
use Rattle.std.specs.Prelude.{Result, Ok, Err}
use Rattle.std.specs.Result.{IsErr, IsErrAnd}
use Rattle.std.proofs.lemmas.Bool.{false≢true}
use Rattle.std.proofs.lemmas.List.{nil_from_length}
use Rattle.rf_refute.specs.declared.nodes.Tree.{Tree}
use Rattle.rf_proof.specs.Readings.{Reads}
use Rattle.rf_proof.specs.declared.errors.TextErr.{TextErr}
use Rattle.rf_proof.specs.declared.errors.TextErr.TheVariants.{BadText, Memory}

pub is_nil : (xs : List ℕ) (test : Bool) → test ≡ (length xs == 0) → test ≡ true → xs ≡ []
is_nil xs test value is = nil_from_length xs (eqb-true (length xs) 0 (sym value ∙ is))

pub is_no_nil : (xs : List ℕ) (test : Bool) → test ≡ (length xs == 0) → test ≡ false → xs ≡ [] → ⊥
is_no_nil xs test value isnt nil = false≢true (sym isnt ∙ value ∙ ap (λ ys. length ys == 0) nil)

pub reads_memory : (text : List ℕ) (result : Result Tree TextErr) → IsErr result × IsErrAnd result (λ e. e ≡ Memory) → Reads text result
reads_memory text (Ok tree) h = absurd h.1
reads_memory text (Err e) h = subst (λ (other : TextErr). Reads text (Err other)) (sym h.1) tt
