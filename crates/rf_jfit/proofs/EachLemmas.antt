-- A test of each item of a list holds exactly where a condition on each does.
use Rattle.std.proofs.Common.{◌≡◌, List, [], ◌∷◌, Bool, true, false, not, ◌&&◌, IsTrue, ◌↔◌, refl, sym, ◌∙◌}
use Rattle.std.specs.List.{list_all}
use Rattle.rf_jtree.specs.NameFits.{EachFits}

both_true : (one other : Bool) → IsTrue (one && other) → IsTrue one × IsTrue other
both_true true true h = (refl, refl)
both_true true false h = absurd (cc)
both_true false other h = absurd (cc)

true_both : (one other : Bool) → IsTrue one → IsTrue other → IsTrue (one && other)
true_both true true h k = refl
true_both true false h k = absurd (cc)
true_both false other h k = absurd (cc)

pub list_all-each : {A : Type 0} (test : A → Bool) (Fits : A → Type 0) → ((x : A) → IsTrue (test x) → Fits x) → (xs : List A) → IsTrue (list_all test xs) → EachFits Fits xs
list_all-each test Fits means [] h = tt
list_all-each test Fits means (x ∷ xs) h = let parts = both_true (test x) (list_all test xs) h in (means x parts.0, list_all-each test Fits means xs parts.1)

pub each-list_all : {A : Type 0} (test : A → Bool) (Fits : A → Type 0) → ((x : A) → Fits x → IsTrue (test x)) → (xs : List A) → EachFits Fits xs → IsTrue (list_all test xs)
each-list_all test Fits means [] h = refl
each-list_all test Fits means (x ∷ xs) h = true_both (test x) (list_all test xs) (means x h.0) (each-list_all test Fits means xs h.1)

pub not-false : (test : Bool) → IsTrue (not test) → test ≡ false
not-false true h = cc
not-false false h = refl

pub false-not : (test : Bool) → test ≡ false → IsTrue (not test)
false-not true h = cc
false-not false h = refl

-- none of them passes the test
pub none-exact : {A : Type 0} (test : A → Bool) (xs : List A) (found : Bool) → found ≡ list_all (λ x. not (test x)) xs → IsTrue found ↔ EachFits (λ x. test x ≡ false) xs
none-exact test xs found e =
    (λ is. list_all-each (λ x. not (test x)) (λ x. test x ≡ false) (λ x. not-false (test x)) xs (sym e ∙ is), λ fit. e ∙ each-list_all (λ x. not (test x)) (λ x. test x ≡ false) (λ x. false-not (test x)) xs fit)
