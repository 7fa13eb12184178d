-- What the code looks at: tokens at a place, those that pass one of two tests, lists that show as others, and what is left.
use Rattle.std.proofs.Common.{◌≡◌, ℕ, zero, suc, ◌+◌, ◌≤◌, ◌<◌, List, [], ◌∷◌, ◌++◌, Some, None, Bool, true, false, map, length, drop, refl, sym, subst, add-one, arith}
use Rattle.std.specs.List.{slice_get, list_all, list_any}
use Rattle.std.proofs.lemmas.List.{map-append}
use Rattle.rf_jtree.specs.declared.tokens.Tok.{Tok}
use Rattle.rf_jtree.specs.declared.keyword_names.TheConstants.{CLASS, INTERFACE, THIS, SUPER}
use Rattle.rf_jtree.specs.DeclTrees.{UnitTree}
use Rattle.rf_jexpr.specs.Reads.{Reads, is_key, begins, token, when}
use Rattle.rf_jexpr.proofs.TurnLemmas.{IsAtTurn, first-turn, next-turn}
use Rattle.rf_jmods.specs.ModReads.{goes_on_with}
use Rattle.rf_jdecl.specs.MemberReads.{calls_ctor}
use Rattle.rf_jdecl.specs.UnitReads.{begins_type, all_read}

-- ---- places

dropped-Some : (toks : List Tok) (at : ℕ) (tok : Tok) → Some tok ≡ slice_get toks at → drop at toks ≡ tok ∷ drop (suc at) toks
dropped-Some [] zero tok h = cc
dropped-Some [] (suc at) tok h = cc
dropped-Some (first ∷ toks) zero tok h = cc
dropped-Some (first ∷ toks) (suc at) tok h = dropped-Some toks at tok h

dropped-None : (toks : List Tok) (at : ℕ) → None ≡ slice_get toks at → drop at toks ≡ []
dropped-None [] zero h = refl
dropped-None [] (suc at) h = refl
dropped-None (first ∷ toks) zero h = cc
dropped-None (first ∷ toks) (suc at) h = dropped-None toks at h

pub goes_on-Some : (test : Tok → Bool) (toks : List Tok) (at : ℕ) (tok : Tok) → Some tok ≡ slice_get toks at → begins test (drop (at + 1) toks) ≡ goes_on_with test (drop at toks)
unfolding goes_on_with
goes_on-Some test toks at tok h = rw (dropped-Some toks at tok h, add-one) refl

pub goes_on-None : (test : Tok → Bool) (toks : List Tok) (at : ℕ) → None ≡ slice_get toks at → false ≡ goes_on_with test (drop at toks)
unfolding goes_on_with
goes_on-None test toks at h = rw (dropped-None toks at h) refl

-- ---- one of two words

pub ctor-this : (toks : List Tok) → begins (is_key THIS) toks ≡ true → token calls_ctor toks ≡ token (is_key THIS) toks
unfolding begins token when calls_ctor
ctor-this [] h = refl
ctor-this (tok ∷ toks) h = rw h refl

pub ctor-super : (toks : List Tok) → begins (is_key THIS) toks ≡ false → token calls_ctor toks ≡ token (is_key SUPER) toks
unfolding begins token when calls_ctor
ctor-super [] h = refl
ctor-super (tok ∷ toks) h = rw h refl

pub type-as-class : (toks : List Tok) → begins (is_key CLASS) toks ≡ true → token begins_type toks ≡ token (is_key CLASS) toks
unfolding begins token when begins_type
type-as-class [] h = refl
type-as-class (tok ∷ toks) h = rw h refl

pub type-as-interface : (toks : List Tok) → begins (is_key CLASS) toks ≡ false → token begins_type toks ≡ token (is_key INTERFACE) toks
unfolding begins token when begins_type
type-as-interface [] h = refl
type-as-interface (tok ∷ toks) h = rw h refl

-- ---- loops over parts that show as others

pub first-shown : {A B : Type 0} (shown : A → B) (item : Reads B) (toks : List Tok) (at : ℕ) (done : List A) → done ≡ [] → at ≤ length toks → IsAtTurn item toks at (map shown done) at
first-shown {A} {B} shown item toks at done none h =
    let start : IsAtTurn item toks at (map shown []) at = first-turn item toks at h in
    subst (λ (xs : List A). IsAtTurn item toks at (map shown xs) at) (sym none) start

pub next-shown : {A B : Type 0} (shown : A → B) (item : Reads B) (toks : List Tok) (at : ℕ) (done : List A) (end : ℕ) (x : A) (next : ℕ) (more : List A)
    → IsAtTurn item toks at (map shown done) end → item (drop end toks) ≡ Some (shown x, drop next toks) → end < next → next ≤ length toks → more ≡ done ++ x ∷ [] → IsAtTurn item toks at (map shown more) next
next-shown {A} {B} shown item toks at done end x next more turn found forth within more_is =
    let step : IsAtTurn item toks at (map shown done ++ shown x ∷ []) next = next-turn item toks at (map shown done) end (shown x) next turn found forth within in
    let list : map shown done ++ shown x ∷ [] ≡ map shown (done ++ x ∷ []) = sym (map-append shown done (x ∷ [])) in
    rw more_is (subst (λ (xs : List B). IsAtTurn item toks at xs next) list step)

-- ---- tests of each of them

pub all-shown : {A B : Type 0} (shown : A → B) (test : B → Bool) (xs : List A) → list_all (λ x. test (shown x)) xs ≡ list_all test (map shown xs)
all-shown shown test [] = refl
all-shown shown test (x ∷ xs) = rw (all-shown shown test xs) refl

pub any-shown : {A B : Type 0} (shown : A → B) (test : B → Bool) (xs : List A) → list_any (λ x. test (shown x)) xs ≡ list_any test (map shown xs)
any-shown shown test [] = refl
any-shown shown test (x ∷ xs) = rw (any-shown shown test xs) refl

-- ---- what is left

drop-long : (toks : List Tok) (end : ℕ) → length toks ≤ end → drop end toks ≡ []
drop-long [] zero h = refl
drop-long [] (suc end) h = refl
drop-long (tok ∷ toks) zero h = absurd (omega arith)
drop-long (tok ∷ toks) (suc end) h = drop-long toks end (omega arith)

pub none-left : (unit : UnitTree) (toks : List Tok) (end : ℕ) → length toks ≤ end → all_read unit (drop end toks) ≡ Some unit
unfolding all_read
none-left unit toks end h = rw (drop-long toks end h) refl

pub some-left : (unit : UnitTree) (toks : List Tok) (end : ℕ) → end < length toks → all_read unit (drop end toks) ≡ None
unfolding all_read
some-left unit [] end h = absurd (omega arith)
some-left unit (tok ∷ toks) zero h = refl
some-left unit (tok ∷ toks) (suc end) h = some-left unit toks end (omega arith)

pub ruleset shown_turns = (first-shown, next-shown)

pub ruleset goings = (goes_on-Some, goes_on-None)

pub ruleset words = (ctor-this, ctor-super, type-as-class, type-as-interface)

pub ruleset lefts = (none-left, some-left)

pub ruleset each_shown = (all-shown, any-shown)
