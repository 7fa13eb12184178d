-- The longest fronts of digits, and those behind a byte.
use Rattle.std.proofs.Common.{◌≡◌, ◌≢◌, ℕ, zero, suc, ◌+◌, ◌⊎◌, inl, inr, Bool, true, false, ◌==◌, cond, List, [], ◌∷◌, ◌++◌, length, take, refl, ap, sym, subst, arith}
use Rattle.std.specs.List.{AllPass}
use Rattle.std.proofs.lemmas.Bool.{or_left, or_right, or_from, both_ways, cases_eq}
use Rattle.std.proofs.Math.Seq.{take-add}
use Rattle.std.proofs.lemmas.List.Elements.{All-nil, All-cons, All-head, All-tail}
use Rattle.rf_jtree.specs.Digits.{or_underscore, BeginsWith, EndsWith, IsDigits}
use Rattle.rf_jtree.specs.Numbers.{Maybe}
use Rattle.rf_jlex.specs.DigitRuns.{one_more, run_length, digits_length}
use Rattle.rf_jlex.proofs.LongestLemmas.{Compared, same, shorter, IsLongestIn, HasNone, one_more-zero, one_more-some, longest_none, none_longest, some_longest, begins_none, nil_none}

-- digits and underscores that end in a digit
pub record IsRun (p : ℕ → Bool) (text : List ℕ) : Type 0 where
  pub all : AllPass (or_underscore p) text
  pub ends : EndsWith p text

-- the last byte of a text, from its front
ends_parts : (p : ℕ → Bool) (byte : ℕ) (bytes front : List ℕ) (last : ℕ) → byte ∷ bytes ≡ front ++ last ∷ [] → p last ≡ true → ((bytes ≡ []) × (p byte ≡ true)) ⊎ EndsWith p bytes
ends_parts p byte bytes [] last parts passes =
    let is : last ≡ byte = cc in
    inl (cc, subst (λ byte. p byte ≡ true) is passes)
ends_parts p byte bytes (first ∷ front) last parts passes = inr (record { front = front; last = last; parts = cc; passes = passes })

pub ends_tail : (p : ℕ → Bool) (byte : ℕ) (bytes : List ℕ) → EndsWith p (byte ∷ bytes) → ((bytes ≡ []) × (p byte ≡ true)) ⊎ EndsWith p bytes
ends_tail p byte bytes ends = ends_parts p byte bytes ends.front ends.last ends.parts ends.passes

ends_nil : (p : ℕ → Bool) (front : List ℕ) (last : ℕ) → [] ≡ front ++ last ∷ [] → ⊥
ends_nil p [] last parts = cc
ends_nil p (byte ∷ front) last parts = cc

pub ends_full : (p : ℕ → Bool) → EndsWith p [] → ⊥
ends_full p ends = ends_nil p ends.front ends.last ends.parts

pub ends_cons : (p : ℕ → Bool) (byte : ℕ) (bytes : List ℕ) → EndsWith p bytes → EndsWith p (byte ∷ bytes)
ends_cons p byte bytes ends = record { front = byte ∷ ends.front; last = ends.last; parts = ap (λ bytes. byte ∷ bytes) ends.parts; passes = ends.passes }

pub ends_alone : (p : ℕ → Bool) (byte : ℕ) → p byte ≡ true → EndsWith p (byte ∷ [])
ends_alone p byte passes = record { front = []; last = byte; parts = refl; passes = passes }

pub run_full : (p : ℕ → Bool) → IsRun p [] → ⊥
run_full p run = ends_full p run.ends

run_cons : (p : ℕ → Bool) (byte : ℕ) (bytes : List ℕ) → or_underscore p byte ≡ true → IsRun p bytes → IsRun p (byte ∷ bytes)
run_cons p byte bytes passes run = record { all = All-cons (λ byte. or_underscore p byte ≡ true) byte bytes passes run.all; ends = ends_cons p byte bytes run.ends }

run_alone : (p : ℕ → Bool) (byte : ℕ) → p byte ≡ true → IsRun p (byte ∷ [])
run_alone p byte passes = record {
  all = All-cons (λ byte. or_underscore p byte ≡ true) byte [] (or_left (p byte) (byte == 95) passes) (All-nil (λ byte. or_underscore p byte ≡ true));
  ends = ends_alone p byte passes;
}

run_tail : (p : ℕ → Bool) (byte : ℕ) (bytes : List ℕ) → IsRun p (byte ∷ bytes) → ((bytes ≡ []) × (p byte ≡ true)) ⊎ IsRun p bytes
run_tail p byte bytes run =
    elim (ends_tail p byte bytes run.ends) [
      | inl alone ↦ inl alone
      | inr ends ↦ inr (record { all = All-tail (λ byte. or_underscore p byte ≡ true) byte bytes run.all; ends = ends })
    ]

-- a longer front, by one byte before it and before what it is compared with
pub compared_more : (K : Type 0) (more : ℕ → Bool) (kind other : K) (n m : ℕ) (rest : List ℕ) → Compared K more kind other n m rest → Compared K more kind other (1 + n) (suc m) rest
compared_more K more kind other n m rest compared =
    elim compared [
      | same length_is kind_is ↦ same (omega arith) kind_is
      | shorter less begins ↦ shorter (omega arith) begins
    ]

-- a byte that goes on before the longest run, where the run may begin with it
run_compares : (p : ℕ → Bool) (byte : ℕ) (bytes : List ℕ) (n : ℕ) → or_underscore p byte ≡ true → IsLongestIn (IsRun p) (or_underscore p) bytes n
    → (p byte ≡ true) ⊎ (n ≢ 0)
    → (front rest : List ℕ) → byte ∷ bytes ≡ front ++ rest → Maybe (IsRun p) front → Compared (Unit {0}) (or_underscore p) tt tt (1 + n) (length front) rest
run_compares p byte bytes n passes longest some [] rest is has =
    shorter (omega arith) (subst (BeginsWith (or_underscore p)) is passes)
run_compares p byte bytes n passes longest some (first ∷ front) rest is has =
    let is_tail : bytes ≡ front ++ rest = cc in
    let is_first : first ≡ byte = cc in
    elim has [
      | inl empty ↦ absurd cc
      | inr run ↦ elim (run_tail p first front run) [
        | inl alone ↦ compared_more (Unit {0}) (or_underscore p) tt tt n (length front) rest (longest.compares tt front rest is_tail (inl alone.0))
        | inr tail ↦ compared_more (Unit {0}) (or_underscore p) tt tt n (length front) rest (longest.compares tt front rest is_tail (inr tail))
      ]
    ]

run_more : (p : ℕ → Bool) (byte : ℕ) (bytes : List ℕ) (n : ℕ) → or_underscore p byte ≡ true → IsLongestIn (IsRun p) (or_underscore p) bytes n
    → (p byte ≡ true) ⊎ (n ≢ 0) → IsLongestIn (IsRun p) (or_underscore p) (byte ∷ bytes) (1 + n)
run_more p byte bytes n passes longest some = record {
  within = omega (arith, longest.within);
  holds = rw (take-add 1 n (byte ∷ bytes)) (inr (elim some [
    | inl digit ↦ elim longest.holds [
      | inl empty ↦ subst (λ tail. IsRun p (byte ∷ tail)) (sym empty) (run_alone p byte digit)
      | inr run ↦ run_cons p byte (take n bytes) passes run
    ]
    | inr full ↦ run_cons p byte (take n bytes) passes ((some_longest (IsRun p) (or_underscore p) bytes n longest full).holds)
  ]));
  compares = λ other front rest is has. run_compares p byte bytes n passes longest some front rest is has;
}

-- no run begins where only one underscore or more stand
run_underscore_none : (p : ℕ → Bool) (byte : ℕ) (bytes : List ℕ) (n : ℕ) → p byte ≡ false → IsLongestIn (IsRun p) (or_underscore p) bytes n → n ≡ 0
    → (front rest : List ℕ) → byte ∷ bytes ≡ front ++ rest → IsRun p front → ⊥
run_underscore_none p byte bytes n fails longest none [] rest is run = run_full p run
run_underscore_none p byte bytes n fails longest none (first ∷ front) rest is run =
    let is_tail : bytes ≡ front ++ rest = cc in
    let is_first : first ≡ byte = cc in
    elim (run_tail p first front run) [
      | inl alone ↦ both_ways (p byte) fails (subst (λ byte. p byte ≡ true) is_first alone.1)
      | inr tail ↦ none_longest (IsRun p) (or_underscore p) bytes n (run_full p) longest none tt front rest is_tail tail
    ]

-- nor where another byte stands
pub run_other_none : (p : ℕ → Bool) (byte : ℕ) (bytes : List ℕ) → or_underscore p byte ≡ false
    → (front rest : List ℕ) → byte ∷ bytes ≡ front ++ rest → IsRun p front → ⊥
run_other_none p byte bytes fails [] rest is run = run_full p run
run_other_none p byte bytes fails (first ∷ front) rest is run =
    let is_first : first ≡ byte = cc in
    both_ways (or_underscore p byte) fails
    (subst (λ byte. or_underscore p byte ≡ true) is_first (All-head (λ byte. or_underscore p byte ≡ true) first front run.all))

run_underscore : (p : ℕ → Bool) (byte : ℕ) (bytes : List ℕ) (n : ℕ) → p byte ≡ false → (byte == 95) ≡ true → IsLongestIn (IsRun p) (or_underscore p) bytes n
    → IsLongestIn (IsRun p) (or_underscore p) (byte ∷ bytes) (one_more n)
run_underscore p byte bytes n fails is longest =
    let L : ℕ → Type 0 = IsLongestIn (IsRun p) (or_underscore p) (byte ∷ bytes) in
    elim (cases_eq n 0) [
      | inl none ↦ subst L (sym (one_more-zero n none))
          (longest_none (IsRun p) (or_underscore p) (byte ∷ bytes) (λ kind. run_underscore_none p byte bytes n fails longest none))
      | inr some ↦ subst L (sym (one_more-some n some))
          (run_more p byte bytes n (or_right (p byte) (byte == 95) is) longest (inr some))
    ]

run_step : (p : ℕ → Bool) (digit underscore : Bool) (byte : ℕ) (bytes : List ℕ) (n : ℕ) → p byte ≡ digit → (byte == 95) ≡ underscore
    → IsLongestIn (IsRun p) (or_underscore p) bytes n
    → IsLongestIn (IsRun p) (or_underscore p) (byte ∷ bytes) (cond digit (1 + n) (cond underscore (one_more n) 0))
run_step p true underscore byte bytes n digit_is underscore_is longest =
    run_more p byte bytes n (or_left (p byte) (byte == 95) digit_is) longest (inl digit_is)
run_step p false true byte bytes n digit_is underscore_is longest = run_underscore p byte bytes n digit_is underscore_is longest
run_step p false false byte bytes n digit_is underscore_is longest =
    longest_none (IsRun p) (or_underscore p) (byte ∷ bytes)
    (λ kind. run_other_none p byte bytes (or_from (p byte) (byte == 95) digit_is underscore_is))

-- a run that stands at the front, as long as it can be
pub run_longest : (p : ℕ → Bool) (text : List ℕ) → IsLongestIn (IsRun p) (or_underscore p) text (run_length p text)
unfolding run_length
run_longest p [] = longest_none (IsRun p) (or_underscore p) [] (nil_none (Unit {0}) (λ kind. IsRun p) (λ kind. run_full p))
run_longest p (byte ∷ bytes) = run_step p (p byte) (byte == 95) byte bytes (run_length p bytes) refl refl (run_longest p bytes)

run_begins : (p : ℕ → Bool) (bytes : List ℕ) (byte n : ℕ) → p byte ≡ true → IsRun p (take n (byte ∷ bytes)) → BeginsWith p (take n (byte ∷ bytes))
run_begins p bytes byte zero passes run = absurd (run_full p run)
run_begins p bytes byte (suc n) passes run = passes

pub digits_full : (p : ℕ → Bool) → IsDigits p [] → ⊥
digits_full p digits = digits.begins

-- no digits begin with another byte
pub digits_none : (p : ℕ → Bool) (byte : ℕ) (bytes : List ℕ) → p byte ≡ false → HasNone (Unit {0}) (λ kind. IsDigits p) (byte ∷ bytes)
digits_none p byte bytes fails = begins_none (Unit {0}) (λ kind. IsDigits p) p byte bytes fails (λ kind text digits. digits.begins)

digits_here : (p : ℕ → Bool) (byte : ℕ) (bytes : List ℕ) (n : ℕ) → p byte ≡ true → IsLongestIn (IsRun p) (or_underscore p) (byte ∷ bytes) n → IsLongestIn (IsDigits p) (or_underscore p) (byte ∷ bytes) n
digits_here p byte bytes n passes longest = record {
  within = longest.within;
  holds = elim longest.holds [
    | inl empty ↦ inl empty
    | inr run ↦ inr (record { begins = run_begins p bytes byte n passes run; all = run.all; ends = run.ends })
  ];
  compares = λ other front rest is has. elim has [
    | inl empty ↦ longest.compares tt front rest is (inl empty)
    | inr digits ↦ longest.compares tt front rest is (inr (record { all = digits.all; ends = digits.ends }))
  ];
}

digits_step : (p : ℕ → Bool) (digit : Bool) (byte : ℕ) (bytes : List ℕ) (n : ℕ) → p byte ≡ digit → IsLongestIn (IsRun p) (or_underscore p) (byte ∷ bytes) n → IsLongestIn (IsDigits p) (or_underscore p) (byte ∷ bytes) (cond digit n 0)
digits_step p true byte bytes n is longest = digits_here p byte bytes n is longest
digits_step p false byte bytes n is longest = longest_none (IsDigits p) (or_underscore p) (byte ∷ bytes) (digits_none p byte bytes is)

-- the longest front of digits
pub digits_longest : (p : ℕ → Bool) (text : List ℕ) → IsLongestIn (IsDigits p) (or_underscore p) text (digits_length p text)
unfolding digits_length
digits_longest p [] = longest_none (IsDigits p) (or_underscore p) [] (nil_none (Unit {0}) (λ kind. IsDigits p) (λ kind. digits_full p))
digits_longest p (byte ∷ bytes) = digits_step p (p byte) byte bytes (run_length p (byte ∷ bytes)) refl (run_longest p (byte ∷ bytes))
