-- The longest front of a text that a language has, and that of two languages joined end to end.
use Rattle.std.proofs.Common.{◌≡◌, ◌≢◌, ℕ, suc, ◌+◌, ◌<◌, ◌≤◌, ◌⊎◌, inl, inr, Bool, true, false, ◌||◌, ◌==◌, List, [], ◌∷◌, ◌++◌, length, take, drop, refl, ap, sym, ◌∙◌, subst, append_assoc, length-append, length-drop, ne_eqb, arith}
use Rattle.std.proofs.Math.Seq.{take-add}
use Rattle.std.proofs.lemmas.Bool.{or_left, or_right, or_cases, eqb-true, both_ways, cases_eq}
use Rattle.std.proofs.lemmas.List.{drop_at, nil_from_length, length-take-le}
use Rattle.rf_jtree.specs.Digits.{BeginsWith}
use Rattle.rf_jtree.specs.Numbers.{Maybe}
use Rattle.rf_jlex.specs.DigitRuns.{one_more}

-- a byte passes one test or the other
abbrev pub either : (ℕ → Bool) → (ℕ → Bool) → ℕ → Bool
either p q byte = p byte || q byte

-- no byte passes both
abbrev pub Apart : (ℕ → Bool) → (ℕ → Bool) → Type 0
Apart p q = (byte : ℕ) → p byte ≡ true → q byte ≡ true → ⊥

-- what passes the one passes the other
abbrev pub Within : (ℕ → Bool) → (ℕ → Bool) → Type 0
Within p q = (byte : ℕ) → p byte ≡ true → q byte ≡ true

-- a front of m bytes beside the longest, of n: it is that one, or it is shorter and the text goes on with such a byte
pub data Compared (K : Type 0) (more : ℕ → Bool) (kind other : K) (n m : ℕ) (rest : List ℕ) : Type 0 where
  same : m ≡ n → other ≡ kind → Compared K more kind other n m rest
  shorter : m < n → BeginsWith more rest → Compared K more kind other n m rest

-- the longest front that a language has, in any of its kinds
pub record IsLongestOf (K : Type 0) (P : K → List ℕ → Type 0) (more : ℕ → Bool) (text : List ℕ) (kind : K) (n : ℕ) : Type 0 where
  pub within : n ≤ length text
  pub holds : P kind (take n text)
  pub compares : (other : K) (front rest : List ℕ) → text ≡ front ++ rest → P other front → Compared K more kind other n (length front) rest

-- and of a language that has the empty text
abbrev pub IsLongestIn : (List ℕ → Type 0) → (ℕ → Bool) → List ℕ → ℕ → Type 0
IsLongestIn P more text n = IsLongestOf (Unit {0}) (λ kind. Maybe P) more text tt n

-- the language has no front of the text
abbrev pub HasNone : (K : Type 0) → (K → List ℕ → Type 0) → List ℕ → Type 0
HasNone K P text = (kind : K) (front rest : List ℕ) → text ≡ front ++ rest → P kind front → ⊥

-- a text of the one language, then a text of the other
pub record Joined (P Q : List ℕ → Type 0) (text : List ℕ) : Type 0 where
  pub front : List ℕ
  pub back : List ℕ
  pub parts : text ≡ front ++ back
  pub first : P front
  pub second : Q back

-- a byte that passes the test, then a text of the language
pub record Behind (test : ℕ → Bool) (P : List ℕ → Type 0) (text : List ℕ) : Type 0 where
  pub byte : ℕ
  pub back : List ℕ
  pub parts : text ≡ byte ∷ back
  pub passes : test byte ≡ true
  pub second : P back

pub one_more-zero : (n : ℕ) → n ≡ 0 → one_more n ≡ 0
unfolding one_more
one_more-zero n is = rw is

pub one_more-some : (n : ℕ) → n ≢ 0 → one_more n ≡ 1 + n
unfolding one_more
one_more-some n some = rw (ne_eqb n 0 some) (omega arith)

-- one of two bytes is tried by trying both
pub of_two : (a b byte : ℕ) → ((byte == a) || (byte == b)) ≡ true → (P : ℕ → Type 0) → P a → P b → P byte
of_two a b byte is P at_a at_b =
    elim (or_cases (byte == a) (byte == b) is) [
      | inl is_a ↦ subst P (sym (eqb-true byte a is_a)) at_a
      | inr is_b ↦ subst P (sym (eqb-true byte b is_b)) at_b
    ]

pub begins_within : (p q : ℕ → Bool) (text : List ℕ) → Within p q → BeginsWith p text → BeginsWith q text
begins_within p q [] within begins = begins
begins_within p q (byte ∷ bytes) within begins = within byte begins

pub begins_append : (p : ℕ → Bool) (front back : List ℕ) → BeginsWith p front → BeginsWith p (front ++ back)
begins_append p [] back begins = absurd begins
begins_append p (byte ∷ front) back begins = begins

begins_apart : (p q : ℕ → Bool) (front back : List ℕ) → Apart p q → BeginsWith p (front ++ back) → BeginsWith q front → ⊥
begins_apart p q [] back apart begins also = also
begins_apart p q (byte ∷ front) back apart begins also = apart byte begins also

-- the test may be passed by more bytes
pub longest_within : (K : Type 0) (P : K → List ℕ → Type 0) (more further : ℕ → Bool) (text : List ℕ) (kind : K) (n : ℕ) → Within more further → IsLongestOf K P more text kind n → IsLongestOf K P further text kind n
longest_within K P more further text kind n within longest = record {
  within = longest.within;
  holds = longest.holds;
  compares = λ other front rest is has. elim (longest.compares other front rest is has) [
    | same length_is kind_is ↦ same length_is kind_is
    | shorter less begins ↦ shorter less (begins_within more further rest within begins)
  ];
}

-- what follows a front, in a text that has been cut behind it
pub cut_behind : (text front rest : List ℕ) (n : ℕ) → text ≡ front ++ rest → length front ≡ n → drop n text ≡ rest
cut_behind text front rest n is length_is = ap (drop n) is ∙ drop_at front rest n length_is

-- a front of two texts, beside the longest of both
joined_compares : (K : Type 0) (P : List ℕ → Type 0) (Q : K → List ℕ → Type 0) (first more further : ℕ → Bool) (text : List ℕ) (n : ℕ) (kind : K) (m : ℕ)
    → IsLongestOf (Unit {0}) (λ kind. P) more text tt n → IsLongestOf K Q further (drop n text) kind m
    → ((kind : K) (back : List ℕ) → Q kind back → Maybe (BeginsWith first) back) → Apart more first
    → (other : K) (front back rest : List ℕ) → text ≡ front ++ (back ++ rest) → P front → Q other back
    → Compared K (either more further) kind other (n + m) (length (front ++ back)) rest
joined_compares K P Q first more further text n kind m one two begins apart other front back rest is has also =
    let lengths : length (front ++ back) ≡ length front + length back = length-append front back in
    elim (one.compares tt front (back ++ rest) is has) [
      | same length_is kind_is ↦
          elim (two.compares other back rest (cut_behind text front (back ++ rest) n is length_is) also) [
            | same back_is other_is ↦ same (omega arith) other_is
            | shorter less more_follows ↦
                shorter (omega arith) (begins_within further (either more further) rest (λ byte. or_right (more byte) (further byte)) more_follows)
          ]
      | shorter less more_follows ↦
          elim (begins other back also) [
            | inl empty ↦
                let none : length back ≡ 0 = ap length empty in
                let follows : BeginsWith more rest = subst (λ back. BeginsWith more (back ++ rest)) empty more_follows in
                shorter (omega arith) (begins_within more (either more further) rest (λ byte. or_left (more byte) (further byte)) follows)
            | inr starts ↦ absurd (begins_apart more first back rest apart more_follows starts)
          ]
    ]

-- the longest front of a language, then the longest of another that can't begin where the first may go on
pub longest_joined : (K : Type 0) (P : List ℕ → Type 0) (Q : K → List ℕ → Type 0) (first more further : ℕ → Bool) (text : List ℕ) (n : ℕ) (kind : K) (m : ℕ)
    → IsLongestOf (Unit {0}) (λ kind. P) more text tt n → IsLongestOf K Q further (drop n text) kind m
    → ((kind : K) (back : List ℕ) → Q kind back → Maybe (BeginsWith first) back) → Apart more first
    → IsLongestOf K (λ kind. Joined P (Q kind)) (either more further) text kind (n + m)
longest_joined K P Q first more further text n kind m one two begins apart = record {
  within = omega (arith, one.within, two.within, length-drop n text);
  holds = record { front = take n text; back = take m (drop n text); parts = take-add n m text; first = one.holds; second = two.holds };
  compares = λ other front rest is joined.
      subst (λ front. Compared K (either more further) kind other (n + m) (length front) rest) (sym joined.parts)
      (joined_compares K P Q first more further text n kind m one two begins apart other joined.front joined.back rest
      (is ∙ ap (λ front. front ++ rest) joined.parts ∙ append_assoc joined.front joined.back rest) joined.first joined.second);
}

-- and there is none of both where there is none of the second
pub joined_none : (K : Type 0) (P : List ℕ → Type 0) (Q : K → List ℕ → Type 0) (first more : ℕ → Bool) (text : List ℕ) (n : ℕ)
    → IsLongestOf (Unit {0}) (λ kind. P) more text tt n → HasNone K Q (drop n text)
    → ((kind : K) (back : List ℕ) → Q kind back → BeginsWith first back) → Apart more first
    → HasNone K (λ kind. Joined P (Q kind)) text
joined_none K P Q first more text n one none begins apart kind front rest is joined =
    let parts : text ≡ joined.front ++ (joined.back ++ rest) =
    is ∙ ap (λ front. front ++ rest) joined.parts ∙ append_assoc joined.front joined.back rest in
    elim (one.compares tt joined.front (joined.back ++ rest) parts joined.first) [
      | same length_is kind_is ↦ none kind joined.back rest (cut_behind text joined.front (joined.back ++ rest) n parts length_is) joined.second
      | shorter less more_follows ↦ begins_apart more first joined.back rest apart more_follows (begins kind joined.back joined.second)
    ]

-- a language that has no front has the empty one beside itself
pub longest_none : (P : List ℕ → Type 0) (more : ℕ → Bool) (text : List ℕ) → HasNone (Unit {0}) (λ kind. P) text → IsLongestIn P more text 0
longest_none P more text none = record {
  within = omega arith;
  holds = inl refl;
  compares = λ other front rest is has. elim has [
    | inl empty ↦ same (ap length empty) refl
    | inr full ↦ absurd (none tt front rest is full)
  ];
}

-- beside the longest, if it has one
pub none_longest : (P : List ℕ → Type 0) (more : ℕ → Bool) (text : List ℕ) (n : ℕ) → (P [] → ⊥) → IsLongestIn P more text n → n ≡ 0 → HasNone (Unit {0}) (λ kind. P) text
none_longest P more text n full longest is_zero kind front rest is has =
    elim (longest.compares tt front rest is (inr has)) [
      | same length_is kind_is ↦ full (subst P (nil_from_length front (length_is ∙ is_zero)) has)
      | shorter less begins ↦ absurd (omega arith)
    ]

pub some_longest : (P : List ℕ → Type 0) (more : ℕ → Bool) (text : List ℕ) (n : ℕ) → IsLongestIn P more text n → n ≢ 0 → IsLongestOf (Unit {0}) (λ kind. P) more text tt n
some_longest P more text n longest some = record {
  within = longest.within;
  holds = elim longest.holds [
    | inl empty ↦ absurd (some (sym (length-take-le n text longest.within) ∙ ap length empty))
    | inr full ↦ full
  ];
  compares = λ other front rest is has. longest.compares tt front rest is (inr has);
}

-- of two languages, where one has none
pub longest_or : (P Q : List ℕ → Type 0) (more : ℕ → Bool) (text : List ℕ) (n : ℕ) → IsLongestIn P more text n → HasNone (Unit {0}) (λ kind. Q) text → IsLongestIn (λ text. P text ⊎ Q text) more text n
longest_or P Q more text n longest none = record {
  within = longest.within;
  holds = elim longest.holds [ inl empty ↦ inl empty | inr full ↦ inr (inl full) ];
  compares = λ other front rest is has. elim has [
    | inl empty ↦ longest.compares tt front rest is (inl empty)
    | inr full ↦ elim full [
      | inl first ↦ longest.compares tt front rest is (inr first)
      | inr second ↦ absurd (none tt front rest is second)
    ]
  ];
}

pub longest_or_right : (P Q : List ℕ → Type 0) (more : ℕ → Bool) (text : List ℕ) (n : ℕ) → IsLongestIn Q more text n → HasNone (Unit {0}) (λ kind. P) text → IsLongestIn (λ text. P text ⊎ Q text) more text n
longest_or_right P Q more text n longest none = record {
  within = longest.within;
  holds = elim longest.holds [ inl empty ↦ inl empty | inr full ↦ inr (inr full) ];
  compares = λ other front rest is has. elim has [
    | inl empty ↦ longest.compares tt front rest is (inl empty)
    | inr full ↦ elim full [
      | inl first ↦ absurd (none tt front rest is first)
      | inr second ↦ longest.compares tt front rest is (inr second)
    ]
  ];
}

-- of two languages in kinds, where one has none
pub longest_either : (K : Type 0) (P Q : K → List ℕ → Type 0) (more : ℕ → Bool) (text : List ℕ) (kind : K) (n : ℕ) → IsLongestOf K P more text kind n → HasNone K Q text → IsLongestOf K (λ kind text. P kind text ⊎ Q kind text) more text kind n
longest_either K P Q more text kind n longest none = record {
  within = longest.within;
  holds = inl longest.holds;
  compares = λ other front rest is has. elim has [
    | inl first ↦ longest.compares other front rest is first
    | inr second ↦ absurd (none other front rest is second)
  ];
}

pub longest_either_right : (K : Type 0) (P Q : K → List ℕ → Type 0) (more : ℕ → Bool) (text : List ℕ) (kind : K) (n : ℕ) → IsLongestOf K Q more text kind n → HasNone K P text → IsLongestOf K (λ kind text. P kind text ⊎ Q kind text) more text kind n
longest_either_right K P Q more text kind n longest none = record {
  within = longest.within;
  holds = inr longest.holds;
  compares = λ other front rest is has. elim has [
    | inl first ↦ absurd (none other front rest is first)
    | inr second ↦ longest.compares other front rest is second
  ];
}

pub none_either : (K : Type 0) (P Q : K → List ℕ → Type 0) (text : List ℕ) → HasNone K P text → HasNone K Q text → HasNone K (λ kind text. P kind text ⊎ Q kind text) text
none_either K P Q text first second kind front rest is has =
    elim has [ inl one ↦ first kind front rest is one | inr other ↦ second kind front rest is other ]

-- a language said in another way
pub longest_like : (K : Type 0) (P Q : K → List ℕ → Type 0) (more : ℕ → Bool) (text : List ℕ) (kind : K) (n : ℕ)
    → ((kind : K) (text : List ℕ) → P kind text → Q kind text) → ((kind : K) (text : List ℕ) → Q kind text → P kind text)
    → IsLongestOf K P more text kind n → IsLongestOf K Q more text kind n
longest_like K P Q more text kind n to from longest = record {
  within = longest.within;
  holds = to kind (take n text) longest.holds;
  compares = λ other front rest is has. longest.compares other front rest is (from other front has);
}

pub maybe_like : (P Q : List ℕ → Type 0) → ((text : List ℕ) → P text → Q text) → (text : List ℕ) → Maybe P text → Maybe Q text
maybe_like P Q to text has = elim has [ inl empty ↦ inl empty | inr full ↦ inr (to text full) ]

pub longest_in_like : (P Q : List ℕ → Type 0) (more : ℕ → Bool) (text : List ℕ) (n : ℕ)
    → ((text : List ℕ) → P text → Q text) → ((text : List ℕ) → Q text → P text) → IsLongestIn P more text n → IsLongestIn Q more text n
longest_in_like P Q more text n to from longest =
    longest_like (Unit {0}) (λ kind. Maybe P) (λ kind. Maybe Q) more text tt n (λ kind. maybe_like P Q to) (λ kind. maybe_like Q P from) longest

-- the empty front beside a longest one
pub longest_maybe : (P : List ℕ → Type 0) (more : ℕ → Bool) (text : List ℕ) (n : ℕ) → 0 < n → BeginsWith more text → IsLongestOf (Unit {0}) (λ kind. P) more text tt n → IsLongestIn P more text n
longest_maybe P more text n some begins longest = record {
  within = longest.within;
  holds = inr longest.holds;
  compares = λ other front rest is has. elim has [
    | inl empty ↦
        let follows : text ≡ rest = is ∙ ap (λ front. front ++ rest) empty in
        shorter (omega (arith, ap length empty)) (subst (BeginsWith more) follows begins)
    | inr full ↦ longest.compares tt front rest is full
  ];
}

-- nothing begins an empty text
pub nil_none : (K : Type 0) (P : K → List ℕ → Type 0) → ((kind : K) → P kind [] → ⊥) → HasNone K P []
nil_none K P full kind [] rest is has = full kind has
nil_none K P full kind (byte ∷ front) rest is has = cc

-- the front of what is joined has none
pub front_none : (K : Type 0) (P : List ℕ → Type 0) (Q : K → List ℕ → Type 0) (text : List ℕ) → HasNone (Unit {0}) (λ kind. P) text → HasNone K (λ kind. Joined P (Q kind)) text
front_none K P Q text none kind front rest is joined =
    none tt joined.front (joined.back ++ rest) (is ∙ ap (λ front. front ++ rest) joined.parts ∙ append_assoc joined.front joined.back rest) joined.first

-- a text that begins with no such byte
pub begins_none : (K : Type 0) (P : K → List ℕ → Type 0) (first : ℕ → Bool) (byte : ℕ) (bytes : List ℕ) → first byte ≡ false
    → ((kind : K) (text : List ℕ) → P kind text → BeginsWith first text) → HasNone K P (byte ∷ bytes)
begins_none K P first byte bytes fails begins kind front rest is has =
    both_ways (first byte) fails (subst (BeginsWith first) (sym is) (begins_append first front rest (begins kind front has)))

-- one byte before the longest front
behind_compares : (K : Type 0) (P : K → List ℕ → Type 0) (more test : ℕ → Bool) (byte : ℕ) (bytes : List ℕ) (kind : K) (n : ℕ) → IsLongestOf K P more bytes kind n
    → (other : K) (front rest : List ℕ) → byte ∷ bytes ≡ front ++ rest → (first : ℕ) (back : List ℕ) → front ≡ first ∷ back → P other back → Compared K more kind other (1 + n) (length front) rest
behind_compares K P more test byte bytes kind n longest other front rest is first back parts has =
    let whole : byte ∷ bytes ≡ first ∷ (back ++ rest) = is ∙ ap (λ front. front ++ rest) parts in
    let tail : bytes ≡ back ++ rest = cc in
    let lengths : length front ≡ suc (length back) = ap length parts in
    elim (longest.compares other back rest tail has) [
      | same length_is kind_is ↦ same (omega arith) kind_is
      | shorter less begins ↦ shorter (omega arith) begins
    ]

pub longest_behind : (K : Type 0) (P : K → List ℕ → Type 0) (more test : ℕ → Bool) (byte : ℕ) (bytes : List ℕ) (kind : K) (n : ℕ) → test byte ≡ true → IsLongestOf K P more bytes kind n
    → IsLongestOf K (λ kind. Behind test (P kind)) more (byte ∷ bytes) kind (1 + n)
longest_behind K P more test byte bytes kind n passes longest = record {
  within = omega (arith, longest.within);
  holds = record { byte = byte; back = take n bytes; parts = take-add 1 n (byte ∷ bytes); passes = passes; second = longest.holds };
  compares = λ other front rest is behind. behind_compares K P more test byte bytes kind n longest other front rest is behind.byte behind.back behind.parts behind.second;
}

-- and none before where there is none
pub behind_none : (K : Type 0) (P : K → List ℕ → Type 0) (test : ℕ → Bool) (byte : ℕ) (bytes : List ℕ) → HasNone K P bytes → HasNone K (λ kind. Behind test (P kind)) (byte ∷ bytes)
behind_none K P test byte bytes none kind front rest is behind =
    let whole : byte ∷ bytes ≡ behind.byte ∷ (behind.back ++ rest) = is ∙ ap (λ front. front ++ rest) behind.parts in
    let tail : bytes ≡ behind.back ++ rest = cc in
    none kind behind.back rest tail behind.second

pub behind_begins : (test : ℕ → Bool) (P : List ℕ → Type 0) (text : List ℕ) → Behind test P text → BeginsWith test text
behind_begins test P text behind = subst (BeginsWith test) (sym behind.parts) behind.passes

pub behind_full : (test : ℕ → Bool) (P : List ℕ → Type 0) → Behind test P [] → ⊥
behind_full test P behind = let parts : [] ≡ behind.byte ∷ behind.back = behind.parts in cc

-- a byte and what it begins, or neither
pub longest_in_behind : (P : List ℕ → Type 0) (more test : ℕ → Bool) (byte : ℕ) (bytes : List ℕ) (n : ℕ) → test byte ≡ true → (P [] → ⊥) → IsLongestIn P more bytes n
    → IsLongestIn (Behind test P) (either test more) (byte ∷ bytes) (one_more n)
longest_in_behind P more test byte bytes n passes full longest =
    let L : ℕ → Type 0 = IsLongestIn (Behind test P) (either test more) (byte ∷ bytes) in
    elim (cases_eq n 0) [
      | inl none ↦ subst L (sym (one_more-zero n none))
          (longest_none (Behind test P) (either test more) (byte ∷ bytes)
          (behind_none (Unit {0}) (λ kind. P) test byte bytes (none_longest P more bytes n full longest none)))
      | inr some ↦ subst L (sym (one_more-some n some))
          (longest_maybe (Behind test P) (either test more) (byte ∷ bytes) (1 + n) (omega arith) (or_left (test byte) (more byte) passes)
          (longest_within (Unit {0}) (λ kind. Behind test P) more (either test more) (byte ∷ bytes) tt (1 + n) (λ byte. or_right (test byte) (more byte))
          (longest_behind (Unit {0}) (λ kind. P) more test byte bytes tt n passes (some_longest P more bytes n longest some))))
    ]
