-- The steps of readers: what is known of one that answered, and what one answers.
use Rattle.std.proofs.Common.{◌≡◌, ℕ, List, [], ◌∷◌, Option, Some, None, Bool, true, false, ◌&&◌, if◌then◌else◌, IsTrue, ◌==◌, refl, ap, subst, eqb-true, eq-eqb}
use Rattle.rf_jtree.specs.declared.operators.Op.{Op}
use Rattle.rf_jtree.specs.declared.tokens.Tok.{Tok}
use Rattle.rf_jtree.specs.declared.tokens.TokKind.{TokKind}
use Rattle.rf_jtree.specs.declared.tokens.TokKind.TheVariants as kind
use Rattle.rf_jtree.specs.declared.words.Kw.{Kw}
use Rattle.rf_jtree.specs.Kinds.{IsOp, IsKey, IsIdent}
use Rattle.rf_jexpr.specs.Reads.{Reads, and_then, ◌>>=◌, or_else, when, is_op, is_key, is_ident, begins, token, optional}

-- ---- a reader that answered

-- two steps: the first answered `x`, and the second took that on
pub data Bound {A B : Type 0} (first : Option A) (next : A → Option B) (y : B) : Type 0 where
  bound : (x : A) → first ≡ Some x → next x ≡ Some y → Bound first next y

pub of_bind : {A B : Type 0} (first : Option A) (next : A → Option B) (y : B) → (first >>= next) ≡ Some y → Bound first next y
unfolding and_then
of_bind None next y h = cc
of_bind (Some x) next y h = bound x refl h

-- one of two: the first one answered, or it did not and the other one did
pub data Chosen {A : Type 0} (first other : Option A) (y : A) : Type 0 where
  by_first : first ≡ Some y → Chosen first other y
  by_other : first ≡ None → other ≡ Some y → Chosen first other y

pub of_else : {A : Type 0} (first other : Option A) (y : A) → or_else first other ≡ Some y → Chosen first other y
unfolding or_else
of_else None other y h = by_other refl h
of_else (Some x) other y h = by_first h

-- behind a test
pub data Passed {A : Type 0} (test : Bool) (result : Option A) (y : A) : Type 0 where
  passed : IsTrue test → result ≡ Some y → Passed test result y

pub of_when : {A : Type 0} (test : Bool) (result : Option A) (y : A) → when test result ≡ Some y → Passed test result y
unfolding when
of_when true result y h = passed refl h
of_when false result y h = cc

-- one of two by a test
pub data Branch {A : Type 0} (test : Bool) (first other : A) (y : A) : Type 0 where
  where_true : IsTrue test → first ≡ y → Branch test first other y
  where_false : test ≡ false → other ≡ y → Branch test first other y

pub of_if : {A : Type 0} (test : Bool) (first other y : A) → (if test then first else other) ≡ y → Branch test first other y
of_if true first other y h = where_true refl h
of_if false first other y h = where_false refl h

pub either_way : {A P : Type 0} (test : Bool) (first other : Option A) (y : A) → (first ≡ Some y → P) → (other ≡ Some y → P) → (if test then first else other) ≡ Some y → P
either_way true first other y one another h = one h
either_way false first other y one another h = another h

-- a test holds or fails
pub data Whether (test : Bool) : Type 0 where
  holds : IsTrue test → Whether test
  fails : test ≡ false → Whether test

pub whether : (test : Bool) → Whether test
whether true = holds refl
whether false = fails refl

-- a result is there or not
pub data Perhaps {A : Type 0} (result : Option A) : Type 0 where
  missing : result ≡ None → Perhaps result
  there : (x : A) → result ≡ Some x → Perhaps result

pub perhaps : {A : Type 0} (result : Option A) → Perhaps result
perhaps None = missing refl
perhaps (Some x) = there x refl

-- both tests hold
pub both : (one other : Bool) → IsTrue (one && other) → IsTrue one × IsTrue other
both true true h = (refl, refl)
both true false h = cc
both false other h = cc

pub and_true : (one other : Bool) → IsTrue one → IsTrue other → IsTrue (one && other)
and_true true true h k = refl
and_true true false h k = cc
and_true false other h k = cc

-- a token
pub record Took (test : Tok → Bool) (toks : List Tok) (tok : Tok) (rest : List Tok) : Type 0 where
  pub takes : toks ≡ tok ∷ rest
  pub is : IsTrue (test tok)

pub token_takes : (test : Tok → Bool) (toks : List Tok) (y : Tok × List Tok) → token test toks ≡ Some y → Took test toks y.0 y.1
unfolding token
token_takes test [] y h = cc
token_takes test (tok ∷ toks) y h = elim (of_when (test tok) (Some (tok, toks)) y h) [
  | passed is same ↦
      let here : tok ≡ y.0 = cc in
      let behind : toks ≡ y.1 = cc in
      record { takes = ap₂ here behind; is = subst (λ (t : Tok). IsTrue (test t)) here is }
]
  where
    ap₂ : {a b : Tok} {as_ bs : List Tok} → a ≡ b → as_ ≡ bs → (a ∷ as_) ≡ (b ∷ bs)
    ap₂ p q = cc

-- ---- what a reader answers

pub bind-Some : {A B : Type 0} (first : Option A) (next : A → Option B) (x : A) (y : Option B) → first ≡ Some x → next x ≡ y → (first >>= next) ≡ y
unfolding and_then
bind-Some None next x y h k = cc
bind-Some (Some z) next x y h k = let e : z ≡ x = cc in rw e k

pub bind-None : {A B : Type 0} (first : Option A) (next : A → Option B) → first ≡ None → (first >>= next) ≡ None
unfolding and_then
bind-None None next h = refl
bind-None (Some x) next h = cc

pub else-Some : {A : Type 0} (first other : Option A) (x : A) → first ≡ Some x → or_else first other ≡ Some x
unfolding or_else
else-Some None other x h = cc
else-Some (Some y) other x h = h

pub else-None : {A : Type 0} (first other : Option A) → first ≡ None → or_else first other ≡ other
unfolding or_else
else-None None other h = refl
else-None (Some y) other h = cc

pub when-true : {A : Type 0} (test : Bool) (result : Option A) → IsTrue test → when test result ≡ result
unfolding when
when-true true result h = refl
when-true false result h = cc

pub when-false : {A : Type 0} (test : Bool) (result : Option A) → test ≡ false → when test result ≡ None
unfolding when
when-false true result h = cc
when-false false result h = refl

pub if-true : {A : Type 0} (test : Bool) (first other : A) → IsTrue test → (if test then first else other) ≡ first
if-true true first other h = refl
if-true false first other h = cc

pub if-false : {A : Type 0} (test : Bool) (first other : A) → test ≡ false → (if test then first else other) ≡ other
if-false true first other h = cc
if-false false first other h = refl

pub token-at : (test : Tok → Bool) (tok : Tok) (toks : List Tok) → IsTrue (test tok) → token test (tok ∷ toks) ≡ Some (tok, toks)
unfolding token
token-at test tok toks h = when-true (test tok) (Some (tok, toks)) h

pub token-other : (test : Tok → Bool) (toks : List Tok) → begins test toks ≡ false → token test toks ≡ None
unfolding token begins
token-other test [] h = refl
token-other test (tok ∷ toks) h = when-false (test tok) (Some (tok, toks)) h

-- where a token is read, the tokens begin so
pub begins-token : (test : Tok → Bool) (toks : List Tok) (y : Tok × List Tok) → token test toks ≡ Some y → IsTrue (begins test toks)
unfolding begins token
begins-token test [] y h = cc
begins-token test (tok ∷ toks) y h = elim (of_when (test tok) (Some (tok, toks)) y h) [ passed is same ↦ is ]

-- ---- tests of tokens

same_op : (one other : Op) → one.0 ≡ other.0 → one ≡ other
same_op one other h = ap (λ (n : ℕ). let op : Op = record { 0 = n } in op) h

same_key : (one other : Kw) → one.0 ≡ other.0 → one ≡ other
same_key one other h = ap (λ (n : ℕ). let word : Kw = record { 0 = n } in word) h

op_of_kind : (op : Op) (tok : Tok) (k : TokKind) → tok.kind ≡ k → IsTrue (is_op op tok) → IsOp op tok
unfolding is_op
op_of_kind op tok (kind.Op found) e h =
    let same : IsTrue (found.0 == op.0) = rw e at h in
    rw (e, same_op found op (eqb-true found.0 op.0 same)) refl
op_of_kind op tok other e h = absurd (cc (rw e at h))

pub is_op-IsOp : (op : Op) (tok : Tok) → IsTrue (is_op op tok) → IsOp op tok
is_op-IsOp op tok h = op_of_kind op tok tok.kind refl h

pub IsOp-is_op : (op : Op) (tok : Tok) → IsOp op tok → IsTrue (is_op op tok)
unfolding is_op
IsOp-is_op op tok h = rw h (eq-eqb op.0 op.0 refl)

key_of_kind : (word : Kw) (tok : Tok) (k : TokKind) → tok.kind ≡ k → IsTrue (is_key word tok) → IsKey word tok
unfolding is_key
key_of_kind word tok (kind.Key found) e h =
    let same : IsTrue (found.0 == word.0) = rw e at h in
    rw (e, same_key found word (eqb-true found.0 word.0 same)) refl
key_of_kind word tok other e h = absurd (cc (rw e at h))

pub is_key-IsKey : (word : Kw) (tok : Tok) → IsTrue (is_key word tok) → IsKey word tok
is_key-IsKey word tok h = key_of_kind word tok tok.kind refl h

pub IsKey-is_key : (word : Kw) (tok : Tok) → IsKey word tok → IsTrue (is_key word tok)
unfolding is_key
IsKey-is_key word tok h = rw h (eq-eqb word.0 word.0 refl)

ident_of_kind : (tok : Tok) (k : TokKind) → tok.kind ≡ k → IsTrue (is_ident tok) → IsIdent tok
unfolding is_ident
ident_of_kind tok kind.Ident e h = e
ident_of_kind tok other e h = absurd (cc (rw e at h))

pub is_ident-IsIdent : (tok : Tok) → IsTrue (is_ident tok) → IsIdent tok
is_ident-IsIdent tok h = ident_of_kind tok tok.kind refl h

pub IsIdent-is_ident : (tok : Tok) → IsIdent tok → IsTrue (is_ident tok)
unfolding is_ident
IsIdent-is_ident tok h = rw h refl

-- ---- parts that may be left out

-- such a part was read, or it does not stand there
pub data Left {A : Type 0} (result : Option (A × List Tok)) (toks : List Tok) (found : Option A) (rest : List Tok) : Type 0 where
  read : (x : A) → found ≡ Some x → result ≡ Some (x, rest) → Left result toks found rest
  left_out : found ≡ None → rest ≡ toks → result ≡ None → Left result toks found rest

left_of : {A : Type 0} (result : Option (A × List Tok)) (toks : List Tok) (y : Option A × List Tok) → or_else (result >>= λ x. Some (Some x.0, x.1)) (Some (None, toks)) ≡ Some y → Left result toks y.0 y.1
unfolding and_then or_else
left_of None toks y h = left_out (cc) (cc) refl
left_of (Some x) toks y h =
    let behind : x.1 ≡ y.1 = cc in
    read x.0 (cc) (ap (λ rest. Some (x.0, rest)) behind)

pub of_optional : {A : Type 0} (item : Reads A) (toks : List Tok) (y : Option A × List Tok) → optional item toks ≡ Some y → Left (item toks) toks y.0 y.1
unfolding optional
of_optional item toks y h = left_of (item toks) toks y h

pub optional-Some : {A : Type 0} (item : Reads A) (toks : List Tok) (x : A) (rest : List Tok) → item toks ≡ Some (x, rest) → optional item toks ≡ Some (Some x, rest)
unfolding optional and_then or_else
optional-Some item toks x rest h = rw h refl

pub optional-None : {A : Type 0} (item : Reads A) (toks : List Tok) → item toks ≡ None → optional item toks ≡ Some (None, toks)
unfolding optional and_then or_else
optional-None item toks h = rw h refl

-- what holds of the value that a reader answered
pub by_some : {A : Type 0} (P : A → Type 0) (x y : A) → Some x ≡ Some y → P x → P y
by_some P x y same h = let e : x ≡ y = cc in subst P e h
