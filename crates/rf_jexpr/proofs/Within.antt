-- How much readers leave: no more than they were given.
use Rattle.std.proofs.Common.{◌≡◌, ℕ, zero, suc, ◌≤◌, List, ◌++◌, Option, Some, None, Bool, true, false, if◌then◌else◌, length, refl, ap, ◌∙◌, subst, arith}
use Rattle.rf_jtree.specs.declared.operators.Op.{Op}
use Rattle.rf_jtree.specs.declared.tokens.Tok.{Tok}
use Rattle.rf_jexpr.specs.Reads.{Reads, ◌>>=◌, or_else, when, is_op, token, optional, repeat, many, behind, separated, chain}
use Rattle.rf_jexpr.proofs.Tools.{bound, of_bind, by_first, by_other, of_else, passed, of_when, missing, there, perhaps, token_takes, bind-Some, bind-None, else-Some, else-None, by_some}

-- If it answers, no more is left.
pub record Within {A : Type 0} (n : ℕ) (result : Option (A × List Tok)) : Type 0 where
  pub left : (y : A × List Tok) → result ≡ Some y → length y.1 ≤ n

-- It answers, and no more is left.
pub record Reaches {A : Type 0} (n : ℕ) (result : Option (A × List Tok)) : Type 0 where
  pub to : A × List Tok
  pub reads : result ≡ Some to
  pub left : length to.1 ≤ n

-- whatever a reader is given, it leaves no more
abbrev pub IsBounded : {A : Type 0} → Reads A → Type 0
IsBounded item = (n : ℕ) (toks : List Tok) → length toks ≤ n → Within n (item toks)

-- with such a part before the rest, whatever that is, it reads something and leaves no more than the rest
abbrev pub IsFar : {A : Type 0} → (A → Type 0) → (A → List Tok) → Reads A → Type 0
IsFar {A} Fits yield item = (x : A) (rest : List Tok) → Fits x → Reaches (length rest) (item (yield x ++ rest))

-- ---- steps

pub within-Some : {A : Type 0} (n : ℕ) (x : A × List Tok) → length x.1 ≤ n → Within n (Some x)
within-Some {A} n x h = record { left = λ y e. by_some (λ (z : A × List Tok). length z.1 ≤ n) x y e h }

pub within-None : {A : Type 0} (n : ℕ) (result : Option (A × List Tok)) → result ≡ None → Within n result
within-None n result h = record { left = λ y e. absurd (cc) }

pub within-bind : {A B : Type 0} (n : ℕ) (first : Option (A × List Tok)) (next : A × List Tok → Option (B × List Tok)) → Within n first → ((x : A × List Tok) → length x.1 ≤ n → Within n (next x)) → Within n (first >>= next)
within-bind n first next w further = record {
  left = λ y e. elim (of_bind first next y e) [ bound x found after ↦ (further x (w.left x found)).left y after ];
}

pub within-else : {A : Type 0} (n : ℕ) (first other : Option (A × List Tok)) → Within n first → Within n other → Within n (or_else first other)
within-else n first other w v = record {
  left = λ y e. elim (of_else first other y e) [ by_first f ↦ w.left y f | by_other f g ↦ v.left y g ];
}

pub within-when : {A : Type 0} (n : ℕ) (test : Bool) (result : Option (A × List Tok)) → Within n result → Within n (when test result)
within-when n test result w = record { left = λ y e. elim (of_when test result y e) [ passed is f ↦ w.left y f ] }

pub within-if : {A : Type 0} (n : ℕ) (test : Bool) (first other : Option (A × List Tok)) → Within n first → Within n other → Within n (if test then first else other)
within-if n true first other w v = w
within-if n false first other w v = v

pub within-token : (test : Tok → Bool) → IsBounded (token test)
within-token test n toks h = record {
  left = λ y e. let took = token_takes test toks y e in let same : length toks ≡ suc (length y.1) = ap length took.takes in omega arith;
}

pub within-optional : {A : Type 0} (item : Reads A) → IsBounded item → IsBounded (optional item)
unfolding optional
within-optional item w n toks h = within-else n _ _ (within-bind n _ _ (w n toks h) (λ x k. within-Some n _ k)) (within-Some n _ h)

pub within-repeat : {A : Type 0} (item : Reads A) → IsBounded item → (turns : ℕ) → IsBounded (repeat turns item)
unfolding repeat
within-repeat item w zero n toks h = within-Some n _ h
within-repeat item w (suc turns) n toks h =
    within-else n _ _ (within-bind n _ _ (w n toks h) (λ x k. within-bind n _ _ (within-repeat item w turns n x.1 k) (λ more l. within-Some n _ l))) (within-Some n _ h)

pub within-many : {A : Type 0} (item : Reads A) → IsBounded item → IsBounded (many item)
unfolding many
within-many item w n toks h = within-repeat item w (length toks) n toks h

pub within-behind : {A : Type 0} (test : Tok → Bool) (item : Reads A) → IsBounded item → IsBounded (behind test item)
unfolding behind
within-behind test item w n toks h = within-bind n _ _ (within-token test n toks h) (λ word k. within-bind n _ _ (w n word.1 k) (λ x l. within-Some n _ l))

pub within-separated : {A : Type 0} (between : Op) (item : Reads A) → IsBounded item → IsBounded (separated between item)
unfolding separated
within-separated between item w n toks h =
    within-bind n _ _ (w n toks h) (λ first k. within-bind n _ _ (within-many (behind (is_op between) item) (within-behind (is_op between) item w) n first.1 k) (λ rest l. within-Some n _ l))

-- ---- what answers

pub reaches-Some : {A : Type 0} (n : ℕ) (result : Option (A × List Tok)) (x : A × List Tok) → result ≡ Some x → length x.1 ≤ n → Reaches n result
reaches-Some n result x e h = record { to = x; reads = e; left = h }

pub reaches-bind : {A B : Type 0} (n : ℕ) (first : Option (A × List Tok)) (next : A × List Tok → Option (B × List Tok)) → Reaches n first → ((x : A × List Tok) → length x.1 ≤ n → Reaches n (next x)) → Reaches n (first >>= next)
reaches-bind n first next r further = let after = further r.to r.left in record { to = after.to; reads = bind-Some first next r.to (Some after.to) r.reads after.reads; left = after.left }

pub reaches-else : {A : Type 0} (n : ℕ) (first other : Option (A × List Tok)) → Within n first → Reaches n other → Reaches n (or_else first other)
reaches-else n first other w r = elim (perhaps first) [
  | missing none ↦ reaches-Some n _ r.to (else-None first other none ∙ r.reads) r.left
  | there x found ↦ reaches-Some n _ x (else-Some first other x found) (w.left x found)
]

pub reaches-optional : {A : Type 0} (item : Reads A) → IsBounded item → (n : ℕ) (toks : List Tok) → length toks ≤ n → Reaches n (optional item toks)
unfolding optional
reaches-optional item w n toks h = reaches-else n _ _ (within-bind n _ _ (w n toks h) (λ x k. within-Some n _ k)) (reaches-Some n _ _ refl h)

pub reaches-chain : {A : Type 0} (turn : A → Reads A) → ((x : A) → IsBounded (turn x)) → (turns n : ℕ) (x : A) (toks : List Tok) → length toks ≤ n → Reaches n (chain turn turns x toks)
unfolding chain
reaches-chain turn w zero n x toks h = reaches-Some n _ (x, toks) refl h
reaches-chain turn w (suc turns) n x toks h = elim (perhaps (turn x toks)) [
  | missing none ↦ reaches-Some n _ (x, toks) (else-None _ _ (bind-None (turn x toks) _ none)) h
  | there y found ↦
      let k : length y.1 ≤ n = (w x n toks h).left y found in
      let after = reaches-chain turn w turns n y.0 y.1 k in
      reaches-Some n _ after.to (else-Some _ _ _ (bind-Some (turn x toks) _ y _ found after.reads)) after.left
]

pub within-chain : {A : Type 0} (turn : A → Reads A) → ((x : A) → IsBounded (turn x)) → (turns : ℕ) (x : A) → IsBounded (chain turn turns x)
within-chain turn w turns x n toks h = let r = reaches-chain turn w turns n x toks h in record { left = λ y e. subst (λ z. length z.1 ≤ n) (let same : r.to ≡ y = cc (r.reads) in same) r.left }
