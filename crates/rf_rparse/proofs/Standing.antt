-- What has been read of a part of a text, and how it goes on.
use Rattle.std.proofs.Common.{◌≡◌, ◌∙◌, ap, sym, refl, List, [], ◌∷◌, ◌++◌, append_assoc}
use Rattle.rf_rtree.specs.Grammar.{Listed, one, next, items_of, listed_yield}
use Rattle.rf_rtree.specs.Tokens.{Tok}
use Rattle.rf_rtree.specs.Tokens as t
use Rattle.rf_rparse.specs.declared.next.Next.{Next}
use Rattle.rf_rparse.specs.declared.next.Next.TheVariants.{More, Whole, Held, No}

-- the tokens before stand for a state, and the token goes on from there to what stands or is
abbrev pub Onward : {S X : Type 0} → (S → List Tok → Type 0) → (X → List Tok → Type 0) → Next S X → List Tok → Tok → Type 0
Onward Stands Is (More s) pre tok = Stands s (pre ++ tok ∷ [])
Onward Stands Is (Whole x) pre tok = Is x (pre ++ tok ∷ [])
Onward Stands Is (Held x) pre tok = Is x pre
Onward Stands Is No pre tok = Unit {0}

-- tokens that begin a text of a sort
pub record Begins {A : Type 0} (yield : A → List Tok) (pre : List Tok) : Type 0 where
  pub more : List Tok
  pub way : A
  pub yields : yield way ≡ pre ++ more

-- the items of a list before one that is to come
pub data Lead (X : Type 0) : Type 0 where
  none : Lead X
  behind : Listed X → Lead X

abbrev pub lead_items : {X : Type 0} → Lead X → List X
lead_items none = []
lead_items (behind xs) = items_of xs

abbrev pub lead_yield : {X : Type 0} → (X → List Tok) → Lead X → List Tok
lead_yield yield none = []
lead_yield yield (behind xs) = listed_yield yield xs ++ t.Comma ∷ []

abbrev pub lead_add : {X : Type 0} → Lead X → X → Listed X
lead_add none x = one x
lead_add (behind xs) x = next xs x

pub added_items : {X : Type 0} (xs : Lead X) (x : X) → items_of (lead_add xs x) ≡ lead_items xs ++ x ∷ []
added_items none x = refl
added_items (behind xs) x = refl

pub added_yield : {X : Type 0} (yield : X → List Tok) (xs : Lead X) (x : X) →
    listed_yield yield (lead_add xs x) ≡ lead_yield yield xs ++ yield x
added_yield yield none x = refl
added_yield yield (behind xs) x = sym (append_assoc (listed_yield yield xs) (t.Comma ∷ []) (yield x))

-- one more token behind
pub one_more : (pre toks : List Tok) (tok : Tok) → pre ≡ toks → pre ++ tok ∷ [] ≡ toks ++ tok ∷ []
one_more pre toks tok e = ap (λ (toks : List Tok). toks ++ tok ∷ []) e

pub one_more_of : (pre before toks : List Tok) (tok : Tok) → pre ≡ before ++ toks → pre ++ tok ∷ [] ≡ before ++ (toks ++ tok ∷ [])
one_more_of pre before toks tok e = one_more pre (before ++ toks) tok e ∙ append_assoc before toks (tok ∷ [])
