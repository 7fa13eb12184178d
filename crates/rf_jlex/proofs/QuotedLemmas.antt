-- A literal at the front of a text, as a body between two quotes.
use Rattle.std.proofs.Common.{◌≡◌, ℕ, ◌+◌, ◌<◌, ◌≤◌, suc, Bool, true, false, ◌&&◌, ◌||◌, ◌==◌, List, [], ◌∷◌, ◌++◌, ⊎_elim, length, take, drop, get_or, refl, sym, ap, ◌∙◌, arith, add-zero, append_assoc, length-append, length-drop}
use Rattle.std.proofs.lemmas.Bool.{ne_eqb, cases_lt}
use Rattle.std.proofs.lemmas.List.{take-append-drop, drop_more, take_more, length-take-le, get_or-append-add, get_or_past}
use Rattle.rf_jtree.specs.declared.tokens.TokKind.{TokKind}
use Rattle.rf_jtree.specs.Tokens.{Token, IsToken, begins_comment}
use Rattle.rf_jlex.specs.Fronts.{IsFront}
use Rattle.rf_jlex.specs.QuotedFronts.{IsClosedFront}
use Rattle.rf_jlex.proofs.FrontOfLemmas.{front_of}

pub record QuotedAt (P : List ℕ → Type 0) (quote : ℕ) (text : List ℕ) (m : ℕ) : Type 0 where
  pub n : ℕ
  pub first : get_or text 0 0 ≡ quote
  pub body : IsClosedFront P quote (drop 1 text) n
  pub size : m ≡ n + 2

pub quoted_at : (P : List ℕ → Type 0) (quote : ℕ) (text : List ℕ) (m : ℕ) (body : List ℕ) → m ≤ length text → take m text ≡ quote ∷ (body ++ quote ∷ []) → P body → QuotedAt P quote text m
quoted_at P quote text m body within parts is_body =
    let rest = drop m text in
    let n = length body in
    let whole : text ≡ quote ∷ ((body ++ quote ∷ []) ++ rest) = sym (take-append-drop m text) ∙ ap (λ xs. xs ++ rest) parts in
    let tail : drop 1 text ≡ body ++ (quote ∷ rest) = ap (drop 1) whole ∙ append_assoc body (quote ∷ []) rest in
    let closed : get_or (drop 1 text) n 0 ≡ quote =
    ap (λ xs. get_or xs n 0) tail ∙ ap (λ k. get_or (body ++ (quote ∷ rest)) k 0) (sym (add-zero n)) ∙ get_or-append-add body (quote ∷ rest) 0 0 in
    record {
      n = n;
      first = ap (λ xs. get_or xs 0 0) whole;
      body = record { front = front_of P (drop 1 text) body (quote ∷ rest) n tail is_body refl; closed = closed };
      size = omega (arith, length-take-le m text within, ap length parts, length-append body (quote ∷ []));
    }

-- the quote is no byte past the end
pub closed_within : (text : List ℕ) (n quote : ℕ) → 0 < quote → get_or text n 0 ≡ quote → n < length text
closed_within text n quote some closed = ⊎_elim (λ within. within) (λ past. absurd (omega (arith, closed, get_or_past text n 0 past))) (cases_lt n (length text))

pub record Whole (quote : ℕ) (text : List ℕ) (n m : ℕ) : Type 0 where
  pub within : m ≤ length text
  pub parts : take m text ≡ quote ∷ (take n (drop 1 text) ++ quote ∷ [])

pub whole_of : (P : List ℕ → Type 0) (quote : ℕ) (text : List ℕ) (m : ℕ) (at : QuotedAt P quote text m) → 0 < length text → at.n < length (drop 1 text) → Whole quote text at.n m
whole_of P quote text m at some long =
    let tail = drop 1 text in
    let n = at.n in
    let text_is : text ≡ quote ∷ tail = drop_more text 0 0 some ∙ ap (λ byte. byte ∷ tail) at.first in
    let size : m ≡ suc (suc n) = omega (arith, at.size) in
    let next : suc n ≡ n + 1 = omega arith in
    let more : take (suc n) tail ≡ take n tail ++ quote ∷ [] =
    ap (λ k. take k tail) next ∙ take_more tail n 0 long ∙ ap (λ byte. take n tail ++ byte ∷ []) at.body.closed in
    record {
      within = omega (arith, length-drop 1 text, long, at.size);
      parts = ap (λ k. take k text) size ∙ ap (take (suc (suc n))) text_is ∙ ap (λ xs. quote ∷ xs) more;
    }

neither : (a x y : Bool) → a ≡ false → ((a && x) || (a && y)) ≡ false
neither true x y is = cc
neither false x y is = refl

-- a comment begins with `/`
no_comment : (text : List ℕ) (quote : ℕ) → (quote ≡ 47 → ⊥) → get_or text 0 0 ≡ quote → begins_comment text ≡ false
no_comment [] quote other first = refl
no_comment (byte ∷ bytes) quote other first = neither (47 == byte) _ _ (ne_eqb 47 byte (λ is. other (sym first ∙ sym is)))

pub quoted_front : (k : TokKind) (quote : ℕ) (text : List ℕ) (n m : ℕ) → (quote ≡ 47 → ⊥) → get_or text 0 0 ≡ quote → Whole quote text n m → IsToken k (take m text) → IsFront (Token k) text m
quoted_front k quote text n m other first whole is_token = record {
  within = whole.within;
  matches = record {
    parts = sym (take-append-drop m text);
    is_piece = is_token;
    may_stand = ap begins_comment (take-append-drop m text) ∙ no_comment text quote other first;
  };
}
