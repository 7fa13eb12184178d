-- A string literal at the front of a text: a body between quotes, and UTF-8 as a whole.
use Rattle.std.proofs.Common.{◌≡◌, ℕ, ◌+◌, ◌<◌, List, [], ◌∷◌, ◌++◌, length, take, drop, get_or, Some, refl, sym, ap, ◌∙◌, subst, arith, lit<}
use Rattle.std.specs.Str.{IsUtf8}
use Rattle.rf_jtree.specs.declared.tokens.TokKind.TheVariants as kind
use Rattle.rf_jtree.specs.Tokens.{Token}
use Rattle.rf_jlex.specs.Fronts.{IsFront, GivesOnly}
use Rattle.rf_jlex.specs.QuotedFronts.{IsStringBody, IsOnlyStringBody}
use Rattle.rf_jlex.proofs.QuotedLemmas.{QuotedAt, quoted_at, closed_within, whole_of, quoted_front}

pub string_at : (text : List ℕ) (m : ℕ) → IsFront (Token kind.Str) text m → QuotedAt IsStringBody 34 text m × IsUtf8 (take m text)
string_at text m front =
    let literal = front.matches.is_piece in (
      quoted_at IsStringBody 34 text m _ front.within literal.parts (record { units = literal.units; parts = refl; are_units = literal.are_units }),
      literal.is_utf8,
    )

string_front : (text : List ℕ) (m : ℕ) (at : QuotedAt IsStringBody 34 text m) → 0 < length text → at.n < length (drop 1 text) → IsUtf8 (take m text) → IsFront (Token kind.Str) text m
string_front text m at some long is_utf8 =
    let whole = whole_of IsStringBody 34 text m at some long in
    let body = at.body.front.is_such in
    quoted_front kind.Str 34 text at.n m (λ is. absurd (omega (arith, is))) at.first whole
    (record { units = body.units; parts = whole.parts ∙ ap (λ xs. 34 ∷ (xs ++ 34 ∷ [])) body.parts; are_units = body.are_units; is_utf8 = is_utf8 })

pub only_string : (text : List ℕ) (n : ℕ) → 0 < length text → get_or text 0 0 ≡ 34 → IsOnlyStringBody (drop 1 text) n → n < length (drop 1 text) → get_or (drop 1 text) n 0 ≡ 34 → IsUtf8 (take (n + 2) text)
    → GivesOnly (Token kind.Str) text (Some (n + 2))
only_string text n some first body long quote is_utf8 = (
  string_front text (n + 2) (record { n = n; first = first; body = record { front = body.front; closed = quote }; size = refl }) some long is_utf8,
  λ other front.
      let at = (string_at text other front).0 in
      omega (arith, at.size, body.only at.n at.body),
)

-- each literal there has this body
pub string_of : (text : List ℕ) (n m : ℕ) → IsOnlyStringBody (drop 1 text) n → IsFront (Token kind.Str) text m → (n < length (drop 1 text)) × (get_or (drop 1 text) n 0 ≡ 34) × IsUtf8 (take (n + 2) text)
string_of text n m body front =
    let found = string_at text m front in
    let at = found.0 in
    let same : at.n ≡ n = body.only at.n at.body in
    let closed : get_or (drop 1 text) n 0 ≡ 34 = ap (λ k. get_or (drop 1 text) k 0) (sym same) ∙ at.body.closed in
    (closed_within (drop 1 text) n 34 (lit< tt) closed, closed, subst (λ k. IsUtf8 (take k text)) (omega (arith, at.size, same)) found.1)
