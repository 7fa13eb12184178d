-- The steps of the lexer's loops.
use Rattle.std.proofs.Common.{◌≡◌, ℕ, ◌+◌, ◌-◌, ◌<◌, ◌≤◌, Bool, true, false, ◌==◌, eqb-true, List, [], ◌∷◌, ◌++◌, length, take, drop, sym, refl, ap, ◌∙◌, subst, subst₂, arith, length-take-le, take-add, drop-drop, drop_at, flat_map, append_assoc, append-nil, length-append}
use Rattle.std.proofs.lemmas.Bool.{false≢true}
use Rattle.std.proofs.lemmas.List.{nil_from_length}
use Rattle.rf_jtree.specs.declared.tokens.TokKind.{TokKind}
use Rattle.rf_jtree.specs.Tokens as tokens
use Rattle.rf_jtree.specs.Tokens.{IsLongest, HasNoPiece, is_trivia, Skips, CutsTokens, AreTokens, IsFault, tok_bytes}
use Rattle.rf_jtree.specs.declared.tokens.Tok.{Tok}
use Rattle.rf_jlex.specs.declared.lexer.Next.TheVariants as next
use Rattle.rf_jlex.specs.Cuts.{IsNext}
use Rattle.rf_jlex.specs.declared.pieces.Sort.{Sort}
use Rattle.rf_jlex.specs.declared.pieces.Sort.TheVariants.{WhiteSpace, LineComment, BlockComment, Token}
use Rattle.rf_jlex.specs.Pieces.{sort_of}
use Rattle.rf_jlex.proofs.SortLemmas.{length-longest}
use Rattle.rf_jlex.proofs.CutLemmas.{Skips-more, CutsTokens-more, skip_parts, token_parts}

-- what `GivesPiece` says of a piece
abbrev pub IsPieceAt : List ℕ → Sort → ℕ → Type 0
IsPieceAt text sort n = (n ≤ length text) × IsLongest text (sort_of sort) (take n text) (drop n text)

is_trivia-sort : (sort : Sort) → ((kind : TokKind) → sort ≡ Token kind → ⊥) → is_trivia (sort_of sort) ≡ true
is_trivia-sort WhiteSpace other = refl
is_trivia-sort LineComment other = refl
is_trivia-sort BlockComment other = refl
is_trivia-sort (Token kind) other = absurd (other kind refl)

pub length-piece_at : (text : List ℕ) (sort : Sort) (n : ℕ) → IsPieceAt text sort n → 0 < n
length-piece_at text sort n is =
    let some = length-longest text (sort_of sort) (take n text) (drop n text) is.1 in
    omega (arith, length-take-le n text is.0)

-- one piece of trivia more
pub Skips-piece : (text rest : List ℕ) (skipped : ℕ) (sort : Sort) (n : ℕ) → rest ≡ drop skipped text → Skips text (take skipped text) (drop skipped text)
    → ((kind : TokKind) → sort ≡ Token kind → ⊥) → IsPieceAt rest sort n → Skips text (take (skipped + n) text) (drop (skipped + n) text)
Skips-piece text rest skipped sort n at skips other is =
    let here : IsPieceAt (drop skipped text) sort n = subst (λ t. IsPieceAt t sort n) at is in
    let more = Skips-more text (take skipped text) (drop skipped text) (sort_of sort) (take n (drop skipped text)) (drop n (drop skipped text)) skips (is_trivia-sort sort other) here.1 in
    subst₂ (λ l r. Skips text l r) (sym (take-add skipped n text)) (drop-drop n skipped text) more

-- a token more
pub token_is_some : (text : List ℕ) (kind : TokKind) (n : ℕ) → IsNext text (next.Token kind n) → 0 < n
token_is_some text kind n is = length-piece_at text (Token kind) n is

pub CutsTokens-next : (toks grown : List Tok) (tok : Tok) (bytes text lead rest token after : List ℕ) (n : ℕ) → CutsTokens bytes toks text → Skips text lead rest → IsNext rest (next.Token tok.kind n)
    → tok.lead ≡ lead → tok.text ≡ token → token ≡ take n rest → after ≡ drop n rest → grown ≡ toks ++ tok ∷ [] → CutsTokens bytes grown after
CutsTokens-next toks grown tok bytes text lead rest token after n cut skips is leads texts taken dropped pushed =
    let skipped : Skips text tok.lead rest = subst (λ l. Skips text l rest) (sym leads) skips in
    let longest : IsLongest rest (tokens.Token tok.kind) tok.text after =
    subst₂ (λ t a. IsLongest rest (tokens.Token tok.kind) t a) (sym (texts ∙ taken)) (sym dropped) is.1 in
    subst (λ ts. CutsTokens bytes ts after) (sym pushed) (CutsTokens-more toks bytes text tok rest after cut skipped longest)

-- all is read
pub AreTokens-end : (toks : List Tok) (bytes text lead rest tail : List ℕ) → CutsTokens bytes toks text → Skips text lead rest → rest ≡ [] → tail ≡ lead → AreTokens bytes (record { list = toks; tail = tail })
AreTokens-end toks bytes text lead rest tail cut skips ended same =
    let whole : text ≡ tail = skip_parts text lead rest skips ∙ ap (λ r. lead ++ r) ended ∙ append-nil lead ∙ sym same in
    let skipped : Skips text tail [] = subst₂ (λ l r. Skips text l r) (sym same) ended skips in
    record {
      cut = subst (λ t. CutsTokens bytes toks t) whole cut;
      tail = subst (λ t. Skips t tail []) whole skipped;
    }

-- what the test for an empty slice says
pub is_nil : (xs : List ℕ) (test : Bool) → test ≡ (length xs == 0) → test ≡ true → xs ≡ []
is_nil xs test value is = nil_from_length xs (eqb-true (length xs) 0 (sym value ∙ is))

pub is_no_nil : (xs : List ℕ) (test : Bool) → test ≡ (length xs == 0) → test ≡ false → xs ≡ [] → ⊥
is_no_nil xs test value isnt nil = false≢true (sym isnt ∙ value ∙ ap (λ ys. length ys == 0) nil)

-- what is left is a part of the bytes
data Behind (bytes rest : List ℕ) : Type 0 where
  behind : (front : List ℕ) → bytes ≡ front ++ rest → Behind bytes rest

Behind-cut : (toks : List Tok) (bytes text lead rest : List ℕ) → CutsTokens bytes toks text → Skips text lead rest → Behind bytes rest
Behind-cut toks bytes text lead rest cut skips =
    behind (flat_map tok_bytes toks ++ lead)
    (token_parts toks bytes text cut ∙ ap (λ t. flat_map tok_bytes toks ++ t) (skip_parts text lead rest skips) ∙ sym (append_assoc (flat_map tok_bytes toks) lead rest))

pub rest_is_short : (toks : List Tok) (bytes text lead rest : List ℕ) → CutsTokens bytes toks text → Skips text lead rest → length rest ≤ length bytes
rest_is_short toks bytes text lead rest cut skips =
    elim (Behind-cut toks bytes text lead rest cut skips) [ behind front parts ↦ omega (arith, ap length parts, length-append front rest) ]

drop_behind : (bytes rest : List ℕ) → Behind bytes rest → drop (length bytes - length rest) bytes ≡ rest
drop_behind bytes rest (behind front parts) =
    let long : length front ≡ length bytes - length rest = omega (arith, ap length parts, length-append front rest) in
    ap (drop (length bytes - length rest)) parts ∙ drop_at front rest (length bytes - length rest) long

pub IsFault-here : (toks : List Tok) (bytes text lead rest : List ℕ) → CutsTokens bytes toks text → Skips text lead rest → HasNoPiece rest → (rest ≡ [] → ⊥) → IsFault bytes (length bytes - length rest)
IsFault-here toks bytes text lead rest cut skips none more =
    let at : drop (length bytes - length rest) bytes ≡ rest = drop_behind bytes rest (Behind-cut toks bytes text lead rest cut skips) in
    let short : length rest ≤ length bytes = rest_is_short toks bytes text lead rest cut skips in
    let some : 0 < length rest = length_some rest more in
    record {
      toks = toks;
      after = text;
      lead = lead;
      cut = cut;
      skipped = subst (λ r. Skips text lead r) (sym at) skips;
      none = subst HasNoPiece (sym at) none;
      within = omega arith;
    }
  where
    length_some : (xs : List ℕ) → (xs ≡ [] → ⊥) → 0 < length xs
    length_some [] empty = absurd (empty refl)
    length_some (x ∷ xs) empty = omega arith
