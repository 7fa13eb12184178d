-- Texts cut into trivia and tokens: the cut of a text is one, and the parts give the text back.
use Rattle.std.proofs.Common.{◌≡◌, ℕ, ◌<◌, true, true≢false, List, [], ◌∷◌, ◌++◌, flat_map, length, drop, sym, refl, ap, ◌∙◌, subst, arith, append_assoc, append-nil, length-append, length-drop}
use Rattle.rf_jtree.specs.declared.tokens.Tok.{Tok}
use Rattle.rf_jtree.specs.declared.tokens.Toks.{Toks}
use Rattle.rf_jtree.specs.declared.tokens.TokKind.{TokKind}
use Rattle.rf_jtree.specs.Tokens as tokens
use Rattle.rf_jtree.specs.Tokens.{IsLongest, HasNoPiece, is_trivia, CutsTrivia, Skips, CutsTokens, AreTokens, tok_bytes, toks_bytes, IsFault}
use Rattle.rf_jlex.specs.Lexed.{HasNoTokens}
use Rattle.rf_jlex.proofs.SortLemmas.{SameCut-longest, length-longest}

-- no trivia, and nothing at all, is the longest piece at the front of the text
abbrev HasNoTrivia : List ℕ → Type 0
HasNoTrivia text = (sort : tokens.Sort) (piece rest : List ℕ) → is_trivia sort ≡ true → IsLongest text sort piece rest → ⊥

abbrev HasNoLongest : List ℕ → Type 0
HasNoLongest text = (sort : tokens.Sort) (piece rest : List ℕ) → IsLongest text sort piece rest → ⊥

HasNoLongest-none : (text : List ℕ) → HasNoPiece text → HasNoLongest text
HasNoLongest-none text none sort piece rest is = none sort piece rest is.matches

HasNoLongest-nil : HasNoLongest []
HasNoLongest-nil sort piece rest is =
    absurd (omega (arith, length-longest [] sort piece rest is, ap length is.matches.parts, length-append piece rest))

HasNoTrivia-token : (text : List ℕ) (kind : TokKind) (piece rest : List ℕ) → IsLongest text (tokens.Token kind) piece rest → HasNoTrivia text
HasNoTrivia-token text kind piece rest is sort piece' rest' trivia other =
    let same = SameCut-longest text (tokens.Token kind) sort piece piece' rest rest' is other in
    true≢false (sym trivia ∙ ap is_trivia (sym same.same_sort))

-- two ways to skip trivia are one
record SameSkip (lead lead' rest rest' : List ℕ) : Type 0 where
  same_lead : lead ≡ lead'
  same_rest : rest ≡ rest'

same_trivia : (ps qs : List (tokens.Sort × List ℕ)) (text lead rest lead' rest' : List ℕ) → CutsTrivia text ps lead rest → CutsTrivia text qs lead' rest' → HasNoTrivia rest → HasNoTrivia rest' → SameSkip lead lead' rest rest'
same_trivia [] [] text lead rest lead' rest' a b none none' = record { same_lead = a.0 ∙ sym b.0; same_rest = sym a.1 ∙ b.1 }
same_trivia [] (q ∷ qs) text lead rest lead' rest' a b none none' = absurd (subst HasNoTrivia (sym a.1) none q.0 q.1 b.0 b.2 b.3)
same_trivia (p ∷ ps) [] text lead rest lead' rest' a b none none' = absurd (subst HasNoTrivia (sym b.1) none' p.0 p.1 a.0 a.2 a.3)
same_trivia (p ∷ ps) (q ∷ qs) text lead rest lead' rest' a b none none' =
    let same = SameCut-longest text p.0 q.0 p.1 q.1 a.0 b.0 a.3 b.3 in
    let cut : CutsTrivia a.0 qs b.1 rest' = subst (λ t. CutsTrivia t qs b.1 rest') (sym same.same_rest) b.4 in
    let more = same_trivia ps qs a.0 a.1 rest b.1 rest' a.4 cut none none' in
    record {
      same_lead = a.5 ∙ ap (λ x. x ++ a.1) same.same_piece ∙ ap (λ x. q.1 ++ x) more.same_lead ∙ sym b.5;
      same_rest = more.same_rest;
    }

same_skip : (text lead rest lead' rest' : List ℕ) → Skips text lead rest → Skips text lead' rest' → HasNoTrivia rest → HasNoTrivia rest' → SameSkip lead lead' rest rest'
same_skip text lead rest lead' rest' a b none none' = same_trivia a.pieces b.pieces text lead rest lead' rest' a.cut b.cut none none'

-- tokens that are followed by trivia, and then by nothing that is a piece
record EndsAt (text : List ℕ) (toks : List Tok) (after lead rest : List ℕ) : Type 0 where
  cut : CutsTokens text toks after
  skipped : Skips after lead rest
  none : HasNoLongest rest

record SameEnd (toks toks' : List Tok) (after after' lead lead' rest rest' : List ℕ) : Type 0 where
  same_toks : toks ≡ toks'
  same_after : after ≡ after'
  same_lead : lead ≡ lead'
  same_rest : rest ≡ rest'

no_trivia : (text : List ℕ) → HasNoLongest text → HasNoTrivia text
no_trivia text none sort piece rest trivia is = none sort piece rest is

same_tok : (x y : Tok) → x.kind ≡ y.kind → x.lead ≡ y.lead → x.text ≡ y.text → x ≡ y
same_tok x y kinds leads texts =
    ap (λ k. let t : Tok = record { kind = k; lead = x.lead; text = x.text } in t) kinds
    ∙ ap (λ l. let t : Tok = record { kind = y.kind; lead = l; text = x.text } in t) leads
    ∙ ap (λ b. let t : Tok = record { kind = y.kind; lead = y.lead; text = b } in t) texts

-- where the tokens end, no other list of tokens goes on
goes_on : (y : Tok) (ys : List Tok) (text lead rest after : List ℕ) → Skips text lead rest → HasNoLongest rest → CutsTokens text (y ∷ ys) after → ⊥
goes_on y ys text lead rest after skipped none cut =
    let same = same_skip text lead rest y.lead cut.0 skipped cut.2 (no_trivia rest none) (HasNoTrivia-token cut.0 y.kind y.text cut.1 cut.3) in
    subst HasNoLongest same.same_rest none (tokens.Token y.kind) y.text cut.1 cut.3

same_end : (xs ys : List Tok) (text after lead rest after' lead' rest' : List ℕ) → EndsAt text xs after lead rest → EndsAt text ys after' lead' rest' → SameEnd xs ys after after' lead lead' rest rest'
same_end [] [] text after lead rest after' lead' rest' a b =
    let same_after : after ≡ after' = sym a.cut ∙ b.cut in
    let skipped : Skips after lead' rest' = subst (λ t. Skips t lead' rest') (sym same_after) b.skipped in
    let same = same_skip after lead rest lead' rest' a.skipped skipped (no_trivia rest a.none) (no_trivia rest' b.none) in
    record { same_toks = refl; same_after = same_after; same_lead = same.same_lead; same_rest = same.same_rest }
same_end [] (y ∷ ys) text after lead rest after' lead' rest' a b =
    absurd (goes_on y ys text lead rest after' (subst (λ t. Skips t lead rest) (sym a.cut) a.skipped) a.none b.cut)
same_end (x ∷ xs) [] text after lead rest after' lead' rest' a b =
    absurd (goes_on x xs text lead' rest' after (subst (λ t. Skips t lead' rest') (sym b.cut) b.skipped) b.none a.cut)
same_end (x ∷ xs) (y ∷ ys) text after lead rest after' lead' rest' a b =
    let c = a.cut in
    let d = b.cut in
    let leads = same_skip text x.lead c.0 y.lead d.0 c.2 d.2 (HasNoTrivia-token c.0 x.kind x.text c.1 c.3) (HasNoTrivia-token d.0 y.kind y.text d.1 d.3) in
    let other : IsLongest c.0 (tokens.Token y.kind) y.text d.1 = subst (λ t. IsLongest t (tokens.Token y.kind) y.text d.1) (sym leads.same_rest) d.3 in
    let toks = SameCut-longest c.0 (tokens.Token x.kind) (tokens.Token y.kind) x.text y.text c.1 d.1 c.3 other in
    let cut : CutsTokens c.1 ys after' = subst (λ t. CutsTokens t ys after') (sym toks.same_rest) d.4 in
    let more = same_end xs ys c.1 after lead rest after' lead' rest' record { cut = c.4; skipped = a.skipped; none = a.none } record { cut = cut; skipped = b.skipped; none = b.none } in
    let sorts : tokens.Token x.kind ≡ tokens.Token y.kind = toks.same_sort in
    let kinds : x.kind ≡ y.kind = cc in
    record {
      same_toks = ap (λ t. t ∷ xs) (same_tok x y kinds leads.same_lead toks.same_piece) ∙ ap (λ ts. y ∷ ts) more.same_toks;
      same_after = more.same_after;
      same_lead = more.same_lead;
      same_rest = more.same_rest;
    }

-- the laws
EndsAt-tokens : (text : List ℕ) (toks : Toks) → AreTokens text toks → EndsAt text toks.list toks.tail toks.tail []
EndsAt-tokens text toks are = record { cut = are.cut; skipped = are.tail; none = HasNoLongest-nil }

EndsAt-fault : (text : List ℕ) (offset : ℕ) (is : IsFault text offset) → EndsAt text is.toks is.after is.lead (drop offset text)
EndsAt-fault text offset is = record { cut = is.cut; skipped = is.skipped; none = HasNoLongest-none (drop offset text) is.none }

same_lists : (one other : Toks) → one.list ≡ other.list → one.tail ≡ other.tail → one ≡ other
same_lists one other lists tails =
    ap (λ l. let t : Toks = record { list = l; tail = one.tail } in t) lists ∙ ap (λ b. let t : Toks = record { list = other.list; tail = b } in t) tails

pub one_token_list : (text : List ℕ) (one other : Toks) → AreTokens text one → AreTokens text other → one ≡ other
one_token_list text one other a b =
    let same = same_end one.list other.list text one.tail one.tail [] other.tail other.tail [] (EndsAt-tokens text one a) (EndsAt-tokens text other b) in
    same_lists one other same.same_toks same.same_after

pub one_fault : (text : List ℕ) (one other : ℕ) → IsFault text one → IsFault text other → one ≡ other
one_fault text one other a b =
    let same = same_end a.toks b.toks text a.after a.lead (drop one text) b.after b.lead (drop other text) (EndsAt-fault text one a) (EndsAt-fault text other b) in
    let long : length (drop one text) ≡ length (drop other text) = ap length same.same_rest in
    let low : one < length text = a.within in
    let low' : other < length text = b.within in
    omega (arith, length-drop one text, length-drop other text)

pub no_tokens : (text : List ℕ) (offset : ℕ) → IsFault text offset → HasNoTokens text
no_tokens text offset is toks are =
    let same = same_end is.toks toks.list text is.after is.lead (drop offset text) toks.tail toks.tail [] (EndsAt-fault text offset is) (EndsAt-tokens text toks are) in
    let low : offset < length text = is.within in
    absurd (omega (arith, length-drop offset text, ap length same.same_rest))

-- the parts give the text back
trivia_parts : (ps : List (tokens.Sort × List ℕ)) (text lead rest : List ℕ) → CutsTrivia text ps lead rest → text ≡ lead ++ rest
trivia_parts [] text lead rest cut = cut.1 ∙ ap (λ l. l ++ rest) (sym cut.0)
trivia_parts (p ∷ ps) text lead rest cut =
    cut.3.matches.parts ∙ ap (λ t. p.1 ++ t) (trivia_parts ps cut.0 cut.1 rest cut.4) ∙ sym (append_assoc p.1 cut.1 rest) ∙ ap (λ l. l ++ rest) (sym cut.5)

pub skip_parts : (text lead rest : List ℕ) → Skips text lead rest → text ≡ lead ++ rest
skip_parts text lead rest skipped = trivia_parts skipped.pieces text lead rest skipped.cut

pub token_parts : (toks : List Tok) (text rest : List ℕ) → CutsTokens text toks rest → text ≡ flat_map tok_bytes toks ++ rest
token_parts [] text rest cut = cut
token_parts (tok ∷ toks) text rest cut =
    skip_parts text tok.lead cut.0 cut.2
    ∙ ap (λ t. tok.lead ++ t) cut.3.matches.parts
    ∙ ap (λ t. tok.lead ++ (tok.text ++ t)) (token_parts toks cut.1 rest cut.4)
    ∙ simp append_assoc

pub bytes_of_tokens : (text : List ℕ) (toks : Toks) → AreTokens text toks → toks_bytes toks ≡ text
bytes_of_tokens text toks are = sym (token_parts toks.list text toks.tail are.cut)

-- one piece more
trivia_more : (ps : List (tokens.Sort × List ℕ)) (text lead rest : List ℕ) (sort : tokens.Sort) (piece more : List ℕ) → CutsTrivia text ps lead rest → is_trivia sort ≡ true → IsLongest rest sort piece more → CutsTrivia text (ps ++ (sort, piece) ∷ []) (lead ++ piece) more
trivia_more [] text lead rest sort piece more cut trivia is =
    (more, [], trivia, subst (λ t. IsLongest t sort piece more) (sym cut.1) is, (refl, refl), ap (λ l. l ++ piece) cut.0 ∙ sym (append-nil piece))
trivia_more (p ∷ ps) text lead rest sort piece more cut trivia is =
    (cut.0, cut.1 ++ piece, cut.2, cut.3, trivia_more ps cut.0 cut.1 rest sort piece more cut.4 trivia is, ap (λ l. l ++ piece) cut.5 ∙ append_assoc p.1 cut.1 piece)

pub Skips-more : (text lead rest : List ℕ) (sort : tokens.Sort) (piece more : List ℕ) → Skips text lead rest → is_trivia sort ≡ true → IsLongest rest sort piece more → Skips text (lead ++ piece) more
Skips-more text lead rest sort piece more skipped trivia is = record {
  pieces = skipped.pieces ++ (sort, piece) ∷ [];
  cut = trivia_more skipped.pieces text lead rest sort piece more skipped.cut trivia is;
}

pub Skips-none : (text : List ℕ) → Skips text [] text
Skips-none text = record { pieces = []; cut = (refl, refl) }

pub CutsTokens-more : (toks : List Tok) (text after : List ℕ) (tok : Tok) (more rest : List ℕ) → CutsTokens text toks after → Skips after tok.lead more → IsLongest more (tokens.Token tok.kind) tok.text rest → CutsTokens text (toks ++ tok ∷ []) rest
CutsTokens-more [] text after tok more rest cut skipped is = (more, rest, subst (λ t. Skips t tok.lead more) (sym cut) skipped, is, refl)
CutsTokens-more (first ∷ toks) text after tok more rest cut skipped is =
    (cut.0, cut.1, cut.2, cut.3, CutsTokens-more toks cut.1 after tok more rest cut.4 skipped is)
