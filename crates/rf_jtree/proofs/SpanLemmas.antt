-- The spans of a list of tokens, in one pass.
use Rattle.std.proofs.Common.{◌≡◌, ℕ, zero, suc, ◌+◌, ◌≤◌, List, [], ◌∷◌, ◌++◌, Option, Some, None, option_map, length, take, drop, slice_get, refl, sym, ap, ◌∙◌, arith, length-append, append_assoc, slice_range, ◌-◌}
use Rattle.std.specs.List.{flat_map}
use Rattle.std.proofs.lemmas.List.{at_drop_all, append-nil, take_at, drop_at}
use Rattle.rf_text.specs.declared.span.Span.{Span}
use Rattle.rf_jtree.specs.declared.tokens.Tok.{Tok}
use Rattle.rf_jtree.specs.declared.tokens.Toks.{Toks}
use Rattle.rf_jtree.specs.Tokens.{tok_bytes, toks_bytes}
use Rattle.rf_jtree.specs.TokenSpans.{span_at, span_of, text_start}

-- the spans of these tokens, the first of which has its lead from here on
abbrev pub spans_from : ℕ → ℕ → List Tok → List Span
spans_from file at [] = []
spans_from file at (tok ∷ toks) = span_at file (at + length tok.lead) (length tok.text) ∷ spans_from file (at + length tok.lead + length tok.text) toks

abbrev span_behind : ℕ → ℕ → List Tok → Tok → Span
span_behind file at before tok = span_at file (at + length (flat_map tok_bytes before) + length tok.lead) (length tok.text)

one_later : (file at : ℕ) (first : Tok) (before : List Tok) (tok : Tok) → span_behind file (at + length first.lead + length first.text) before tok ≡ span_behind file at (first ∷ before) tok
one_later file at first before tok =
    let e : at + length first.lead + length first.text + length (flat_map tok_bytes before) ≡ at + length (flat_map tok_bytes (first ∷ before)) =
    omega (arith, length-append (tok_bytes first) (flat_map tok_bytes before), length-append first.lead first.text) in
    ap (λ n. span_at file (n + length tok.lead) (length tok.text)) e

option_same : {A B : Type 0} (f g : A → B) → ((x : A) → f x ≡ g x) → (o : Option A) → option_map f o ≡ option_map g o
option_same f g same None = refl
option_same f g same (Some x) = ap Some (same x)

spans_from-get : (file at : ℕ) (toks : List Tok) (n : ℕ) → slice_get (spans_from file at toks) n ≡ option_map (span_behind file at (take n toks)) (slice_get toks n)
spans_from-get file at [] n = refl
spans_from-get file at (tok ∷ toks) zero = ap (λ start. Some (span_at file (start + length tok.lead) (length tok.text))) (omega arith)
spans_from-get file at (tok ∷ toks) (suc n) =
    spans_from-get file (at + length tok.lead + length tok.text) toks n
    ∙ option_same (span_behind file (at + length tok.lead + length tok.text) (take n toks)) (span_behind file at (tok ∷ take n toks)) (one_later file at tok (take n toks)) (slice_get toks n)

-- from the first byte on, they are those of the definition
pub spans_from-span_of : (file : ℕ) (toks : List Tok) (n : ℕ) → slice_get (spans_from file 0 toks) n ≡ span_of file toks n
spans_from-span_of file toks n =
    spans_from-get file 0 toks n
    ∙ option_same (span_behind file 0 (take n toks)) (λ tok. span_at file (text_start (take n toks) tok) (length tok.text))
    (λ tok. ap (λ start. span_at file (start + length tok.lead) (length tok.text)) (omega arith)) (slice_get toks n)

-- at the end of the pass all of them are made
pub all_made : (spans : List Span) (file at : ℕ) (toks : List Tok) (n : ℕ) → length toks ≤ n → spans ++ spans_from file at (drop n toks) ≡ spans_from file 0 toks → spans ≡ spans_from file 0 toks
all_made spans file at toks n all made =
    sym (append-nil spans) ∙ ap (λ more. spans ++ more) (sym (at_drop_all (spans_from file at) toks n all)) ∙ made

-- the bytes of tokens, cut at token n: what stands before it, its lead and its text
record CutAt (toks : List Tok) (before : List Tok) (tok : Tok) : Type 0 where
  pub after : List ℕ
  pub parts : flat_map tok_bytes toks ≡ flat_map tok_bytes before ++ (tok.lead ++ (tok.text ++ after))

cut_at : (toks : List Tok) (n : ℕ) (tok : Tok) → slice_get toks n ≡ Some tok → CutAt toks (take n toks) tok
cut_at [] n tok at = let h : None ≡ Some tok = at in absurd cc
cut_at (first ∷ toks) zero tok at =
    let h : Some first ≡ Some tok = at in
    let same : first ≡ tok = cc in
    record {
      after = flat_map tok_bytes toks;
      parts = append_assoc first.lead first.text (flat_map tok_bytes toks) ∙ ap (λ t. t.lead ++ (t.text ++ flat_map tok_bytes toks)) same;
    }
cut_at (first ∷ toks) (suc n) tok at =
    let later = cut_at toks n tok at in
    record {
      after = later.after;
      parts = ap (λ more. tok_bytes first ++ more) later.parts ∙ sym (append_assoc (tok_bytes first) (flat_map tok_bytes (take n toks)) (tok.lead ++ (tok.text ++ later.after)));
    }

part_at : (front lead text after whole : List ℕ) → whole ≡ front ++ (lead ++ (text ++ after)) → slice_range whole (length front + length lead) (length front + length lead + length text) ≡ text
part_at front lead text after whole parts =
    let start : ℕ = length front + length lead in
    let long : length (front ++ lead) ≡ start = length-append front lead in
    let split : whole ≡ (front ++ lead) ++ (text ++ after) = parts ∙ sym (append_assoc front lead (text ++ after)) in
    let behind : drop start whole ≡ text ++ after = ap (drop start) split ∙ drop_at (front ++ lead) (text ++ after) start long in
    let size : length text ≡ start + length text - start = omega arith in
    ap (take (start + length text - start)) behind ∙ take_at text after (start + length text - start) size

some_inside : {A B : Type 0} (f : A → B) (o : Option A) (x : A) (y : B) → o ≡ Some x → option_map f o ≡ Some y → f x ≡ y
some_inside f None x y is made = let h : None ≡ Some x = is in absurd cc
some_inside f (Some z) x y is made = cc

-- so the bytes at the span of a token are its text
pub span_is_text : (toks : Toks) (file n : ℕ) (tok : Tok) (span : Span) → slice_get toks.list n ≡ Some tok → span_of file toks.list n ≡ Some span → slice_range (toks_bytes toks) span.from span.to ≡ tok.text
span_is_text toks file n tok span at is =
    let before = take n toks.list in
    let place : span_at file (text_start before tok) (length tok.text) ≡ span = some_inside (λ t. span_at file (text_start before t) (length t.text)) (slice_get toks.list n) tok span at is in
    let cut = cut_at toks.list n tok at in
    let front = flat_map tok_bytes before in
    let parts : toks_bytes toks ≡ front ++ (tok.lead ++ (tok.text ++ (cut.after ++ toks.tail))) =
    ap (λ bytes. bytes ++ toks.tail) cut.parts
    ∙ append_assoc front (tok.lead ++ (tok.text ++ cut.after)) toks.tail
    ∙ ap (λ bytes. front ++ bytes) (append_assoc tok.lead (tok.text ++ cut.after) toks.tail)
    ∙ ap (λ bytes. front ++ (tok.lead ++ bytes)) (append_assoc tok.text cut.after toks.tail) in
    ap (λ s. slice_range (toks_bytes toks) s.from s.to) (sym place) ∙ part_at front tok.lead tok.text (cut.after ++ toks.tail) (toks_bytes toks) parts
