-- The tokens behind a piece.
use Rattle.std.proofs.Common.{◌≡◌, ◌∙◌, ap, sym, ℕ, zero, suc, ◌+◌, ◌-◌, ◌≤◌, ◌<◌, List, [], ◌∷◌, ◌++◌, length, get_or, refl, take, drop, append_assoc, append-nil, arith}
use Rattle.std.proofs.Math.Seq.{take-length}
use Rattle.std.proofs.lemmas.Bool.Decides.{nat_tests}
use Rattle.rf_rlex.specs.declared.fronts.Front.{Front}
use Rattle.rf_rlex.specs.declared.fronts.Front.TheVariants.{Skip, Token, Nothing}
use Rattle.rf_rlex.specs.declared.tokens.Placed.{Placed}
use Rattle.rf_rlex.specs.declared.tokens.Tok.{Tok}
use Rattle.rf_rlex.specs.declared.tokens.Tok.TheVariants.{Bad}
use Rattle.rf_rlex.specs.Fronts.{front}
use Rattle.rf_rlex.specs.Lexed.{tokens_from, begun, line_behind, placed}

-- the bytes of a piece that is under way are passed over
tokens_behind : (bytes : List ℕ) (n line : ℕ) → tokens_from bytes n line ≡ tokens_from (drop n bytes) 0 line
tokens_behind [] zero line = refl
tokens_behind [] (suc n) line = refl
tokens_behind (byte ∷ bytes) zero line = refl
tokens_behind (byte ∷ bytes) (suc n) line = tokens_behind bytes n line

-- what the tokens of a text are, by the piece that it begins with
begins : (byte : ℕ) (bytes : List ℕ) (line : ℕ) (piece : Front) → piece ≡ front (byte ∷ bytes) →
    tokens_from (byte ∷ bytes) 0 line ≡ begun piece byte line (tokens_from bytes)
begins byte bytes line piece is = ap (λ piece. begun piece byte line (tokens_from bytes)) (sym is)

-- all but the first byte
more : (byte : ℕ) (bytes : List ℕ) → take (length (byte ∷ bytes) - 1) bytes ≡ bytes
more byte bytes =
    let all : length (byte ∷ bytes) - 1 ≡ length bytes = omega arith in
    ap (λ n. take n bytes) all ∙ take-length bytes

-- `behind` is what stands behind the piece
pub skipped : (toks whole : List Placed) (text behind : List ℕ) (line n : ℕ) → 1 ≤ length text →
    behind ≡ drop n (take (length text - 1) (drop 1 text)) → Skip n ≡ front text →
    toks ++ tokens_from text 0 line ≡ whole →
    toks ++ tokens_from behind 0 (line_behind line (get_or text 0 0)) ≡ whole
skipped toks whole [] behind line n some parts is before = absurd (omega arith)
skipped toks whole (byte ∷ bytes) behind line n some parts is before =
    ap (λ (rest : List Placed). toks ++ rest) (ap (λ text. tokens_from text 0 (line_behind line byte)) (parts ∙ ap (drop n) (more byte bytes))
    ∙ sym (begins byte bytes line (Skip n) is ∙ tokens_behind bytes n (line_behind line byte))) ∙ before

pub taken : (toks new whole : List Placed) (text behind : List ℕ) (line : ℕ) (tok : Tok) (n : ℕ) → 1 ≤ length text →
    behind ≡ drop n (take (length text - 1) (drop 1 text)) → Token tok n ≡ front text → new ≡ toks ++ placed tok line ∷ [] →
    toks ++ tokens_from text 0 line ≡ whole →
    new ++ tokens_from behind 0 line ≡ whole
taken toks new whole [] behind line tok n some parts is pushed before = absurd (omega arith)
taken toks new whole (byte ∷ bytes) behind line tok n some parts is pushed before =
    let rest = tokens_from behind 0 line in
    ap (λ (new : List Placed). new ++ rest) pushed ∙ append_assoc toks (placed tok line ∷ []) rest
    ∙ ap (λ (rest : List Placed). toks ++ rest) (ap (λ text. placed tok line ∷ tokens_from text 0 line) (parts ∙ ap (drop n) (more byte bytes))
    ∙ sym (begins byte bytes line (Token tok n) is
    ∙ ap (λ (rest : List Placed). placed tok line ∷ rest) (tokens_behind bytes n line))) ∙ before

pub refused : (toks new whole : List Placed) (text : List ℕ) (line : ℕ) → 1 ≤ length text →
    Nothing ≡ front text → new ≡ toks ++ placed Bad line ∷ [] →
    toks ++ tokens_from text 0 line ≡ whole → new ≡ whole
refused toks new whole [] line some is pushed before = absurd (omega arith)
refused toks new whole (byte ∷ bytes) line some is pushed before =
    pushed ∙ ap (λ (rest : List Placed). toks ++ rest) (sym (begins byte bytes line Nothing is)) ∙ before

pub ended : (toks whole : List Placed) (text : List ℕ) (line : ℕ) → length text < 1 →
    toks ++ tokens_from text 0 line ≡ whole → toks ≡ whole
ended toks whole [] line none before = sym (append-nil toks) ∙ before
ended toks whole (byte ∷ bytes) line none before = absurd (omega arith)

-- the line grows by one at most
pub line_fits : (line byte most : ℕ) → line + 1 ≤ most → line_behind line byte ≤ most
line_fits line byte most fits = grind (arith, nat_tests)
