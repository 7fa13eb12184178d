-- Line comments and block comments at the front of a text.
use Rattle.std.proofs.Common.{◌≡◌, ℕ, suc, ◌+◌, ◌-◌, ◌<◌, ◌≤◌, Bool, true, false, not, List, [], ◌∷◌, ◌++◌, inl, inr, length, get_or, take, drop, refl, ap, sym, ◌∙◌, subst, arith, length-append, length-drop, append_assoc, get_or-take}
use Rattle.std.specs.List.{AllPass, prefix_len}
use Rattle.std.proofs.lemmas.Bool.{true≢false, cases_lt}
use Rattle.std.proofs.lemmas.List.{take_at, drop_at, drop_all, drop_more, take-append-drop, length-take-le, get_or_at, get_or-append-add, get_or_append_left, get_or_past, nil_from_length}
use Rattle.std.proofs.lemmas.List.Elements.{All-cons, All-from_get_or}
use Rattle.std.proofs.lemmas.List.Folds.{length-prefix_len}
use Rattle.std.proofs.lemmas.List.Sums.{prefix_len_is, prefix_len_passes, prefix_len_stops, prefix_len-le-length}
use Rattle.rf_jtree.specs.Tokens.{Sort, LineComment, BlockComment, IsPiece, MayStand, IsAtLineEnd}
use Rattle.rf_jtree.specs.Trivia.{is_line_end, IsLineComment, IsBlockComment}
use Rattle.rf_jlex.specs.Fronts.{IsFront}
use Rattle.rf_jlex.specs.Comments.{line_length, EndsAt, IsReadable}

-- a text in two parts begins with the first
front_is : (sort : Sort) (text piece rest : List ℕ) (n : ℕ) → text ≡ piece ++ rest → length piece ≡ n → IsPiece sort piece → MayStand sort piece rest → IsFront sort text n
front_is sort text piece rest n parts long is_piece may_stand =
    let before : take n text ≡ piece = ap (take n) parts ∙ take_at piece rest n long in
    let behind : drop n text ≡ rest = ap (drop n) parts ∙ drop_at piece rest n long in
    let total : length text ≡ length piece + length rest = ap (λ bytes. length bytes) parts ∙ length-append piece rest in
    let within : n ≤ length text = omega arith in
    let stands : MayStand sort (take n text) (drop n text) = subst (λ bytes. MayStand sort bytes (drop n text)) (sym before) (subst (MayStand sort piece) (sym behind) may_stand) in
    record {
      within = within;
      matches = record {
        parts = sym (take-append-drop n text);
        is_piece = subst (IsPiece sort) (sym before) is_piece;
        may_stand = stands;
      };
    }

-- `*/` stands behind a front
ends_behind : (front rest : List ℕ) → EndsAt (front ++ (42 ∷ 47 ∷ rest)) (length front)
ends_behind front rest = record {
  star = get_or_at front 42 (47 ∷ rest) 0 (length front) refl;
  slash = get_or-append-add front (42 ∷ 47 ∷ rest) 1 0;
}

-- within a text
slash_is_not_zero : (byte : ℕ) → byte ≡ 47 → byte ≡ 0 → ⊥
slash_is_not_zero byte slash none = omega arith

pub ends_within : (text : List ℕ) (at : ℕ) → EndsAt text at → at + 1 < length text
ends_within text at ends =
    elim (cases_lt (at + 1) (length text)) [
      | inl within ↦ within
      | inr past ↦ absurd (slash_is_not_zero (get_or text (at + 1) 0) ends.slash (get_or_past text (at + 1) 0 past))
    ]

-- and parts it
ends_parts : (text : List ℕ) (at : ℕ) → EndsAt text at → text ≡ take at text ++ (42 ∷ 47 ∷ drop (at + 1 + 1) text)
ends_parts text at ends =
    let within = ends_within text at ends in
    let star : drop at text ≡ get_or text at 0 ∷ drop (at + 1) text = drop_more text at 0 (omega arith) in
    let slash : drop (at + 1) text ≡ get_or text (at + 1) 0 ∷ drop (at + 1 + 1) text = drop_more text (at + 1) 0 within in
    let both : drop at text ≡ 42 ∷ 47 ∷ drop (at + 1 + 1) text = rw (star, slash, ends.star, ends.slash) refl in
    sym (take-append-drop at text) ∙ ap (λ tail. take at text ++ tail) both

-- the same in a longer text
ends_in_more : (text rest : List ℕ) (at : ℕ) → EndsAt text at → EndsAt (text ++ rest) at
ends_in_more text rest at ends =
    let within = ends_within text at ends in
    record {
      star = get_or_append_left text rest 0 at (omega arith) ∙ ends.star;
      slash = get_or_append_left text rest 0 (at + 1) within ∙ ends.slash;
    }

ends_in_front : (text rest : List ℕ) (at : ℕ) → at + 1 < length text → EndsAt (text ++ rest) at → EndsAt text at
ends_in_front text rest at within ends = record {
  star = sym (get_or_append_left text rest 0 at (omega arith)) ∙ ends.star;
  slash = sym (get_or_append_left text rest 0 (at + 1) within) ∙ ends.slash;
}

-- a piece may be the bytes of a comment
pub block_is_readable : (text : List ℕ) (n : ℕ) → IsFront BlockComment text n → IsReadable (take n text)
block_is_readable text n front =
    let piece : IsBlockComment (take n text) = front.matches.is_piece in
    record { is_utf8 = piece.is_utf8; escapes = piece.escapes }

pub line_is_readable : (text : List ℕ) (n : ℕ) → IsFront LineComment text n → IsReadable (take n text)
line_is_readable text n front =
    let piece : IsLineComment (take n text) = front.matches.is_piece in
    record { is_utf8 = piece.is_utf8; escapes = piece.escapes }

-- what a block comment at the front says of the bytes behind `/*`
record IsClosedBy (body inner rest : List ℕ) (n : ℕ) : Type 0 where
  parts : body ≡ inner ++ (42 ∷ 47 ∷ []) ++ rest
  next_end : (front more : List ℕ) → inner ++ (42 ∷ 47 ∷ []) ≡ front ++ (42 ∷ 47 ∷ more) → more ≡ []
  long : n ≡ length inner + 4

block_closes : (text body : List ℕ) (n : ℕ) → text ≡ 47 ∷ 42 ∷ body → IsFront BlockComment text n → (inner : List ℕ) × IsClosedBy body inner (drop n text) n
block_closes text body n begins front =
    let piece : IsBlockComment (take n text) = front.matches.is_piece in
    let inner = piece.body in
    let shown : take n text ≡ 47 ∷ 42 ∷ (inner ++ (42 ∷ 47 ∷ [])) = piece.parts in
    let whole : 47 ∷ 42 ∷ body ≡ 47 ∷ 42 ∷ (inner ++ (42 ∷ 47 ∷ []) ++ drop n text) =
    sym begins ∙ front.matches.parts ∙ ap (λ bytes. bytes ++ drop n text) shown in
    let long : length (take n text) ≡ n = length-take-le n text front.within in
    let inner_long : length (take n text) ≡ suc (suc (length (inner ++ (42 ∷ 47 ∷ [])))) = ap (λ bytes. length bytes) shown in
    let end_long : length (inner ++ (42 ∷ 47 ∷ [])) ≡ length inner + 2 = length-append inner (42 ∷ 47 ∷ []) in
    (inner, record { parts = ap (drop 2) whole; next_end = piece.next_end; long = omega arith })

-- the comment goes on to the first end
first_end_closes : (body inner rest : List ℕ) (n at : ℕ) → IsClosedBy body inner rest n → EndsAt body at → ((other : ℕ) → EndsAt body other → at ≤ other) → n ≡ at + 4
first_end_closes body inner rest n at closed ends first =
    let closing : List ℕ = inner ++ (42 ∷ 47 ∷ []) in
    let long : length closing ≡ length inner + 2 = length-append inner (42 ∷ 47 ∷ []) in
    let last : EndsAt body (length inner) = subst (λ bytes. EndsAt bytes (length inner)) (sym closed.parts) (ends_in_more closing rest (length inner) (ends_behind inner [])) in
    let early : at ≤ length inner = first (length inner) last in
    let whole : EndsAt (closing ++ rest) at = subst (λ bytes. EndsAt bytes at) closed.parts ends in
    let there : EndsAt closing at = ends_in_front closing rest at (omega arith) whole in
    let none : drop (at + 1 + 1) closing ≡ [] = closed.next_end (take at closing) (drop (at + 1 + 1) closing) (ends_parts closing at there) in
    let short : length (drop (at + 1 + 1) closing) ≡ 0 = ap (λ bytes. length bytes) none in
    let left : length (drop (at + 1 + 1) closing) ≡ length closing - (at + 1 + 1) = length-drop (at + 1 + 1) closing in
    closed.long ∙ omega arith

-- so a block comment goes on to the first end behind `/*`, and there is one
pub block_ends : (text body : List ℕ) (n at : ℕ) → text ≡ 47 ∷ 42 ∷ body → EndsAt body at → ((other : ℕ) → EndsAt body other → at ≤ other) → IsFront BlockComment text n → n ≡ at + 4
block_ends text body n at begins ends first front =
    let closed = block_closes text body n begins front in
    first_end_closes body closed.0 (drop n text) n at closed.1 ends first

pub block_has_end : (text body : List ℕ) (n : ℕ) → text ≡ 47 ∷ 42 ∷ body → IsFront BlockComment text n → (at : ℕ) × EndsAt body at
block_has_end text body n begins front =
    let closed = block_closes text body n begins front in
    let inner = closed.0 in
    let closing : List ℕ = inner ++ (42 ∷ 47 ∷ []) in
    (length inner, subst (λ bytes. EndsAt bytes (length inner)) (sym closed.1.parts) (ends_in_more closing (drop n text) (length inner) (ends_behind inner [])))

-- and what goes on to there is one
pub block_is_front : (text body : List ℕ) (at : ℕ) → text ≡ 47 ∷ 42 ∷ body → EndsAt body at → ((other : ℕ) → EndsAt body other → at ≤ other) → IsReadable (take (at + 4) text) → IsFront BlockComment text (at + 4)
block_is_front text body at begins ends first readable =
    let inner : List ℕ = take at body in
    let rest : List ℕ = drop (at + 1 + 1) body in
    let closing : List ℕ = inner ++ (42 ∷ 47 ∷ []) in
    let piece : List ℕ = 47 ∷ 42 ∷ closing in
    let within : at + 1 < length body = ends_within body at ends in
    let inner_long : length inner ≡ at = length-take-le at body (omega arith) in
    let closing_long : length closing ≡ length inner + 2 = length-append inner (42 ∷ 47 ∷ []) in
    let long : length piece ≡ at + 4 = omega arith in
    let closed : body ≡ closing ++ rest = ends_parts body at ends ∙ sym (append_assoc inner (42 ∷ 47 ∷ []) rest) in
    let parts : text ≡ piece ++ rest = begins ∙ ap (λ bytes. 47 ∷ 42 ∷ bytes) closed in
    let shown : take (at + 4) text ≡ piece = ap (take (at + 4)) parts ∙ take_at piece rest (at + 4) long in
    let readable_piece : IsReadable piece = subst IsReadable shown readable in
    let only_end : (front more : List ℕ) → closing ≡ front ++ (42 ∷ 47 ∷ more) → more ≡ [] = λ front more same.
    let there : EndsAt closing (length front) = subst (λ bytes. EndsAt bytes (length front)) (sym same) (ends_behind front more) in
    let also : EndsAt body (length front) = subst (λ bytes. EndsAt bytes (length front)) (sym closed) (ends_in_more closing rest (length front) there) in
    let late : at ≤ length front = first (length front) also in
    let total : length closing ≡ length front + suc (suc (length more)) = ap (λ bytes. length bytes) same ∙ length-append front (42 ∷ 47 ∷ more) in
    nil_from_length more (omega arith) in
    let is_block : IsBlockComment piece = record {
      body = inner;
      parts = refl;
      next_end = only_end;
      is_utf8 = readable_piece.is_utf8;
      escapes = readable_piece.escapes;
    } in
    front_is BlockComment text piece rest (at + 4) parts long is_block tt

-- a byte doesn't end the line
abbrev is_on_line : ℕ → Bool
is_on_line byte = not (is_line_end byte)

-- the line ends where its length says
line_length-is : (text : List ℕ) → line_length text ≡ prefix_len is_on_line text
line_length-is text = length-prefix_len is_on_line text

at_line_end : (text : List ℕ) (n : ℕ) → (n < length text → is_line_end (get_or text n 0) ≡ true) → IsAtLineEnd (drop n text)
at_line_end text n ends =
    elim (cases_lt n (length text)) [
      | inl within ↦ subst IsAtLineEnd (sym (drop_more text n 0 within)) (ends within)
      | inr past ↦ subst IsAtLineEnd (sym (drop_all n text past)) tt
    ]

line_end_there : (text : List ℕ) (n : ℕ) → IsAtLineEnd (drop n text) → n < length text → is_line_end (get_or text n 0) ≡ true
line_end_there text n ends within = subst IsAtLineEnd (drop_more text n 0 within) ends

not_false : (b : Bool) → not b ≡ false → b ≡ true
not_false true is = refl
not_false false is = absurd (true≢false is)

-- a line comment goes on to there
pub line_ends : (text : List ℕ) (n : ℕ) → IsFront LineComment text n → n ≡ line_length text
line_ends text n front =
    let piece : IsLineComment (take n text) = front.matches.is_piece in
    let ends : IsAtLineEnd (drop n text) = front.matches.may_stand in
    let goes_on : AllPass is_on_line (take n text) =
    subst (AllPass is_on_line) (sym piece.parts) (
    All-cons (λ byte. is_on_line byte ≡ true) 47 (47 ∷ piece.body) refl (All-cons (λ byte. is_on_line byte ≡ true) 47 piece.body refl piece.one_line)
    ) in
    let long : length (take n text) ≡ n = length-take-le n text front.within in
    let before : (k : ℕ) → k < n → is_on_line (get_or text k 0) ≡ true =
    λ k within. ap is_on_line (sym (get_or-take n text k 0 within)) ∙ goes_on k 0 (omega arith) in
    let stops : n < length text → is_on_line (get_or text n 0) ≡ false = λ within. ap not (line_end_there text n ends within) in
    sym (line_length-is text ∙ prefix_len_is is_on_line text n 0 front.within before stops)

-- and what goes on to there is one
line_rest_is_front : (rest : List ℕ) (n : ℕ) → n ≡ prefix_len is_on_line rest → IsReadable (47 ∷ 47 ∷ take n rest) → IsFront LineComment (47 ∷ 47 ∷ rest) (suc (suc n))
line_rest_is_front rest n is readable =
    let body : List ℕ = take n rest in
    let piece : List ℕ = 47 ∷ 47 ∷ body in
    let within : n ≤ length rest = omega (arith, prefix_len-le-length is_on_line rest) in
    let long : length body ≡ n = length-take-le n rest within in
    let one_line : AllPass is_on_line body =
    All-from_get_or (λ byte. is_on_line byte ≡ true) body 0 (λ k before.
    ap is_on_line (get_or-take n rest k 0 (omega arith)) ∙ prefix_len_passes is_on_line rest k 0 (omega arith)) in
    let stops : n < length rest → is_line_end (get_or rest n 0) ≡ true =
    λ more. not_false (is_line_end (get_or rest n 0)) (ap (λ k. is_on_line (get_or rest k 0)) is ∙ prefix_len_stops is_on_line rest 0 (omega arith)) in
    let is_line : IsLineComment piece = record {
      body = body;
      parts = refl;
      one_line = one_line;
      is_utf8 = readable.is_utf8;
      escapes = readable.escapes;
    } in
    let parts : 47 ∷ 47 ∷ rest ≡ piece ++ drop n rest = ap (λ bytes. 47 ∷ 47 ∷ bytes) (sym (take-append-drop n rest)) in
    front_is LineComment (47 ∷ 47 ∷ rest) piece (drop n rest) (suc (suc n)) parts (ap (λ k. suc (suc k)) long) is_line (at_line_end rest n stops)

pub line_is_front : (text rest : List ℕ) (n : ℕ) → text ≡ 47 ∷ 47 ∷ rest → n ≡ line_length text → IsReadable (take n text) → IsFront LineComment text n
line_is_front text rest n begins is readable =
    let m : ℕ = prefix_len is_on_line rest in
    let whole : n ≡ prefix_len is_on_line (47 ∷ 47 ∷ rest) = is ∙ line_length-is text ∙ ap (prefix_len is_on_line) begins in
    let long : n ≡ suc (suc m) = omega arith in
    let shown : take n text ≡ 47 ∷ 47 ∷ take m rest = ap (λ k. take k text) long ∙ ap (take (suc (suc m))) begins in
    let front : IsFront LineComment (47 ∷ 47 ∷ rest) (suc (suc m)) = line_rest_is_front rest m refl (subst IsReadable shown readable) in
    subst (IsFront LineComment text) (sym long) (subst (λ bytes. IsFront LineComment bytes (suc (suc m))) (sym begins) front)
