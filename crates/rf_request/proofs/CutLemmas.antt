-- The first line of a text, and the first word of a line.
use Rattle.std.proofs.Common.{◌≡◌, ◌∙◌, ap, sym, refl, subst, ℕ, suc, ◌+◌, ◌-◌, ◌<◌, ◌≤◌, ◌==◌, Bool, true, false, not, cond, true≢false, List, [], ◌∷◌, ◌++◌, length, take, drop, filter, arith, append-nil}
use Rattle.std.specs.List.{slice_split, onto_first, prefix_len}
use Rattle.std.specs.Str.Lines.{lines, lines_of_parts, strip_carriage_return}
use Rattle.std.proofs.lemmas.Bool.Decides.{Decides-eqb}
use Rattle.std.proofs.lemmas.List.{take-append-drop, take_all}
use Rattle.rf_request.specs.Words.{is_in_line, is_blank, is_in_word, is_word, words_of}

drop_more : (n x : ℕ) (xs : List ℕ) → drop (1 + n) (x ∷ xs) ≡ drop n xs
drop_more n x xs = let e : 1 + n ≡ suc n = omega arith in ap (λ k. drop k (x ∷ xs)) e

take_more : (n x : ℕ) (xs : List ℕ) → take (1 + n) (x ∷ xs) ≡ x ∷ take n xs
take_more n x xs = let e : 1 + n ≡ suc n = omega arith in ap (λ k. take k (x ∷ xs)) e

not_so : (b : Bool) → (b ≡ true → ⊥) → b ≡ false
not_so true never = absurd (never refl)
not_so false never = refl

-- behind the longest front that passes a test stands what doesn't pass it
starts : (q : ℕ → Bool) (text : List ℕ) (byte : ℕ) (rest : List ℕ) → drop (prefix_len q text) text ≡ byte ∷ rest → q byte ≡ false
starts q [] byte rest parts = cc
starts q (first ∷ bytes) byte rest parts = by (q first) refl (starts q bytes byte rest) parts
  where
    n : ℕ
    n = prefix_len q bytes

    by : (b : Bool) → q first ≡ b → (drop n bytes ≡ byte ∷ rest → q byte ≡ false) →
        drop (cond b (1 + n) 0) (first ∷ bytes) ≡ byte ∷ rest → q byte ≡ false
    by true e more parts = more (sym (drop_more n first bytes) ∙ parts)
    by false e more parts = let same : first ≡ byte = cc in ap q (sym same) ∙ e

module _ (p : ℕ → Bool) where
  abbrev passes : ℕ → Bool
  passes byte = not (p byte)

  abbrev pub behind : List ℕ → List (List ℕ)
  behind [] = []
  behind (byte ∷ bytes) = slice_split p bytes

  -- the first part goes on as far as no byte passes, and the byte behind it is left out
  pub parts_at : (text : List ℕ) → slice_split p text ≡ take (prefix_len passes text) text ∷ behind (drop (prefix_len passes text) text)
  parts_at [] = refl
  parts_at (byte ∷ bytes) = by (p byte) (parts_at bytes)
    where
      n : ℕ
      n = prefix_len passes bytes

      by : (b : Bool) → slice_split p bytes ≡ take n bytes ∷ behind (drop n bytes) →
          cond b ([] ∷ slice_split p bytes) (onto_first byte (slice_split p bytes))
          ≡ take (cond (not b) (1 + n) 0) (byte ∷ bytes) ∷ behind (drop (cond (not b) (1 + n) 0) (byte ∷ bytes))
      by true rest = refl
      by false rest =
          ap (onto_first byte) rest
          ∙ ap (λ (t : List ℕ). t ∷ behind (drop n bytes)) (sym (take_more n byte bytes))
          ∙ ap (λ (d : List ℕ). take (1 + n) (byte ∷ bytes) ∷ behind d) (sym (drop_more n byte bytes))

abbrev line_feed : ℕ → Bool
line_feed byte = byte == 10

-- what stands behind the first of several bytes
pub nothing_left : (text : List ℕ) → length text < 1 → text ≡ []
nothing_left [] none = refl
nothing_left (byte ∷ bytes) none = absurd (omega (arith, none))

pub empty_is : (text : List ℕ) (r : Bool) → r ≡ (length text == 0) → r ≡ true → text ≡ []
empty_is text r is holds = let none : length text ≡ 0 = (Decides-eqb (length text) 0).0 (sym is ∙ holds) in nothing_left text (omega arith)

pub some_is : (text : List ℕ) (r : Bool) → r ≡ (length text == 0) → r ≡ false → text ≡ [] → ⊥
some_is text r is fails none = true≢false (sym (is ∙ (Decides-eqb (length text) 0).1 (ap length none)) ∙ fails)

rest_is : (byte : ℕ) (bytes : List ℕ) → take (length (byte ∷ bytes) - 1) (drop 1 (byte ∷ bytes)) ≡ bytes
rest_is byte bytes =
    let e : length (byte ∷ bytes) - 1 ≡ length bytes = omega arith in
    ap (λ n. take n bytes) e ∙ take_all (length bytes) bytes (omega arith)

pub behind_none : (p : ℕ → Bool) (text : List ℕ) → length text < 1 → behind p text ≡ []
behind_none p text none = ap (behind p) (nothing_left text none)

pub behind_some : (p : ℕ → Bool) (text : List ℕ) → 1 ≤ length text → behind p text ≡ slice_split p (take (length text - 1) (drop 1 text))
behind_some p [] some = absurd (omega (arith, some))
behind_some p (byte ∷ bytes) some = ap (slice_split p) (sym (rest_is byte bytes))

-- a last line that doesn't end
pub last_line : (text line rest : List ℕ) → 0 < length text → line ≡ take (prefix_len is_in_line text) text →
    rest ≡ drop (prefix_len is_in_line text) text → rest ≡ [] → lines text ≡ line ∷ lines rest
last_line text line rest some is behind_is none =
    let parts : slice_split line_feed text ≡ line ∷ [] = parts_at line_feed text ∙ ap (λ (d : List ℕ). take (prefix_len is_in_line text) text ∷ behind line_feed d) (sym behind_is ∙ none) ∙ ap (λ (l : List ℕ). l ∷ []) (sym is) in
    let whole : line ≡ text = by_append (sym (take-append-drop (prefix_len is_in_line text) text)) in
    ap lines_of_parts parts ∙ full line (subst (λ (l : List ℕ). 0 < length l) (sym whole) some) ∙ ap (λ (r : List ℕ). line ∷ lines r) (sym none)
  where
    nothing : (a b : List ℕ) → b ≡ [] → a ++ b ≡ a
    nothing a b e = ap (λ (x : List ℕ). a ++ x) e ∙ simp append-nil

    by_append : text ≡ take (prefix_len is_in_line text) text ++ drop (prefix_len is_in_line text) text → line ≡ text
    by_append e = is ∙ sym (e ∙ nothing _ _ (sym behind_is ∙ none))

    full : (l : List ℕ) → 0 < length l → lines_of_parts (l ∷ []) ≡ l ∷ []
    full l some =
        ap (λ (b : Bool). cond b [] (l ∷ [])) (not_so (length l == 0) (λ yes. let none : length l ≡ 0 = (Decides-eqb (length l) 0).0 yes in omega (arith, some)))

-- a line that ends
next_line : (text line rest : List ℕ) (byte : ℕ) → line ≡ take (prefix_len is_in_line text) text →
    byte ∷ rest ≡ drop (prefix_len is_in_line text) text → lines text ≡ strip_carriage_return line ∷ lines rest
next_line text line rest byte is behind_is =
    let parts : slice_split line_feed text ≡ line ∷ slice_split line_feed rest = parts_at line_feed text ∙ ap (λ (d : List ℕ). take (prefix_len is_in_line text) text ∷ behind line_feed d) (sym behind_is) ∙ ap (λ (l : List ℕ). l ∷ slice_split line_feed rest) (sym is) in
    ap lines_of_parts parts ∙ by (slice_split line_feed rest) (parts_at line_feed rest)
  where
    by : (parts : List (List ℕ)) {first : List ℕ} {more : List (List ℕ)} → parts ≡ first ∷ more → lines_of_parts (line ∷ parts) ≡ strip_carriage_return line ∷ lines_of_parts parts
    by [] e = cc
    by (part ∷ parts) e = refl

pub ended_line : (text line rest : List ℕ) → 1 ≤ length rest → line ≡ take (prefix_len is_in_line text) text →
    rest ≡ drop (prefix_len is_in_line text) text → lines text ≡ strip_carriage_return line ∷ lines (take (length rest - 1) (drop 1 rest))
ended_line text line [] some is behind_is = absurd (omega (arith, some))
ended_line text line (byte ∷ bytes) some is behind_is =
    next_line text line bytes byte is behind_is ∙ ap (λ (r : List ℕ). strip_carriage_return line ∷ lines r) (sym (rest_is byte bytes))

-- blanks in front part nothing
behind_blanks : (line : List ℕ) → words_of line ≡ words_of (drop (prefix_len is_blank line) line)
unfolding words_of
behind_blanks [] = refl
behind_blanks (byte ∷ bytes) = by (is_blank byte) refl (behind_blanks bytes)
  where
    n : ℕ
    n = prefix_len is_blank bytes

    by : (b : Bool) → is_blank byte ≡ b → words_of bytes ≡ words_of (drop n bytes) → words_of (byte ∷ bytes) ≡ words_of (drop (cond b (1 + n) 0) (byte ∷ bytes))
    by true e rest = ap (λ b. filter is_word (cond b ([] ∷ slice_split is_blank bytes) (onto_first byte (slice_split is_blank bytes)))) e ∙ rest ∙ ap words_of (sym (drop_more n byte bytes))
    by false e rest = refl

-- and so does the blank behind a word
behind_word : (rest : List ℕ) → ((byte : ℕ) (bytes : List ℕ) → rest ≡ byte ∷ bytes → is_blank byte ≡ true) → filter is_word (behind is_blank rest) ≡ words_of rest
unfolding words_of
behind_word [] begins = refl
behind_word (byte ∷ bytes) begins =
    sym (ap (λ b. filter is_word (cond b ([] ∷ slice_split is_blank bytes) (onto_first byte (slice_split is_blank bytes)))) (begins byte bytes refl))

pub first_word_some : (line text word rest : List ℕ) → text ≡ drop (prefix_len is_blank line) line → word ≡ take (prefix_len is_in_word text) text →
    rest ≡ drop (prefix_len is_in_word text) text → (word ≡ [] → ⊥) → words_of line ≡ word ∷ words_of rest
unfolding words_of
first_word_some line text word rest text_is word_is rest_is some =
    behind_blanks line ∙ ap words_of (sym text_is) ∙ ap (filter is_word) (parts_at is_blank text)
    ∙ ap (λ (w : List ℕ). filter is_word (w ∷ behind is_blank (drop (prefix_len is_in_word text) text))) (sym word_is)
    ∙ ap (λ (r : List ℕ). filter is_word (word ∷ behind is_blank r)) (sym rest_is)
    ∙ by word some ∙ ap (λ (ws : List (List ℕ)). word ∷ ws) (behind_word rest blank)
  where
    by : (w : List ℕ) → (w ≡ [] → ⊥) → filter is_word (w ∷ behind is_blank rest) ≡ w ∷ filter is_word (behind is_blank rest)
    by [] some = absurd (some refl)
    by (byte ∷ bytes) some = refl

    passes_not : (b : Bool) → not b ≡ false → b ≡ true
    passes_not true e = refl
    passes_not false e = absurd (true≢false e)

    blank : (byte : ℕ) (bytes : List ℕ) → rest ≡ byte ∷ bytes → is_blank byte ≡ true
    blank byte bytes e = passes_not (is_blank byte) (starts is_in_word text byte bytes (sym rest_is ∙ e))

pub first_word_none : (line text word : List ℕ) → text ≡ drop (prefix_len is_blank line) line → word ≡ take (prefix_len is_in_word text) text →
    word ≡ [] → words_of line ≡ []
unfolding words_of
first_word_none line text word text_is word_is none =
    behind_blanks line ∙ ap words_of (sym text_is) ∙ by text (sym word_is ∙ none) (λ byte bytes e. starts is_blank line byte bytes (sym text_is ∙ e))
  where
    by : (t : List ℕ) → take (prefix_len is_in_word t) t ≡ [] → ((byte : ℕ) (bytes : List ℕ) → t ≡ byte ∷ bytes → is_blank byte ≡ false) → words_of t ≡ []
    by [] e begins = refl
    by (byte ∷ bytes) e begins = absurd (cons (is_blank byte) (begins byte bytes refl) e)
      where
        cons : (b : Bool) → b ≡ false → take (cond (not b) (1 + prefix_len is_in_word bytes) 0) (byte ∷ bytes) ≡ [] → ⊥
        cons true is e = true≢false is
        cons false is e =
            let no : length (byte ∷ take (prefix_len is_in_word bytes) bytes) ≡ 0 = ap length (sym (take_more (prefix_len is_in_word bytes) byte bytes) ∙ e) in
            omega (arith, no)
