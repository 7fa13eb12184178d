-- A word at the front of a text, letter by letter.
use Rattle.std.proofs.Common.{◌≡◌, ℕ, ◌-◌, ◌≤◌, true, ◌||◌, ◌==◌, List, [], ◌∷◌, ◌++◌, Some, None, All, length, take, drop, sym, ap, ◌∙◌, subst, arith, append_assoc, length-append, lit<, ⊎_elim, length-take-le}
use Rattle.std.specs.Char.{encode_utf8, IsScalar}
use Rattle.std.specs.List.{AllPass}
use Rattle.std.specs.Str.{encode_utf8_all}
use Rattle.std.proofs.lemmas.Bool.{or_left, or_right, or_cases}
use Rattle.std.proofs.lemmas.Bool.Decides.{nat_tests}
use Rattle.std.proofs.lemmas.List.{take_at, take-append-drop, append-nil}
use Rattle.std.proofs.lemmas.List.Elements.{All-nil, All-cons, All-head, All-tail, All-push}
use Rattle.std.proofs.lemmas.Str.{encodes-append, encode_same}
use Rattle.unicode_ident.specs.Ident.{is_xid_start, is_xid_continue}
use Rattle.unicode_ident.proofs.IdentLemmas.{is_xid_start-is_xid_continue, is_xid_continue-ascii}
use Rattle.rf_jtree.specs.Identifiers.{is_letter, is_letter_or_digit, BeginsWithLetter, IsWord}
use Rattle.rf_jlex.specs.Fronts.{GivesWord}
use Rattle.rf_jlex.specs.Letters.{BeginsWithCharacter, BeginsWithPassing}

xid_continue_underscore : is_xid_continue 95 ≡ true
xid_continue_underscore = is_xid_continue-ascii 95 (lit< tt)

-- a letter is a letter or digit
pub letter_goes_on : (character : ℕ) → is_letter character ≡ true → is_letter_or_digit character ≡ true
letter_goes_on character letter =
    ⊎_elim
    (λ starts. or_left _ _ (is_xid_start-is_xid_continue character starts))
    (λ other. ⊎_elim
    (λ underscore. let is : character ≡ 95 = grind (arith, nat_tests) in or_left _ _ (ap is_xid_continue is ∙ xid_continue_underscore))
    (λ dollar. or_right _ _ dollar)
    (or_cases (character == 95) (character == 36) other))
    (or_cases (is_xid_start character) ((character == 95) || (character == 36)) letter)

-- the text begins with a word, and goes on with the rest
pub record BeginsWithWord (text rest : List ℕ) : Type 0 where
  pub word : List ℕ
  pub is_word : IsWord word
  pub parts : text ≡ word ++ rest

-- a letter is a word
pub letter_is_word : (text rest : List ℕ) → BeginsWithPassing is_letter text rest → BeginsWithWord text rest
letter_is_word text rest letter =
    let character = letter.character in
    let word : IsWord (encode_utf8 character) = record {
      characters = character ∷ [];
      parts = sym (append-nil (encode_utf8 character));
      scalars = All-cons IsScalar character [] letter.begins.scalar (All-nil IsScalar);
      begins = letter.passes;
      goes_on = All-cons (λ c. is_letter_or_digit c ≡ true) character [] (letter_goes_on character letter.passes) (All-nil (λ c. is_letter_or_digit c ≡ true));
    } in
    record { word = encode_utf8 character; is_word = word; parts = letter.begins.parts }

begins_still : (characters : List ℕ) (character : ℕ) → BeginsWithLetter characters → BeginsWithLetter (characters ++ character ∷ [])
begins_still [] character begins = absurd begins
begins_still (first ∷ characters) character begins = begins

-- and one more letter or digit makes a longer word
pub longer_word : (text rest more : List ℕ) → BeginsWithWord text rest → BeginsWithPassing is_letter_or_digit rest more → BeginsWithWord text more
longer_word text rest more front letter =
    let character = letter.character in
    let old = front.is_word in
    let spelled : front.word ++ encode_utf8 character ≡ encode_utf8_all (old.characters ++ character ∷ []) =
    ap (λ bytes. bytes ++ encode_utf8 character) old.parts
    ∙ ap (λ bytes. encode_utf8_all old.characters ++ bytes) (sym (append-nil (encode_utf8 character)))
    ∙ sym (encodes-append old.characters (character ∷ [])) in
    let word : IsWord (front.word ++ encode_utf8 character) = record {
      characters = old.characters ++ character ∷ [];
      parts = spelled;
      scalars = All-push IsScalar old.characters character old.scalars letter.begins.scalar;
      begins = begins_still old.characters character old.begins;
      goes_on = All-push (λ c. is_letter_or_digit c ≡ true) old.characters character old.goes_on letter.passes;
    } in
    record {
      word = front.word ++ encode_utf8 character;
      is_word = word;
      parts = front.parts ∙ ap (λ bytes. front.word ++ bytes) letter.begins.parts ∙ sym (append_assoc front.word (encode_utf8 character) more);
    }

-- letters and digits are no longer than those that end where no letter or digit goes on
no_longer : (characters others rest more : List ℕ) → encode_utf8_all characters ++ rest ≡ encode_utf8_all others ++ more
    → All IsScalar others → AllPass is_letter_or_digit others → ((after : List ℕ) → BeginsWithPassing is_letter_or_digit rest after → ⊥)
    → length (encode_utf8_all others) ≤ length (encode_utf8_all characters)
no_longer characters [] rest more same scalars passes ends = omega arith
no_longer [] (other ∷ others) rest more same scalars passes ends =
    let after = encode_utf8_all others ++ more in
    let begins : BeginsWithCharacter rest other after = record {
      scalar = All-head IsScalar other others scalars;
      parts = same ∙ append_assoc (encode_utf8 other) (encode_utf8_all others) more;
    } in
    absurd (ends after (record { character = other; begins = begins; passes = All-head (λ c. is_letter_or_digit c ≡ true) other others passes }))
no_longer (character ∷ characters) (other ∷ others) rest more same scalars passes ends =
    let heads = encode_same character other (encode_utf8_all characters ++ rest) (encode_utf8_all others ++ more)
    (sym (append_assoc (encode_utf8 character) (encode_utf8_all characters) rest) ∙ same ∙ append_assoc (encode_utf8 other) (encode_utf8_all others) more) in
    let tails = no_longer characters others rest more heads.1 (All-tail IsScalar other others scalars) (All-tail (λ c. is_letter_or_digit c ≡ true) other others passes) ends in
    omega (arith, tails, ap (λ c. length (encode_utf8 c)) heads.0, length-append (encode_utf8 character) (encode_utf8_all characters), length-append (encode_utf8 other) (encode_utf8_all others))

-- where no letter or digit goes on, the word is the longest
pub gives_word : (text rest : List ℕ) → BeginsWithWord text rest → ((after : List ℕ) → BeginsWithPassing is_letter_or_digit rest after → ⊥) → GivesWord text (Some (length text - length rest))
gives_word text rest front ends =
    let long = ap length front.parts ∙ length-append front.word rest in
    let size : length front.word ≡ length text - length rest = omega (arith, long) in
    let front_is : take (length text - length rest) text ≡ front.word =
    ap (take (length text - length rest)) front.parts ∙ take_at front.word rest (length text - length rest) size in (
      omega (arith, size, long),
      subst IsWord (sym front_is) front.is_word,
      λ other within word.
          let longest = no_longer front.is_word.characters word.characters rest (drop other text)
          (ap (λ bytes. bytes ++ rest) (sym front.is_word.parts) ∙ sym front.parts ∙ sym (take-append-drop other text) ∙ ap (λ bytes. bytes ++ drop other text) word.parts)
          word.scalars word.goes_on ends in
          omega (arith, longest, ap length front.is_word.parts, ap length word.parts, length-take-le other text within, size),
    )

-- a text that begins with no letter begins with no word
word_letter : (text : List ℕ) (characters rest : List ℕ) → text ≡ encode_utf8_all characters ++ rest → All IsScalar characters → BeginsWithLetter characters → ((after : List ℕ) → BeginsWithPassing is_letter text after → ⊥) → ⊥
word_letter text [] rest parts scalars begins none = begins
word_letter text (character ∷ characters) rest parts scalars begins none =
    let after = encode_utf8_all characters ++ rest in
    let first : BeginsWithCharacter text character after = record {
      scalar = All-head IsScalar character characters scalars;
      parts = parts ∙ append_assoc (encode_utf8 character) (encode_utf8_all characters) rest;
    } in
    none after (record { character = character; begins = first; passes = begins })

pub gives_no_word : (text : List ℕ) → ((after : List ℕ) → BeginsWithPassing is_letter text after → ⊥) → GivesWord text None
gives_no_word text none n within word =
    word_letter text word.characters (drop n text) (sym (take-append-drop n text) ∙ ap (λ bytes. bytes ++ drop n text) word.parts) word.scalars word.begins none
