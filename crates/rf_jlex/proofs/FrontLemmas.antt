-- What the class of a text's first byte tells of the pieces at its front.
use Rattle.std.proofs.Common.{◌≡◌, ℕ, zero, suc, ◌≤◌, false, List, [], ◌∷◌, ◌++◌, ◌⊎◌, inl, inr, ⊎_elim, length, take, drop, sym, refl, ap, ◌∙◌, subst, subst₂, arith, codes, length-append, length-take-le, take-append-drop, take_at, drop_at}
use Rattle.rf_jtree.specs.declared.tokens.TokKind.{TokKind}
use Rattle.rf_jtree.specs.declared.tokens.TokKind.TheVariants as kind
use Rattle.rf_jtree.specs.declared.operators.Op.{Op}
use Rattle.rf_jtree.specs.Identifiers.{IsWord, word_kind}
use Rattle.rf_jtree.specs.Tokens as tokens
use Rattle.rf_jtree.specs.Tokens.{Matches, IsLongest, HasNoPiece, begins_comment}
use Rattle.rf_jlex.specs.declared.classes.Class.{Class}
use Rattle.rf_jlex.specs.declared.classes.Class.TheVariants.{End, WhiteSpace, Slash, Digit, Point, Quote, DoubleQuote, Letter, Other}
use Rattle.rf_jlex.specs.Classes.{class_at}
use Rattle.rf_jlex.specs.Fronts.{IsFront, IsNumberKind, int, long, float, double}
use Rattle.rf_jlex.proofs.ClassLemmas.{is_class, class_at-word, class_at-white, class_at-line_comment, class_at-block_comment, class_at-character, class_at-string, class_at-digit, BeginsNumber, BeginsNumber-integer, BeginsNumber-long, BeginsNumber-floating, BeginsOperator, BeginsOperator-operator}

-- between a front by its length and a match by its parts
pub IsFront-match : (text : List ℕ) (sort : tokens.Sort) (piece rest : List ℕ) → Matches text sort piece rest → IsFront sort text (length piece)
IsFront-match text sort piece rest match =
    let taken : take (length piece) text ≡ piece = ap (take (length piece)) match.parts ∙ take_at piece rest (length piece) refl in
    let dropped : drop (length piece) text ≡ rest = ap (drop (length piece)) match.parts ∙ drop_at piece rest (length piece) refl in
    record {
      within = omega (arith, ap length match.parts, length-append piece rest);
      matches = subst₂ (λ p r. Matches text sort p r) (sym taken) (sym dropped) match;
    }

pub HasNoPiece-fronts : (text : List ℕ) → ((sort : tokens.Sort) (n : ℕ) → IsFront sort text n → ⊥) → HasNoPiece text
HasNoPiece-fronts text none sort piece rest match = none sort (length piece) (IsFront-match text sort piece rest match)

pub IsLongest-fronts : (text : List ℕ) (sort : tokens.Sort) (n : ℕ) → IsFront sort text n → ((other : tokens.Sort) (m : ℕ) → IsFront other text m → m ≤ n)
    → IsLongest text sort (take n text) (drop n text)
IsLongest-fronts text sort n front longest = record {
  matches = front.matches;
  longest = λ other longer more match.
      let below : length longer ≤ n = longest other (length longer) (IsFront-match text other longer more match) in
      let long : length (take n text) ≡ n = length-take-le n text front.within in
      omega arith;
}

-- the text begins with `/` and this byte
abbrev pub OpensWith : ℕ → List ℕ → Type 0
OpensWith byte text = (rest : List ℕ) × (text ≡ 47 ∷ byte ∷ rest)

abbrev pub IsNumberSort : tokens.Sort → Type 0
IsNumberSort sort = (number : TokKind) × IsNumberKind number × (sort ≡ tokens.Token number)

abbrev pub IsOperatorSort : tokens.Sort → Type 0
IsOperatorSort sort = (op : Op) × (sort ≡ tokens.Token (kind.Op op))

-- which sorts a front may have, by the class of the first byte
abbrev pub Fits : Class → List ℕ → tokens.Sort → ℕ → Type 0
Fits End text sort n = ⊥
Fits WhiteSpace text sort n = (sort ≡ tokens.WhiteSpace) × (n ≡ 1)
Fits Slash text sort n =
    ((sort ≡ tokens.LineComment) × OpensWith 47 text) ⊎
    (((sort ≡ tokens.BlockComment) × OpensWith 42 text) ⊎
    (IsOperatorSort sort × (begins_comment text ≡ false)))
Fits Digit text sort n = IsNumberSort sort
Fits Point text sort n = (IsNumberSort sort × (2 ≤ n)) ⊎ (IsOperatorSort sort × (n ≡ 1))
Fits Quote text sort n = sort ≡ tokens.Token kind.Char
Fits DoubleQuote text sort n = sort ≡ tokens.Token kind.Str
Fits Letter text sort n = (sort ≡ tokens.Token (word_kind (take n text))) × IsWord (take n text)
Fits Other text sort n = IsOperatorSort sort

-- the class of a text is that of its front
class_at-take : (n : ℕ) (text : List ℕ) → is_class (class_at (take n text)) End ≡ false → class_at text ≡ class_at (take n text)
class_at-take zero text some = absurd cc
class_at-take (suc n) [] some = absurd cc
class_at-take (suc n) (byte ∷ bytes) some = refl

by_class : (text : List ℕ) (sort : tokens.Sort) (n : ℕ) (class : Class) → class_at (take n text) ≡ class → is_class class End ≡ false → Fits class text sort n → Fits (class_at text) text sort n
by_class text sort n class at some fits =
    subst (λ c. Fits c text sort n) (sym (class_at-take n text (ap (λ c. is_class c End) at ∙ some) ∙ at)) fits

fits_number : (text : List ℕ) (number : TokKind) (n : ℕ) → IsNumberKind number → IsFront (tokens.Token number) text n → BeginsNumber (take n text) → Fits (class_at text) text (tokens.Token number) n
fits_number text number n is front begins = ⊎_elim
    (λ digit. by_class text (tokens.Token number) n Digit (class_at-digit (take n text) digit) refl (number, is, refl))
    (λ point.
    let long : length (take n text) ≡ n = length-take-le n text front.within in
    let two : 2 ≤ length (take n text) = point.1 in
    by_class text (tokens.Token number) n Point point.0 refl (inl ((number, is, refl), omega arith)))
    begins

fits_word : (text : List ℕ) (word : TokKind) (n : ℕ) → IsWord (take n text) × (word_kind (take n text) ≡ word) → Fits (class_at text) text (tokens.Token word) n
fits_word text word n is = by_class text (tokens.Token word) n Letter (class_at-word (take n text) is.0) refl (ap (λ k. tokens.Token k) (sym is.1), is.0)

fits_operator : (text : List ℕ) (op : Op) (n : ℕ) → IsFront (tokens.Token (kind.Op op)) text n → BeginsOperator (take n text) → Fits (class_at text) text (tokens.Token (kind.Op op)) n
fits_operator text op n front begins =
    let sort : tokens.Sort = tokens.Token (kind.Op op) in
    ⊎_elim
    (λ other. by_class text sort n Other other refl (op, refl))
    (λ more. ⊎_elim
    (λ slash. by_class text sort n Slash slash refl (inr (inr ((op, refl), ap begins_comment (sym (take-append-drop n text)) ∙ front.matches.may_stand))))
    (λ point.
    let long : length (take n text) ≡ n = length-take-le n text front.within in
    let one : length (take n text) ≡ 1 = point.1 in
    by_class text sort n Point point.0 refl (inr ((op, refl), omega arith)))
    more)
    begins

opens : (text piece rest : List ℕ) (byte : ℕ) (body : List ℕ) → text ≡ piece ++ rest → piece ≡ 47 ∷ byte ∷ body → OpensWith byte text
opens text piece rest byte body parts front = (body ++ rest, parts ∙ ap (λ p. p ++ rest) front)

pub fits : (text : List ℕ) (sort : tokens.Sort) (n : ℕ) → IsFront sort text n → Fits (class_at text) text sort n
fits text tokens.WhiteSpace n front =
    let is = front.matches.is_piece in
    let long : length (take n text) ≡ n = length-take-le n text front.within in
    let one : length (take n text) ≡ 1 = ap length is.parts in
    by_class text tokens.WhiteSpace n WhiteSpace (class_at-white (take n text) is) refl (refl, omega arith)
fits text tokens.LineComment n front =
    let is = front.matches.is_piece in
    by_class text tokens.LineComment n Slash (class_at-line_comment (take n text) is) refl (inl (refl, opens text (take n text) (drop n text) 47 is.body front.matches.parts is.parts))
fits text tokens.BlockComment n front =
    let is = front.matches.is_piece in
    by_class text tokens.BlockComment n Slash (class_at-block_comment (take n text) is) refl (inr (inl (refl, opens text (take n text) (drop n text) 42 (is.body ++ codes "*/") front.matches.parts is.parts)))
fits text (tokens.Token kind.Ident) n front = fits_word text kind.Ident n front.matches.is_piece
fits text (tokens.Token (kind.Key word)) n front = fits_word text (kind.Key word) n front.matches.is_piece
fits text (tokens.Token kind.Int) n front = fits_number text kind.Int n int front (BeginsNumber-integer (take n text) front.matches.is_piece)
fits text (tokens.Token kind.Long) n front = fits_number text kind.Long n long front (BeginsNumber-long (take n text) front.matches.is_piece)
fits text (tokens.Token kind.Float) n front =
    let is = front.matches.is_piece in
    fits_number text kind.Float n float front (BeginsNumber-floating (is.suffix ∷ []) (take n text) is.floating)
fits text (tokens.Token kind.Double) n front =
    let is = front.matches.is_piece in
    fits_number text kind.Double n double front (BeginsNumber-floating is.suffix (take n text) is.floating)
fits text (tokens.Token kind.Char) n front = by_class text (tokens.Token kind.Char) n Quote (class_at-character (take n text) front.matches.is_piece) refl refl
fits text (tokens.Token kind.Str) n front = by_class text (tokens.Token kind.Str) n DoubleQuote (class_at-string (take n text) front.matches.is_piece) refl refl
fits text (tokens.Token kind.True) n front = fits_word text kind.True n front.matches.is_piece
fits text (tokens.Token kind.False) n front = fits_word text kind.False n front.matches.is_piece
fits text (tokens.Token kind.Null) n front = fits_word text kind.Null n front.matches.is_piece
fits text (tokens.Token (kind.Op op)) n front = fits_operator text op n front (BeginsOperator-operator (take n text) op front.matches.is_piece)

-- which sorts a front may have where the class is known
pub fits_at : (text : List ℕ) (sort : tokens.Sort) (n : ℕ) (class : Class) → class_at text ≡ class → IsFront sort text n → Fits class text sort n
fits_at text sort n class at front = subst (λ c. Fits c text sort n) at (fits text sort n front)
