-- What stands between the quotes of a character literal.
use Rattle.std.proofs.Common.{◌≡◌, ℕ, ◌+◌, ◌<◌, ◌≤◌, List, ◌++◌, ⊎_elim, inl, inr, length, take, drop, get_or, Option, Some, None, Contains, refl, sym, ap, ◌∙◌, subst, arith, lit<, add-zero, length-drop}
use Rattle.std.specs.Char.{encode_utf8}
use Rattle.std.specs.List.{AllPass}
use Rattle.std.proofs.lemmas.Bool.{false≢true, cases_order}
use Rattle.std.proofs.lemmas.List.{take-append-drop, get_or-drop, get_or-take, length-take-le}
use Rattle.std.proofs.lemmas.Str.{char_from_byte}
use Rattle.bstr.specs.Utf8.{decoded, good}
use Rattle.bstr.proofs.lemmas.EncodeLemmas.{decoded-encode}
use Rattle.bstr.proofs.lemmas.SoundLemmas.{SpellsChar-decoded}
use Rattle.rf_jtree.specs.Digits.{is_octal_digit}
use Rattle.rf_jtree.specs.Escapes.{IsEscape}
use Rattle.rf_jtree.specs.Quoted.{REFUSED_IN_LITERALS, NOT_IN_CHARACTERS, IsCharacterUnit}
use Rattle.rf_jtree.specs.declared.tokens.TokKind.TheVariants as kind
use Rattle.rf_jtree.specs.Tokens.{Token}
use Rattle.rf_jlex.specs.Fronts.{IsFront, HasNoFront, GivesOnly}
use Rattle.rf_jlex.specs.EscapeFronts.{IsFrontOf, HasNoFrontOf, GivesOnlyFront, GivesLongestFront}
use Rattle.rf_jlex.specs.QuotedFronts.{IsPlain, IsCharacterBody, GivesCharacterBody}
use Rattle.rf_jlex.proofs.FrontOfLemmas.{front_of}
use Rattle.rf_jlex.proofs.QuotedLemmas.{QuotedAt, quoted_at, closed_within, whole_of, quoted_front}
use Rattle.rf_jlex.proofs.EscapeLemmas.{sorted}

-- a character at the front of a text is what the text decodes to
pub record DecodesTo (text : List ℕ) (n : ℕ) : Type 0 where
  pub character : ℕ
  pub plain : IsPlain character
  pub char : (decoded text).char ≡ Some character
  pub size : (decoded text).size ≡ n
  pub parts : text ≡ encode_utf8 character ++ drop n text

pub decodes_to : (text : List ℕ) (n : ℕ) → IsFrontOf IsCharacterUnit text n → DecodesTo text n
decodes_to text n front =
    let unit = front.is_such in
    let c = unit.character in
    let whole : text ≡ encode_utf8 c ++ drop n text = sym (take-append-drop n text) ∙ ap (λ xs. xs ++ drop n text) unit.parts in
    let reads : decoded text ≡ good c (length (encode_utf8 c)) = ap decoded whole ∙ decoded-encode c (drop n text) unit.is_scalar in
    let width : length (encode_utf8 c) ≡ n = ap length (sym unit.parts) ∙ length-take-le n text front.within in
    record {
      character = c;
      plain = record { plain = unit.plain; small = unit.small };
      char = ap (λ d. d.char) reads;
      size = ap (λ d. d.size) reads ∙ width;
      parts = whole;
    }

pub unit_decoded : (text : List ℕ) (c size : ℕ) → (decoded text).char ≡ Some c → (decoded text).size ≡ size → IsPlain c → IsFrontOf IsCharacterUnit text size
unit_decoded text c size char is_size plain =
    let spells = SpellsChar-decoded text c char in
    let unit : IsCharacterUnit (encode_utf8 c) = record { character = c; is_scalar = spells.scalar; small = plain.small; plain = plain.plain; parts = refl } in
    front_of IsCharacterUnit text (encode_utf8 c) (drop (decoded text).size text) size spells.bytes unit (spells.width ∙ is_size)

pub no_unit_undecoded : (text : List ℕ) → (decoded text).char ≡ None → HasNoFrontOf IsCharacterUnit text
no_unit_undecoded text char n front = let d = decodes_to text n front in let found = d.char in cc

pub no_unit_other : (text : List ℕ) (c : ℕ) → (decoded text).char ≡ Some c → ¬ IsPlain c → HasNoFrontOf IsCharacterUnit text
no_unit_other text c char not_plain n front =
    let d = decodes_to text n front in
    let found = d.char in
    let same : d.character ≡ c = cc in
    not_plain (subst IsPlain same d.plain)

pub only_unit : (text : List ℕ) (c size : ℕ) → (decoded text).char ≡ Some c → (decoded text).size ≡ size → IsPlain c → GivesOnlyFront IsCharacterUnit text (Some size)
only_unit text c size char is_size plain = (
  unit_decoded text c size char is_size plain,
  λ other front. sym (decodes_to text other front).size ∙ is_size,
)

pub gives_no_unit : (text : List ℕ) (result : Option ℕ) → result ≡ None → HasNoFrontOf IsCharacterUnit text → GivesOnlyFront IsCharacterUnit text result
gives_no_unit text result is none = subst (GivesOnlyFront IsCharacterUnit text) (sym is) none

-- behind `\` there is no character
unit_no_backslash : (text : List ℕ) (n : ℕ) → 0 < length text → get_or text 0 0 ≡ 92 → IsFrontOf IsCharacterUnit text n → ⊥
unit_no_backslash text n some first front =
    let d = decodes_to text n front in
    let is : d.character ≡ get_or text 0 0 = char_from_byte text (drop n text) d.character d.parts (omega arith) some in
    let has : Contains NOT_IN_CHARACTERS 92 = (1, lit< tt, refl) in
    d.plain.plain (subst (λ c. Contains NOT_IN_CHARACTERS c) (sym (is ∙ first)) has)

-- a digit that follows an escape is not the quote
quote_no_digit : (text : List ℕ) (n other : ℕ) → n ≤ length text → AllPass is_octal_digit (drop other (take n text)) → get_or text other 0 ≡ 39 → other < n → ⊥
quote_no_digit text n other within digits quote less =
    let left = drop other (take n text) in
    let some : 0 < length left = omega (arith, length-drop other (take n text), length-take-le n text within) in
    let first : get_or left 0 0 ≡ 39 = get_or-drop other (take n text) 0 0 ∙ ap (λ k. get_or (take n text) k 0) (add-zero other) ∙ get_or-take n text other 0 less ∙ quote in
    false≢true (sym (ap is_octal_digit first) ∙ digits 0 0 some)

pub escape_body : (text : List ℕ) (result : Option ℕ) → 0 < length text → get_or text 0 0 ≡ 92 → GivesLongestFront (IsEscape REFUSED_IN_LITERALS) text result → GivesCharacterBody text result
escape_body text None some first gives = λ n front.
    ⊎_elim
    (λ unit. unit_no_backslash text n some first (record { within = front.front.within; is_such = unit }))
    (λ escape. gives n (record { within = front.front.within; is_such = escape }))
    front.front.is_such
escape_body text (Some n) some first gives = (
  record { within = gives.front.within; is_such = inr gives.front.is_such },
  λ other front.
      let here : IsFrontOf (IsEscape REFUSED_IN_LITERALS) text other = record {
        within = front.front.within;
        is_such = ⊎_elim (λ unit. absurd (unit_no_backslash text other some first (record { within = front.front.within; is_such = unit }))) (λ escape. escape) front.front.is_such;
      } in
      ⊎_elim (λ same. same)
      (⊎_elim
      (λ less. absurd (quote_no_digit text n other gives.front.within (gives.digits other here) front.closed less))
      (λ more. absurd (omega (arith, gives.longest other here, more))))
      (cases_order other n),
)

-- a body that begins with another byte is no escape
pub plain_body : (text : List ℕ) (result : Option ℕ) → (0 < length text → get_or text 0 0 ≡ 92 → ⊥) → GivesOnlyFront IsCharacterUnit text result → GivesCharacterBody text result
plain_body text None other gives = λ n front.
    ⊎_elim
    (λ unit. gives n (record { within = front.front.within; is_such = unit }))
    (λ escape.
    let s = sorted REFUSED_IN_LITERALS text n (record { within = front.front.within; is_such = escape }) in
    other (omega (arith, s.long)) s.first)
    front.front.is_such
plain_body text (Some n) other gives = (
  record { within = gives.0.within; is_such = inl gives.0.is_such },
  λ end front.
      ⊎_elim
      (λ unit. gives.1 end (record { within = front.front.within; is_such = unit }))
      (λ escape.
      let s = sorted REFUSED_IN_LITERALS text end (record { within = front.front.within; is_such = escape }) in
      absurd (other (omega (arith, s.long)) s.first))
      front.front.is_such,
)

-- a character literal at the front of a text
pub character_at : (text : List ℕ) (m : ℕ) → IsFront (Token kind.Char) text m → QuotedAt IsCharacterBody 39 text m
character_at text m front =
    let literal = front.matches.is_piece in
    quoted_at IsCharacterBody 39 text m literal.unit front.within literal.parts literal.is_unit

character_front : (text : List ℕ) (m : ℕ) (at : QuotedAt IsCharacterBody 39 text m) → 0 < length text → at.n < length (drop 1 text) → IsFront (Token kind.Char) text m
character_front text m at some long =
    let whole = whole_of IsCharacterBody 39 text m at some long in
    quoted_front kind.Char 39 text at.n m (λ is. absurd (omega (arith, is))) at.first whole
    (record { unit = take at.n (drop 1 text); parts = whole.parts; is_unit = at.body.front.is_such })

pub only_character : (text : List ℕ) (n : ℕ) → 0 < length text → get_or text 0 0 ≡ 39 → GivesCharacterBody (drop 1 text) (Some n) → n < length (drop 1 text) → get_or (drop 1 text) n 0 ≡ 39 → GivesOnly (Token kind.Char) text (Some (n + 2))
only_character text n some first gives long quote = (
  character_front text (n + 2) (record { n = n; first = first; body = record { front = gives.0; closed = quote }; size = refl }) some long,
  λ other front.
      let at = character_at text other front in
      omega (arith, at.size, gives.1 at.n at.body),
)

pub no_character : (text : List ℕ) → GivesCharacterBody (drop 1 text) None → HasNoFront (Token kind.Char) text
no_character text none m front = let at = character_at text m front in none at.n at.body

pub no_quote : (text : List ℕ) (n : ℕ) → GivesCharacterBody (drop 1 text) (Some n) → ¬ ((n < length (drop 1 text)) × (get_or (drop 1 text) n 0 ≡ 39)) → HasNoFront (Token kind.Char) text
no_quote text n gives not_closed m front =
    let at = character_at text m front in
    let same : at.n ≡ n = gives.1 at.n at.body in
    let closed : get_or (drop 1 text) n 0 ≡ 39 = ap (λ k. get_or (drop 1 text) k 0) (sym same) ∙ at.body.closed in
    not_closed (closed_within (drop 1 text) n 39 (lit< tt) closed, closed)

pub gives_no_character : (text : List ℕ) (result : Option ℕ) → result ≡ None → HasNoFront (Token kind.Char) text → GivesOnly (Token kind.Char) text result
gives_no_character text result is none = subst (GivesOnly (Token kind.Char) text) (sym is) none
