-- The code that four hexadecimal digits at the front of a text stand for.
use Rattle.std.proofs.Common.{◌≡◌, ℕ, ◌+◌, ◌*◌, ◌<◌, ◌≤◌, Bool, true, false, cond, List, [], ◌∷◌, length, get_or, Some, None, refl, sym, ap, ◌∙◌, arith}
use Rattle.std.specs.List.{AllPass, list_all}
use Rattle.std.proofs.lemmas.Bool.{cond-true, cond-false}
use Rattle.std.proofs.lemmas.List.Elements.{All-nil, All-cons}
use Rattle.std.proofs.lemmas.List.Folds.{list_all_at}
use Rattle.std.proofs.lemmas.List.Sums.{AllPass-from_list_all, list_all-from_AllPass}
use Rattle.std.proofs.lemmas.Option.{cond_some}
use Rattle.rf_jtree.specs.Digits.{is_hex_digit}
use Rattle.rf_jtree.specs.Escapes.{code_of}
use Rattle.rf_jlex.specs.EscapeFronts.{hex_value, hex_code}

-- four digits, their code, and what follows
pub record Coded (text : List ℕ) (code : ℕ) : Type 0 where
  pub a : ℕ
  pub b : ℕ
  pub c : ℕ
  pub d : ℕ
  pub rest : List ℕ
  pub parts : text ≡ a ∷ b ∷ c ∷ d ∷ rest
  pub hex : AllPass is_hex_digit (a ∷ b ∷ c ∷ d ∷ [])
  pub is_code : code ≡ code_of a b c d

pub coded : (text : List ℕ) (code : ℕ) → hex_code text ≡ Some code → Coded text code
coded [] code is = cc
coded (a ∷ []) code is = cc
coded (a ∷ b ∷ []) code is = cc
coded (a ∷ b ∷ c ∷ []) code is = cc
coded (a ∷ b ∷ c ∷ d ∷ rest) code is =
    let both = cond_some (list_all is_hex_digit (a ∷ b ∷ c ∷ d ∷ [])) (code_of a b c d) code is in
    record { a = a; b = b; c = c; d = d; rest = rest; parts = refl; hex = AllPass-from_list_all is_hex_digit (a ∷ b ∷ c ∷ d ∷ []) both.0; is_code = sym both.1 }

pub hex_code-digits : (a b c d : ℕ) (rest : List ℕ) → AllPass is_hex_digit (a ∷ b ∷ c ∷ d ∷ []) → hex_code (a ∷ b ∷ c ∷ d ∷ rest) ≡ Some (code_of a b c d)
hex_code-digits a b c d rest hex = cond-true _ _ _ (list_all-from_AllPass is_hex_digit (a ∷ b ∷ c ∷ d ∷ []) hex)

-- the first four bytes
abbrev four : List ℕ → List ℕ
four text = get_or text 0 0 ∷ get_or text 1 0 ∷ get_or text 2 0 ∷ get_or text 3 0 ∷ []

abbrev code_at : List ℕ → ℕ
code_at text = code_of (get_or text 0 0) (get_or text 1 0) (get_or text 2 0) (get_or text 3 0)

hex_code-long : (text : List ℕ) → 4 ≤ length text → hex_code text ≡ cond (list_all is_hex_digit (four text)) (Some (code_at text)) None
hex_code-long [] long = absurd (omega arith)
hex_code-long (a ∷ []) long = absurd (omega arith)
hex_code-long (a ∷ b ∷ []) long = absurd (omega arith)
hex_code-long (a ∷ b ∷ c ∷ []) long = absurd (omega arith)
hex_code-long (a ∷ b ∷ c ∷ d ∷ rest) long = refl

is_none : (b : Bool) (x : ℕ) → None ≡ cond b (Some x) None → b ≡ false
is_none true x is = cc
is_none false x is = refl

-- one of them is no digit
pub hex_code-other : (text : List ℕ) (i : ℕ) → 4 ≤ length text → i < 4 → None ≡ hex_value (get_or (four text) i 0) → None ≡ hex_code text
hex_code-other text i long below none =
    let other : is_hex_digit (get_or (four text) i 0) ≡ false = is_none _ _ none in
    sym (hex_code-long text long ∙ cond-false _ _ _ (list_all_at is_hex_digit (four text) i 0 below other))

-- each of them is one
pub hex_code-values : (text : List ℕ) (a b c d : ℕ) → 4 ≤ length text → Some a ≡ hex_value (get_or text 0 0) → Some b ≡ hex_value (get_or text 1 0) → Some c ≡ hex_value (get_or text 2 0) → Some d ≡ hex_value (get_or text 3 0)
    → Some (((a * 16 + b) * 16 + c) * 16 + d) ≡ hex_code text
hex_code-values text a b c d long at_a at_b at_c at_d =
    let is_a = cond_some _ _ _ (sym at_a) in
    let is_b = cond_some _ _ _ (sym at_b) in
    let is_c = cond_some _ _ _ (sym at_c) in
    let is_d = cond_some _ _ _ (sym at_d) in
    let P = λ (byte : ℕ). is_hex_digit byte ≡ true in
    let at = get_or text in
    let hex : AllPass is_hex_digit (four text) =
    All-cons P (at 0 0) (at 1 0 ∷ at 2 0 ∷ at 3 0 ∷ []) is_a.0
    (All-cons P (at 1 0) (at 2 0 ∷ at 3 0 ∷ []) is_b.0
    (All-cons P (at 2 0) (at 3 0 ∷ []) is_c.0 (All-cons P (at 3 0) [] is_d.0 (All-nil P)))) in
    let same : code_at text ≡ ((a * 16 + b) * 16 + c) * 16 + d = rw (is_a.1, is_b.1, is_c.1, is_d.1) refl in
    sym (hex_code-long text long ∙ cond-true _ _ _ (list_all-from_AllPass is_hex_digit (four text) hex) ∙ ap (λ n. Some n) same)
