-- The longest integer at the front of a text with its suffix (JLS 3.10.1).
use Rattle.std.proofs.Common.{◌≡◌, ◌≢◌, ℕ, ◌⊎◌, inl, inr, Bool, true, false, ◌==◌, cond, List, [], ◌∷◌, ◌++◌, length, drop, Option, Some, None, refl, ap, sym, ◌∙◌, subst, append-nil, arith}
use Rattle.std.proofs.lemmas.Bool.{both_ways, eqb-true, eqb-false}
use Rattle.rf_jtree.specs.declared.tokens.TokKind.{TokKind}
use Rattle.rf_jtree.specs.declared.tokens.TokKind.TheVariants as kinds
use Rattle.rf_jtree.specs.Digits.{BeginsWith}
use Rattle.rf_jtree.specs.Numbers.{is_l, Maybe, IsInteger, IsLongInteger}
use Rattle.rf_jlex.specs.NumberLengths.{behind, integer_length, integer_suffix, integer_of}
use Rattle.rf_jlex.specs.declared.numbers.Number.{Number}
use Rattle.rf_jlex.proofs.LongestLemmas.{either, Apart, same, shorter, IsLongestOf, HasNone, Joined, of_two, none_longest, some_longest, longest_joined, front_none}
use Rattle.rf_jlex.proofs.IntegerFrontLemmas.{integer_more, integer_longest, integer_nil}

-- what ends an integer of this kind
pub data IsIntegerEnd (kind : TokKind) (text : List ℕ) : Type 0 where
  alone : kind ≡ kinds.Int → text ≡ [] → IsIntegerEnd kind text
  suffixed : (byte : ℕ) → kind ≡ kinds.Long → text ≡ byte ∷ [] → is_l byte ≡ true → IsIntegerEnd kind text

-- an integer of this kind
abbrev pub IsIntegerOf : TokKind → List ℕ → Type 0
IsIntegerOf kind text = Joined IsInteger (IsIntegerEnd kind) text

-- the longest front of a language in kinds, or `None` where it has none
abbrev pub Finds : (TokKind → List ℕ → Type 0) → (ℕ → Bool) → List ℕ → Option Number → Type 0
Finds P more text None = HasNone TokKind P text
Finds P more text (Some number) = IsLongestOf TokKind P more text number.kind number.length

-- a front of one byte is the first
pub one_byte : (byte first : ℕ) (bytes front rest : List ℕ) → byte ∷ bytes ≡ front ++ rest → front ≡ first ∷ [] → first ≡ byte
one_byte byte first bytes front rest is parts =
    let whole : byte ∷ bytes ≡ first ∷ rest = is ∙ ap (λ front. front ++ rest) parts in
    cc

pub no_byte : (first : ℕ) (front rest : List ℕ) → [] ≡ front ++ rest → front ≡ first ∷ [] → ⊥
no_byte first front rest is parts =
    let whole : [] ≡ first ∷ rest = is ∙ ap (λ front. front ++ rest) parts in
    cc

end_nil : IsLongestOf TokKind IsIntegerEnd is_l [] kinds.Int 0
end_nil = record {
  within = omega arith;
  holds = alone refl refl;
  compares = λ other front rest is has. elim has [
    | alone kind_is empty ↦ same (ap length empty) kind_is
    | suffixed byte kind_is parts passes ↦ absurd (no_byte byte front rest is parts)
  ];
}

end_suffixed : (byte : ℕ) (bytes : List ℕ) → is_l byte ≡ true → IsLongestOf TokKind IsIntegerEnd is_l (byte ∷ bytes) kinds.Long 1
end_suffixed byte bytes passes = record {
  within = omega arith;
  holds = suffixed byte refl refl passes;
  compares = λ other front rest is has. elim has [
    | alone kind_is empty ↦
        let none : length front ≡ 0 = ap length empty in
        let follows : byte ∷ bytes ≡ rest = is ∙ ap (λ front. front ++ rest) empty in
        shorter (omega arith) (subst (BeginsWith is_l) follows passes)
    | suffixed first kind_is parts letter ↦ same (ap length parts) kind_is
  ];
}

end_alone : (byte : ℕ) (bytes : List ℕ) → is_l byte ≡ false → IsLongestOf TokKind IsIntegerEnd is_l (byte ∷ bytes) kinds.Int 0
end_alone byte bytes fails = record {
  within = omega arith;
  holds = alone refl refl;
  compares = λ other front rest is has. elim has [
    | alone kind_is empty ↦ same (ap length empty) kind_is
    | suffixed first kind_is parts letter ↦
        absurd (both_ways (is_l byte) fails (subst (λ byte. is_l byte ≡ true) (one_byte byte first bytes front rest is parts) letter))
  ];
}

end_step : (letter : Bool) (byte : ℕ) (bytes : List ℕ) → is_l byte ≡ letter
    → let number : Number = cond letter (record { kind = kinds.Long; length = 1 }) (record { kind = kinds.Int; length = 0 }) in IsLongestOf TokKind IsIntegerEnd is_l (byte ∷ bytes) number.kind number.length
end_step true byte bytes is = end_suffixed byte bytes is
end_step false byte bytes is = end_alone byte bytes is

pub end_longest : (text : List ℕ) → IsLongestOf TokKind IsIntegerEnd is_l text (integer_suffix text).kind (integer_suffix text).length
unfolding integer_suffix
end_longest [] = end_nil
end_longest (byte ∷ bytes) = end_step (is_l byte) byte bytes refl

pub end_begins : (kind : TokKind) (text : List ℕ) → IsIntegerEnd kind text → Maybe (BeginsWith is_l) text
end_begins kind text has = elim has [
  | alone kind_is empty ↦ inl empty
  | suffixed byte kind_is parts letter ↦ inr (subst (BeginsWith is_l) (sym parts) letter)
]

end_apart : Apart integer_more is_l
end_apart byte goes_on letter = of_two 108 76 byte letter (λ byte. integer_more byte ≡ true → ⊥) (λ is. cc) (λ is. cc) goes_on

suffixed_longest : (text : List ℕ) → integer_length text ≢ 0
    → let number = behind (integer_length text) (integer_suffix (drop (integer_length text) text)) in IsLongestOf TokKind IsIntegerOf (either integer_more is_l) text number.kind number.length
suffixed_longest text some =
    let n = integer_length text in
    longest_joined TokKind IsInteger IsIntegerEnd is_l integer_more is_l text n (integer_suffix (drop n text)).kind (integer_suffix (drop n text)).length
    (some_longest IsInteger integer_more text n (integer_longest text) some) (end_longest (drop n text)) end_begins end_apart

suffixed_none : (text : List ℕ) → integer_length text ≡ 0 → HasNone TokKind IsIntegerOf text
suffixed_none text none =
    front_none TokKind IsInteger IsIntegerEnd text
    (none_longest IsInteger integer_more text (integer_length text) integer_nil (integer_longest text) none)

integer_of_step : (empty : Bool) (text : List ℕ) → (integer_length text == 0) ≡ empty
    → Finds IsIntegerOf (either integer_more is_l) text (cond empty None (Some (behind (integer_length text) (integer_suffix (drop (integer_length text) text)))))
integer_of_step true text is = suffixed_none text (eqb-true (integer_length text) 0 is)
integer_of_step false text is = suffixed_longest text (eqb-false (integer_length text) 0 is)

-- the longest integer
pub integer_of_longest : (text : List ℕ) → Finds IsIntegerOf (either integer_more is_l) text (integer_of text)
unfolding integer_of
integer_of_longest text = integer_of_step (integer_length text == 0) text refl

-- an integer of its kind is the token
pub int_from : (text : List ℕ) → IsInteger text → IsIntegerOf kinds.Int text
int_from text is = record { front = text; back = []; parts = sym (append-nil text); first = is; second = alone refl refl }

pub long_from : (text : List ℕ) → IsLongInteger text → IsIntegerOf kinds.Long text
long_from text is = record { front = is.integer; back = is.suffix ∷ []; parts = is.parts; first = is.is_integer; second = suffixed is.suffix refl refl is.is_suffix }

pub integer_is : (kind : TokKind) (text : List ℕ) → IsIntegerOf kind text → ((kind ≡ kinds.Int) × IsInteger text) ⊎ ((kind ≡ kinds.Long) × IsLongInteger text)
integer_is kind text is = elim is.second [
  | alone kind_is empty ↦
      let whole : text ≡ is.front = is.parts ∙ ap (λ back. is.front ++ back) empty ∙ append-nil is.front in
      inl (kind_is, subst IsInteger (sym whole) is.first)
  | suffixed byte kind_is parts letter ↦
      inr (kind_is, record { integer = is.front; suffix = byte; parts = is.parts ∙ ap (λ back. is.front ++ back) parts; is_integer = is.first; is_suffix = letter })
]
