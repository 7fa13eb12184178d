-- The longest piece at the front of a text is one, and of one sort.
use Rattle.std.proofs.Common.{◌≡◌, ℕ, ◌<◌, ◌≤◌, List, ◌++◌, inl, inr, Some, length, take, drop, sym, refl, ap, ◌∙◌, subst, arith, take_at, drop_at}
use Rattle.rf_jtree.specs.declared.tokens.TokKind.TheVariants as kind
use Rattle.rf_jtree.specs.Operators.{operator_of}
use Rattle.rf_jtree.specs.Tokens as tokens
use Rattle.rf_jtree.specs.Tokens.{IsLongest}
use Rattle.rf_jlex.specs.declared.classes.Class.{Class}
use Rattle.rf_jlex.specs.declared.classes.Class.TheVariants.{End, WhiteSpace, Slash, Digit, Point, Quote, DoubleQuote, Letter, Other}
use Rattle.rf_jlex.specs.Classes.{class_at}
use Rattle.rf_jlex.specs.Fronts.{IsFront}
use Rattle.rf_jlex.proofs.FrontLemmas.{Fits, fits, IsFront-match, IsNumberSort, IsOperatorSort}
use Rattle.rf_jlex.proofs.KindLemmas.{one_kind}
use Rattle.rf_jlex.proofs.PieceLemmas.{not_both, line_begins, block_begins, length-piece}

same_numbers : (text : List ℕ) (one other : tokens.Sort) (n : ℕ) → IsFront one text n → IsFront other text n → IsNumberSort one → IsNumberSort other → one ≡ other
same_numbers text one other n a b is_one is_other =
    let front_one = subst (λ s. IsFront s text n) is_one.2 a in
    let front_other = subst (λ s. IsFront s text n) is_other.2 b in
    let same = one_kind (take n text) is_one.0 is_other.0 is_one.1 is_other.1 front_one.matches.is_piece front_other.matches.is_piece in
    is_one.2 ∙ ap (λ k. tokens.Token k) same ∙ sym is_other.2

same_operators : (text : List ℕ) (one other : tokens.Sort) (n : ℕ) → IsFront one text n → IsFront other text n → IsOperatorSort one → IsOperatorSort other → one ≡ other
same_operators text one other n a b is_one is_other =
    let front_one = subst (λ s. IsFront s text n) is_one.1 a in
    let front_other = subst (λ s. IsFront s text n) is_other.1 b in
    let p : operator_of (take n text) ≡ Some is_one.0 = front_one.matches.is_piece in
    let q : operator_of (take n text) ≡ Some is_other.0 = front_other.matches.is_piece in
    let same : is_one.0 ≡ is_other.0 = cc in
    is_one.1 ∙ ap (λ op. tokens.Token (kind.Op op)) same ∙ sym is_other.1

same_sort_at : (class : Class) (text : List ℕ) (one other : tokens.Sort) (n : ℕ) → IsFront one text n → IsFront other text n → Fits class text one n → Fits class text other n → one ≡ other
same_sort_at End text one other n a b f g = absurd f
same_sort_at WhiteSpace text one other n a b f g = f.0 ∙ sym g.0
same_sort_at Slash text one other n a b (inl f) (inl g) = f.0 ∙ sym g.0
same_sort_at Slash text one other n a b (inl f) (inr (inl g)) = absurd (not_both text f.1 g.1)
same_sort_at Slash text one other n a b (inl f) (inr (inr g)) = let p = line_begins text f.1 in let q = g.1 in absurd cc
same_sort_at Slash text one other n a b (inr (inl f)) (inl g) = absurd (not_both text g.1 f.1)
same_sort_at Slash text one other n a b (inr (inl f)) (inr (inl g)) = f.0 ∙ sym g.0
same_sort_at Slash text one other n a b (inr (inl f)) (inr (inr g)) = let p = block_begins text f.1 in let q = g.1 in absurd cc
same_sort_at Slash text one other n a b (inr (inr f)) (inl g) = let p = line_begins text g.1 in let q = f.1 in absurd cc
same_sort_at Slash text one other n a b (inr (inr f)) (inr (inl g)) = let p = block_begins text g.1 in let q = f.1 in absurd cc
same_sort_at Slash text one other n a b (inr (inr f)) (inr (inr g)) = same_operators text one other n a b f.0 g.0
same_sort_at Digit text one other n a b f g = same_numbers text one other n a b f g
same_sort_at Point text one other n a b (inl f) (inl g) = same_numbers text one other n a b f.0 g.0
same_sort_at Point text one other n a b (inl f) (inr g) = let two : 2 ≤ n = f.1 in let alone : n ≡ 1 = g.1 in absurd (omega arith)
same_sort_at Point text one other n a b (inr f) (inl g) = let two : 2 ≤ n = g.1 in let alone : n ≡ 1 = f.1 in absurd (omega arith)
same_sort_at Point text one other n a b (inr f) (inr g) = same_operators text one other n a b f.0 g.0
same_sort_at Quote text one other n a b f g = f ∙ sym g
same_sort_at DoubleQuote text one other n a b f g = f ∙ sym g
same_sort_at Letter text one other n a b f g = f.0 ∙ sym g.0
same_sort_at Other text one other n a b f g = same_operators text one other n a b f g

pub same_sort : (text : List ℕ) (one other : tokens.Sort) (n : ℕ) → IsFront one text n → IsFront other text n → one ≡ other
same_sort text one other n a b = same_sort_at (class_at text) text one other n a b (fits text one n a) (fits text other n b)

taken : (text piece rest : List ℕ) (n : ℕ) → text ≡ piece ++ rest → length piece ≡ n → piece ≡ take n text
taken text piece rest n parts long = sym (ap (take n) parts ∙ take_at piece rest n long)

dropped : (text piece rest : List ℕ) (n : ℕ) → text ≡ piece ++ rest → length piece ≡ n → rest ≡ drop n text
dropped text piece rest n parts long = sym (ap (drop n) parts ∙ drop_at piece rest n long)

-- two cuts of a text are one
pub record SameCut (sort sort' : tokens.Sort) (piece piece' rest rest' : List ℕ) : Type 0 where
  pub same_sort : sort ≡ sort'
  pub same_piece : piece ≡ piece'
  pub same_rest : rest ≡ rest'

pub SameCut-longest : (text : List ℕ) (one other : tokens.Sort) (p q r s : List ℕ) → IsLongest text one p r → IsLongest text other q s → SameCut one other p q r s
SameCut-longest text one other p q r s a b =
    let up : length q ≤ length p = a.longest other q s b.matches in
    let down : length p ≤ length q = b.longest one p r a.matches in
    let long : length q ≡ length p = omega arith in
    record {
      same_sort = same_sort text one other (length p) (IsFront-match text one p r a.matches)
          (subst (λ n. IsFront other text n) long (IsFront-match text other q s b.matches));
      same_piece = taken text p r (length p) a.matches.parts refl ∙ sym (taken text q s (length p) b.matches.parts long);
      same_rest = dropped text p r (length p) a.matches.parts refl ∙ sym (dropped text q s (length p) b.matches.parts long);
    }

-- a longest piece is a part that is not empty
pub length-longest : (text : List ℕ) (sort : tokens.Sort) (piece rest : List ℕ) → IsLongest text sort piece rest → 0 < length piece
length-longest text sort piece rest is = length-piece sort piece is.matches.is_piece
