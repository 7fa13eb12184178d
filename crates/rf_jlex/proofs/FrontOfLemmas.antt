-- A front of a text, as the text cut in two.
use Rattle.std.proofs.Common.{◌≡◌, ℕ, List, ◌++◌, length, take, drop, sym, ap, ◌∙◌, subst, arith, length-append}
use Rattle.std.proofs.lemmas.List.{take-append-drop, length-take-le, take_at}
use Rattle.rf_jlex.specs.EscapeFronts.{IsFrontOf}

pub record Cut (P : List ℕ → Type 0) (text : List ℕ) (n : ℕ) : Type 0 where
  pub piece : List ℕ
  pub rest : List ℕ
  pub parts : text ≡ piece ++ rest
  pub is_such : P piece
  pub size : length piece ≡ n

pub cut_of : (P : List ℕ → Type 0) (text : List ℕ) (n : ℕ) → IsFrontOf P text n → Cut P text n
cut_of P text n front = record {
  piece = take n text;
  rest = drop n text;
  parts = sym (take-append-drop n text);
  is_such = front.is_such;
  size = length-take-le n text front.within;
}

pub front_of : (P : List ℕ → Type 0) (text piece rest : List ℕ) (n : ℕ) → text ≡ piece ++ rest → P piece → length piece ≡ n → IsFrontOf P text n
front_of P text piece rest n parts is_such size =
    let same : take n text ≡ piece = ap (take n) parts ∙ take_at piece rest n size in
    record { within = omega (arith, ap length parts, length-append piece rest); is_such = subst P (sym same) is_such }
