-- The access words of a program that was read are of the four, since those of its tokens are.
use Rattle.std.proofs.Common.{◌≡◌, ap, sym, refl, subst, ℕ, zero, suc, ◌+◌, List, [], ◌∷◌, ◌++◌, Bool, true, false, ◌||◌, ◌==◌, Option, Some, None, map, codes, IsTrue, take, drop, if◌then◌else◌}
use Rattle.std.specs.List.{list_all, prefix_len}
use Rattle.std.specs.Str.{bytes_eq}
use Rattle.std.proofs.lemmas.Slice.Eq.{bytes_eq-Decides}
use Rattle.rf_rlex.specs.declared.classes.Class.{Class}
use Rattle.rf_rlex.specs.declared.classes.Class.TheVariants as class
use Rattle.rf_rlex.specs.declared.fronts.Front.{Front}
use Rattle.rf_rlex.specs.declared.fronts.Front.TheVariants.{Skip, Token, Nothing}
use Rattle.rf_rlex.specs.declared.tokens.Placed.{Placed}
use Rattle.rf_rlex.specs.declared.tokens.Tok.{Tok as Lexed}
use Rattle.rf_rlex.specs.declared.tokens.Tok.TheVariants as c
use Rattle.rf_rlex.specs.Classes.{class_of, is_in_name, is_in_text}
use Rattle.rf_rlex.specs.Fronts.{begins_with_equal, begins_with_quote, sign, front, front_of}
use Rattle.rf_rlex.specs.Lexed.{line_behind, begun, tokens_from, tokens_of}
use Rattle.rf_rlex.specs.Words.{item_word, form_word, is_access, other_word, word_or, word_token}
use Rattle.rf_rtree.specs.declared.items.Item.{Item}
use Rattle.rf_rtree.specs.declared.items.RuleProg.{RuleProg}
use Rattle.rf_rtree.specs.Accesses.{ACCESSES, item_has_words, has_access_words}
use Rattle.rf_rtree.specs.Grammar.{ItemWay, item_yield, items_yield, items_tree, vars_yield, asks_yield, whole_yield, body_token}
use Rattle.rf_rtree.specs.Kinds.{is_among}
use Rattle.rf_rtree.specs.Readings.{Reading}
use Rattle.rf_rtree.specs.Tokens.{Tok}
use Rattle.rf_rtree.specs.Tokens as t
use Rattle.rf_rparse.specs.Answers.{words_of}
use Rattle.rf_rparse.specs.Words.{shown, shown_at}
use Rattle.rf_rparse.proofs.AccessForms.{Fine, FineTok, fine_left, fine_right, both_true, whole_fine}

-- a token of a file is fine wherever it stands
abbrev FineLexed : Lexed → Type 0
FineLexed tok = (line : ℕ) → FineTok (shown_at line tok)

abbrev FineFound : Option Lexed → Type 0
FineFound (Some tok) = FineLexed tok
FineFound None = Unit {0}

abbrev FineFront : Front → Type 0
FineFront (Skip n) = Unit {0}
FineFront (Token tok n) = FineLexed tok
FineFront Nothing = Unit {0}

record IsFound (found : Option Lexed) : Type 0 where
  fine : FineFound found

record IsFront (found : Front) : Type 0 where
  fine : FineFront found

either_found : {x y : Option Lexed} (test : Bool) → IsFound x → IsFound y → IsFound (if test then x else y)
either_found true x y = x
either_found false x y = y

either_front : {x y : Front} (test : Bool) → IsFront x → IsFront y → IsFront (if test then x else y)
either_front true x y = x
either_front false x y = y

or_behind : (a b : Bool) → b ≡ true → (a || b) ≡ true
or_behind true b e = refl
or_behind false b e = e

or_first : (a b : Bool) → a ≡ true → (a || b) ≡ true
or_first a b e = ap (λ x. x || b) e

or_both : (a b x y : Bool) → (a ≡ true → x ≡ true) → (b ≡ true → y ≡ true) → (a || b) ≡ true → (x || y) ≡ true
or_both true b x y f g e = or_first x y (f refl)
or_both false b x y f g e = or_behind x y (g e)

turned : (text word : List ℕ) → bytes_eq text word ≡ true → bytes_eq word text ≡ true
turned text word e = (bytes_eq-Decides word text).1 (sym ((bytes_eq-Decides text word).0 e))

among : (text : List ℕ) → is_access text ≡ true → IsTrue (is_among text ACCESSES)
unfolding is_access ACCESSES
among text e = or_both _ _ _ _ (turned text (codes "private")) (or_both _ _ _ _ (turned text (codes "package"))
    (or_both _ _ _ _ (turned text (codes "protected")) (λ last. or_first _ _ (turned text (codes "public") last)))) e

access_or_name : (text : List ℕ) (test : Bool) → is_access text ≡ test → FineLexed (if test then c.Access text else c.Name text)
access_or_name text true e line = among text e
access_or_name text false e line = tt

other_fine : (text : List ℕ) → FineLexed (other_word text)
other_fine text = access_or_name text (is_access text) refl

plain : (tok : Lexed) → FineLexed tok → IsFound (Some tok)
plain tok fine = record { fine = fine }

nothing : IsFound None
nothing = record { fine = tt }

item_fine : (text : List ℕ) → IsFound (item_word text)
unfolding item_word
item_fine text = either_found _ (plain c.Rule (λ line. tt)) (either_found _ (plain c.Derive (λ line. tt))
    (either_found _ (plain c.For (λ line. tt)) (either_found _ (plain c.If (λ line. tt))
    (either_found _ (plain c.Then (λ line. tt)) (either_found _ (plain c.Means (λ line. tt))
    (either_found _ (plain c.End (λ line. tt)) nothing))))))

form_fine : (text : List ℕ) → IsFound (form_word text)
unfolding form_word
form_fine text = either_found _ (plain c.Implies (λ line. tt)) (either_found _ (plain c.Or (λ line. tt))
    (either_found _ (plain c.And (λ line. tt)) (either_found _ (plain c.Not (λ line. tt))
    (either_found _ (plain c.All (λ line. tt)) (either_found _ (plain c.Some (λ line. tt))
    (either_found _ (plain c.True (λ line. tt)) (either_found _ (plain c.False (λ line. tt))
    (either_found _ (plain c.Old (λ line. tt)) nothing))))))))

word_or_fine : (found : Option Lexed) (other : Lexed) → FineFound found → FineLexed other → FineLexed (word_or found other)
word_or_fine (Some tok) other fine later = fine
word_or_fine None other fine later = later

word_fine : (text : List ℕ) → FineLexed (word_token text)
word_fine text = word_or_fine (item_word text) (word_or (form_word text) (other_word text)) (item_fine text).fine
    (word_or_fine (form_word text) (other_word text) (form_fine text).fine (other_fine text))

signed : (tok : Lexed) (n : ℕ) → FineLexed tok → IsFront (Token tok n)
signed tok n fine = record { fine = fine }

no_front : IsFront Nothing
no_front = record { fine = tt }

sign_fine : (byte : ℕ) (more : List ℕ) → IsFront (sign byte more)
sign_fine byte more = either_front (byte == 44) (signed c.Comma 0 (λ line. tt)) (either_front (byte == 58) (signed c.Colon 0 (λ line. tt))
    (either_front (byte == 46) (signed c.Dot 0 (λ line. tt)) (either_front (byte == 40) (signed c.Left 0 (λ line. tt))
    (either_front (byte == 41) (signed c.Right 0 (λ line. tt)) (either_front (byte == 61) (signed c.Equal 0 (λ line. tt))
    (either_front (byte == 33) (either_front (begins_with_equal more) (signed c.Unequal 1 (λ line. tt)) no_front)
    (either_front (byte == 60) (either_front (begins_with_equal more) (signed c.AtMost 1 (λ line. tt)) no_front) no_front)))))))

quoted_fine : (n : ℕ) (more : List ℕ) → IsFront (if begins_with_quote (drop n more) then Token (c.Text (take n more)) (n + 1) else Nothing)
quoted_fine n more = either_front (begins_with_quote (drop n more)) (signed (c.Text (take n more)) (n + 1) (λ line. tt)) no_front

front_fine : (kind : Class) (byte : ℕ) (more : List ℕ) → FineFront (front_of kind byte more)
front_fine class.Blank byte more = tt
front_fine class.LineFeed byte more = tt
front_fine class.Comment byte more = tt
front_fine class.Quote byte more = (quoted_fine (prefix_len is_in_text more) more).fine
front_fine class.Letter byte more =
    word_fine (take (1 + prefix_len is_in_name (drop 1 (byte ∷ more))) (byte ∷ more))
front_fine class.Other byte more = (sign_fine byte more).fine

begun_fine : (found : Front) (byte line : ℕ) (behind : ℕ → ℕ → List Placed) → FineFront found →
    ((n line : ℕ) → Fine (map shown (behind n line))) → Fine (map shown (begun found byte line behind))
begun_fine (Skip n) byte line behind fine later = later n (line_behind line byte)
begun_fine (Token tok n) byte line behind fine later = (fine line, later n line)
begun_fine Nothing byte line behind fine later = (tt, tt)

from_fine : (bytes : List ℕ) (n line : ℕ) → Fine (map shown (tokens_from bytes n line))
from_fine [] n line = tt
from_fine (byte ∷ bytes) (suc n) line = from_fine bytes n line
from_fine (byte ∷ bytes) zero line = begun_fine (front (byte ∷ bytes)) byte line (tokens_from bytes)
    (front_fine (class_of byte) byte bytes) (from_fine bytes)

tokens_fine : (bytes : List ℕ) → Fine (words_of bytes)
unfolding tokens_of
tokens_fine bytes = from_fine bytes 0 1

way_fine : (way : ItemWay) → Fine (item_yield way) → Fine (whole_yield way.body)
way_fine way fine =
    let ended = whole_yield way.body ++ t.End ∷ [] in
    let behind = fine_right (vars_yield way.vars) (asks_yield way.asks ++ (body_token way.derive ∷ ended)) fine.1.1.1 in
    fine_left (whole_yield way.body) (t.End ∷ []) (fine_right (asks_yield way.asks) (body_token way.derive ∷ ended) behind).1

items_fine : (ways : List ItemWay) → Fine (items_yield ways) → IsTrue (list_all item_has_words (items_tree ways))
items_fine [] fine = refl
items_fine (way ∷ ways) fine = both_true _ _
    (whole_fine way.body (way_fine way (fine_left (item_yield way) (items_yield ways) fine)))
    (items_fine ways (fine_right (item_yield way) (items_yield ways) fine))

pub reading_words : (bytes : List ℕ) (prog : RuleProg) → Reading (words_of bytes) prog → IsTrue (has_access_words prog)
reading_words bytes prog reading =
    subst (λ (items : List Item). IsTrue (list_all item_has_words items)) reading.tree
    (items_fine reading.way (subst Fine (sym reading.yields) (tokens_fine bytes)))
