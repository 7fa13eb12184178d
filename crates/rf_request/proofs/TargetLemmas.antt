-- The words of a target line, by the word that it begins with.
use Rattle.std.proofs.Common.{◌≡◌, ◌≢◌, ◌∙◌, ap, sym, refl, subst, ℕ, ◌==◌, Bool, true, false, not, true≢false, List, [], ◌∷◌, length, get_or, codes, if◌then◌else◌, Some, None, arith}
use Rattle.rf_request.specs.declared.sorts.Sort.{Sort}
use Rattle.rf_request.specs.declared.target_line.TargetLine.{TargetLine}
use Rattle.rf_request.specs.declared.target_line.TargetLine.TheVariants.{Rename, Move, Pull, Access}
use Rattle.rf_request.specs.declared.targets.Verb.{Verb}
use Rattle.rf_request.specs.declared.targets.Verb.TheVariants as verb
use Rattle.rf_request.specs.Forms.{TargetFits}
use Rattle.rf_request.specs.Sorts.{sort_word}
use Rattle.rf_request.specs.Targets.{change_words, target_words, target_number, IsTargetOf, verb_word, Fits, target_line}
use Rattle.rf_request.proofs.SortLemmas.{same_sort}

abbrev Words : Type 0
Words = List (List ℕ)

abbrev verb_by : ℕ → Verb
verb_by letter =
    if letter == 114 then verb.Rename
    else (if letter == 109 then verb.Move
    else (if letter == 112 then verb.Pull
    else verb.Access))

abbrev verb_of : List ℕ → Verb
verb_of word = verb_by (get_or word 0 0)

verb_of-is : (v : Verb) → verb_of (verb_word v) ≡ v
verb_of-is verb.Rename = refl
verb_of-is verb.Move = refl
verb_of-is verb.Pull = refl
verb_of-is verb.Access = refl

same_verb : (one other : Verb) → verb_word one ≡ verb_word other → one ≡ other
same_verb one other same = sym (verb_of-is one) ∙ ap verb_of same ∙ verb_of-is other

pub so : (b : Bool) → not b ≡ false → b ≡ true
so true is = refl
so false is = absurd (true≢false is)

-- the parts of a target line
pub record Parts (words : Words) : Type 0 where
  pub v : Verb
  pub s : Sort
  pub name : List ℕ
  pub value : List ℕ
  pub written : words ≡ change_words (verb_word v) s name value
  pub fits : Fits v s value

pub parts_of : (words : Words) (target : TargetLine) → words ≡ target_words target → TargetFits target → Parts words
parts_of words (Rename s name value line) is fits = record { v = verb.Rename; s = s; name = name; value = value; written = is; fits = fits }
parts_of words (Move s name value line) is fits = record { v = verb.Move; s = s; name = name; value = value; written = is; fits = fits }
parts_of words (Pull s name value line) is fits = record { v = verb.Pull; s = s; name = name; value = value; written = is; fits = fits }
parts_of words (Access s name value line) is fits = record { v = verb.Access; s = s; name = name; value = value; written = is; fits = fits }

-- words without parts are no target line
pub no_target : (number : ℕ) (words : Words) → (Parts words → ⊥) → IsTargetOf number words None
no_target number words none target is fits = none (parts_of words target is fits)

pub no_verb : (number : ℕ) (words : Words) → ((v : Verb) → get_or words 0 [] ≢ verb_word v) → IsTargetOf number words None
no_verb number words none = no_target number words λ parts. none parts.v (ap (λ (ws : Words). get_or ws 0 []) parts.written)

pub no_sort : (number : ℕ) (words : Words) → ((s : Sort) → get_or words 1 [] ≢ sort_word s) → IsTargetOf number words None
no_sort number words none = no_target number words λ parts. none parts.s (ap (λ (ws : Words). get_or ws 1 []) parts.written)

pub no_to : (number : ℕ) (words : Words) → get_or words 3 [] ≢ codes "to" → IsTargetOf number words None
no_to number words none = no_target number words λ parts. none (ap (λ (ws : Words). get_or ws 3 []) parts.written)

pub no_length : (number : ℕ) (words : Words) → length words ≢ 5 → IsTargetOf number words None
no_length number words none = no_target number words λ parts. none (ap length parts.written)

-- what doesn't fit
pub no_fit : (number : ℕ) (words : Words) (v : Verb) (s : Sort) → get_or words 0 [] ≡ verb_word v → get_or words 1 [] ≡ sort_word s → (Fits v s (get_or words 4 []) → ⊥) → IsTargetOf number words None
no_fit number words v s is_verb is_sort none = no_target number words λ parts.
    let verbs : parts.v ≡ v = same_verb parts.v v (sym (ap (λ (ws : Words). get_or ws 0 []) parts.written) ∙ is_verb) in
    let sorts : parts.s ≡ s = same_sort parts.s s (sym (ap (λ (ws : Words). get_or ws 1 []) parts.written) ∙ is_sort) in
    let values : parts.value ≡ get_or words 4 [] = sym (ap (λ (ws : Words). get_or ws 4 []) parts.written) in
    none (subst (λ v. Fits v s (get_or words 4 [])) verbs (subst (λ s. Fits parts.v s (get_or words 4 [])) sorts (subst (Fits parts.v parts.s) values parts.fits)))

line_words : (v : Verb) (s : Sort) (name value : List ℕ) (line : ℕ) → change_words (verb_word v) s name value ≡ target_words (target_line v s name value line)
line_words verb.Rename s name value line = refl
line_words verb.Move s name value line = refl
line_words verb.Pull s name value line = refl
line_words verb.Access s name value line = refl

line_number : (v : Verb) (s : Sort) (name value : List ℕ) (line : ℕ) → target_number (target_line v s name value line) ≡ line
line_number verb.Rename s name value line = refl
line_number verb.Move s name value line = refl
line_number verb.Pull s name value line = refl
line_number verb.Access s name value line = refl

line_fits : (v : Verb) (s : Sort) (name value : List ℕ) (line : ℕ) → Fits v s value → TargetFits (target_line v s name value line)
line_fits verb.Rename s name value line fits = fits
line_fits verb.Move s name value line fits = fits
line_fits verb.Pull s name value line fits = fits
line_fits verb.Access s name value line fits = fits

five : (words : Words) → length words ≡ 5 → words ≡ get_or words 0 [] ∷ get_or words 1 [] ∷ get_or words 2 [] ∷ get_or words 3 [] ∷ get_or words 4 [] ∷ []
five (a ∷ b ∷ c ∷ d ∷ e ∷ []) is = refl
five [] is = absurd (omega (arith, is))
five (a ∷ []) is = absurd (omega (arith, is))
five (a ∷ b ∷ []) is = absurd (omega (arith, is))
five (a ∷ b ∷ c ∷ []) is = absurd (omega (arith, is))
five (a ∷ b ∷ c ∷ d ∷ []) is = absurd (omega (arith, is))
five (a ∷ b ∷ c ∷ d ∷ e ∷ f ∷ more) is = absurd (omega (arith, is))

-- a target line is read
pub is_target : (number : ℕ) (words : Words) (v : Verb) (s : Sort) → length words ≡ 5 → get_or words 0 [] ≡ verb_word v → get_or words 1 [] ≡ sort_word s → get_or words 3 [] ≡ codes "to" → Fits v s (get_or words 4 []) → IsTargetOf number words (Some (target_line v s (get_or words 2 []) (get_or words 4 []) number))
is_target number words v s long is_verb is_sort is_to fits =
    let name = get_or words 2 [] in
    let value = get_or words 4 [] in
    record {
      written = five words long
          ∙ ap (λ (w : List ℕ). w ∷ get_or words 1 [] ∷ name ∷ get_or words 3 [] ∷ value ∷ []) is_verb
          ∙ ap (λ (w : List ℕ). verb_word v ∷ w ∷ name ∷ get_or words 3 [] ∷ value ∷ []) is_sort
          ∙ ap (λ (w : List ℕ). verb_word v ∷ sort_word s ∷ name ∷ w ∷ value ∷ []) is_to
          ∙ line_words v s name value number;
      numbered = line_number v s name value number;
      fits = line_fits v s name value number fits;
    }
