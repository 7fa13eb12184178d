-- What words behind the target line say: one thing at most.
use Rattle.std.proofs.Common.{◌≡◌, ◌≢◌, ◌∙◌, ap, sym, refl, subst, ℕ, ◌≤◌, ◌==◌, List, [], ◌∷◌, length, get_or, take, drop, take_all, ◌-◌, codes, decimal, if◌then◌else◌, arith, None, All}
use Rattle.std.specs.Str.Parse.{digits_value}
use Rattle.std.proofs.lemmas.List.{get_or_read}
use Rattle.std.proofs.lemmas.Fmt.{decimal_is_IsNumeral}
use Rattle.rf_jtree.specs.declared.tokens.TokKind.TheVariants as kind
use Rattle.rf_jtree.specs.Tokens.{IsToken}
use Rattle.rf_request.specs.declared.choices.Choice.{Choice}
use Rattle.rf_request.specs.declared.choices.Choice.TheVariants.{Allow, Spare, Decisions, Keep, Rules}
use Rattle.rf_request.specs.declared.sorts.Sort.{Sort}
use Rattle.rf_request.specs.Choices.{choice_words, ChoiceFits, IsChoiceOf}
use Rattle.rf_request.specs.Forms.{IsAllowed, MOST_DECISIONS}
use Rattle.rf_request.specs.Sorts.{sort_word}
use Rattle.rf_request.proofs.SortLemmas.{sort_of, sort_of-is}

abbrev Words : Type 0
Words = List (List ℕ)

-- what words say, by the first letter of the first one
abbrev said_by : ℕ → Words → Choice
said_by letter words =
    if letter == 97 then Allow words
    else (if letter == 115 then Spare words
    else (if letter == 100 then Decisions (digits_value 10 (get_or words 0 []))
    else (if letter == 107 then Keep (sort_of (get_or words 0 [])) (get_or words 1 [])
    else Rules (get_or words 0 []))))

abbrev said : Words → Choice
said words = said_by (get_or (get_or words 0 []) 0 0) (drop 1 words)

said-is : (choice : Choice) → ChoiceFits choice → said (choice_words choice) ≡ choice
said-is (Allow words) fits = refl
said-is (Spare words) fits = refl
said-is (Decisions number) fits = ap Decisions (decimal_is_IsNumeral number (omega (arith, fits))).1
said-is (Keep sort name) fits = ap (λ s. Keep s name) (sort_of-is sort)
said-is (Rules file) fits = refl

-- so words say one thing at most
pub same_choice : (one other : Choice) → ChoiceFits one → ChoiceFits other → choice_words one ≡ choice_words other → one ≡ other
same_choice one other one_fits other_fits same = sym (said-is one one_fits) ∙ ap said same ∙ said-is other other_fits

read_as : (words : Words) (choice : Choice) → words ≡ choice_words choice → ChoiceFits choice → choice ≡ said words
read_as words choice is fits = sym (said-is choice fits) ∙ ap said (sym is)

behind_first : {X : Type 0} (first other : X) (more others : List X) → first ∷ more ≡ other ∷ others → more ≡ others
behind_first first other more others same = ap (drop 1) same

pub no_allow : (words : Words) → ((words ≢ []) → All IsAllowed words → ⊥) → IsChoiceOf (codes "allow" ∷ words) None
no_allow words none choice is fits =
    let fit = subst ChoiceFits (read_as (codes "allow" ∷ words) choice is fits) fits in
    none fit.0 fit.1

pub no_spare : (words : Words) → ((words ≢ []) → All (IsToken kind.Ident) words → ⊥) → IsChoiceOf (codes "spare" ∷ words) None
no_spare words none choice is fits =
    let fit = subst ChoiceFits (read_as (codes "spare" ∷ words) choice is fits) fits in
    none fit.0 fit.1

pub no_decisions : (words : Words) → ((number : ℕ) → number ≤ MOST_DECISIONS → words ≢ decimal number ∷ []) → IsChoiceOf (codes "decisions" ∷ words) None
no_decisions words none choice is fits =
    let as_said : choice ≡ Decisions (digits_value 10 (get_or words 0 [])) = read_as (codes "decisions" ∷ words) choice is fits in
    none _ (subst ChoiceFits as_said fits) (behind_first _ _ words _ (is ∙ ap choice_words as_said))

pub no_keep : (words : Words) → ((sort : Sort) (name : List ℕ) → words ≢ sort_word sort ∷ name ∷ []) → IsChoiceOf (codes "keep" ∷ words) None
no_keep words none choice is fits =
    let as_said : choice ≡ Keep (sort_of (get_or words 0 [])) (get_or words 1 []) = read_as (codes "keep" ∷ words) choice is fits in
    none _ _ (behind_first _ _ words _ (is ∙ ap choice_words as_said))

pub no_rules : (words : Words) → ((file : List ℕ) → words ≢ file ∷ []) → IsChoiceOf (codes "rules" ∷ words) None
no_rules words none choice is fits =
    let as_said : choice ≡ Rules (get_or words 0 []) = read_as (codes "rules" ∷ words) choice is fits in
    none _ (behind_first _ _ words _ (is ∙ ap choice_words as_said))

front : (words : Words) → 1 ≤ length words → words ≡ get_or words 0 [] ∷ take (length words - 1) (drop 1 words)
front [] some = absurd (omega (arith, some))
front (word ∷ words) some =
    let e : length (word ∷ words) - 1 ≡ length words = omega arith in
    ap (λ (ws : Words). word ∷ ws) (sym (ap (λ n. take n words) e ∙ take_all (length words) words (omega arith)))

-- words by the first one
pub begins : (words : Words) (word item : List ℕ) → 1 ≤ length words → item ≡ get_or words 0 item → item ≡ word → words ≡ word ∷ take (length words - 1) (drop 1 words)
begins words word item some at is =
    front words some ∙ ap (λ (w : List ℕ). w ∷ take (length words - 1) (drop 1 words)) (sym (get_or_read words 0 item some at []) ∙ is)

-- and none where the first word is none of the five
pub no_choice : (words : Words) → ((word : List ℕ) (more : Words) → words ≡ word ∷ more → (word ≢ codes "allow") × (word ≢ codes "spare") × (word ≢ codes "decisions") × (word ≢ codes "keep") × (word ≢ codes "rules")) → IsChoiceOf words None
no_choice words none (Allow others) is fits = (none _ _ is).0 refl
no_choice words none (Spare others) is fits = (none _ _ is).1 refl
no_choice words none (Decisions number) is fits = (none _ _ is).2 refl
no_choice words none (Keep sort name) is fits = (none _ _ is).3 refl
no_choice words none (Rules file) is fits = (none _ _ is).4 refl
