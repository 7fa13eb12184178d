-- The packages that a file imports on demand, by their texts.
use Rattle.std.proofs.Common.{◌≡◌, ℕ, ◌⊎◌, true, false, ◌==◌, List, [], ◌∷◌, Option, Some, None, IsSome, is_some, Contains, drop, codes, refl, sym, ap, ◌∙◌, subst, inl, inr}
use Rattle.std.specs.List.{AllByRecursion}
use Rattle.rf_jtree.specs.declared.tokens.Tok.{Tok}
use Rattle.rf_jtree.specs.DeclTrees.{ImportTree, UnitTree}
use Rattle.rf_jtree.specs.NameText.{dotted, dotted_text}
use Rattle.rf_jmodel.specs.Packages.{java_lang}
use Rattle.rf_jmodel.specs.StandsFor.{demand_texts}
use Rattle.rf_jmodel.proofs.NameLemmas.{in-none}
use Rattle.rf_symtab.proofs.ListLemmas.{here, behind, either}
use Rattle.rf_symtab.proofs.PointLemmas.{IsPlain}

-- `java.lang`
not-both : false ≡ true → ⊥
not-both same = cc

other : (byte : ℕ) → (byte == 46) ≡ false → byte ≡ 46 → ⊥
other byte is same = not-both (sym is ∙ ap (λ (one : ℕ). one == 46) same)

not-empty : {byte : ℕ} {text : List ℕ} → byte ∷ text ≡ [] → ⊥
not-empty same = cc

java-plain : IsPlain (codes "java")
java-plain = ((λ same. not-empty same), (other 106 refl, (other 97 refl, (other 118 refl, (other 97 refl, tt)))))

last-plain : IsPlain (codes "lang")
last-plain = ((λ same. not-empty same), (other 108 refl, (other 97 refl, (other 110 refl, (other 103 refl, tt)))))

pub lang-plain : AllByRecursion IsPlain java_lang
lang-plain = (java-plain, (last-plain, tt))

-- the imports on demand
pub record Demands (imports : List ImportTree) (text : List ℕ) : Type 0 where
  pub import : ImportTree
  pub imports_it : Contains imports import
  pub on_demand : IsSome import.star
  pub is_text : dotted_text import.name ≡ text

abbrev with-imports : UnitTree → List ImportTree → UnitTree
with-imports tree imports = record { «package» = tree.«package»; imports = imports; decl = tree.decl; semis = tree.semis }

abbrev with-star : ImportTree → Option (Tok × Tok) → ImportTree
with-star import star = record { word = import.word; name = import.name; star = star; semi = import.semi }

abbrev Told : UnitTree → List ImportTree → List ℕ → Type 0
Told tree imports text = (dotted java_lang ≡ text) ⊎ (Demands imports text)

behind-import : (tree : UnitTree) (import : ImportTree) (imports : List ImportTree) (text : List ℕ) → Told tree imports text → Told tree (import ∷ imports) text
behind-import tree import imports text (inl same) = inl same
behind-import tree import imports text (inr demands) =
    inr (record { import = demands.import; imports_it = behind import imports demands.import demands.imports_it; on_demand = demands.on_demand; is_text = demands.is_text })

-- the texts behind the first one
abbrev texts-behind : UnitTree → List ImportTree → List (List ℕ)
texts-behind tree imports = drop 1 (demand_texts (with-imports tree imports))

told : (tree : UnitTree) (imports : List ImportTree) (text : List ℕ) → Contains (demand_texts (with-imports tree imports)) text → Told tree imports text
told tree [] text has = by (either (dotted java_lang) [] text has)
  where
    by : (dotted java_lang ≡ text) ⊎ (Contains [] text) → Told tree [] text
    by (inl same) = inl same
    by (inr none) = absurd (in-none text none)
told tree (import ∷ imports) text has = by import.star refl has (λ rest. behind-import tree import imports text (told tree imports text rest))
  where
    second : (dotted_text import.name ≡ text) ⊎ (Contains (texts-behind tree imports) text) → IsSome import.star
        → (Contains (demand_texts (with-imports tree imports)) text → Told tree (import ∷ imports) text) → Told tree (import ∷ imports) text
    second (inl same) star later = inr (record { import = import; imports_it = here import imports; on_demand = star; is_text = same })
    second (inr rest) star later = later (behind (dotted java_lang) (texts-behind tree imports) text rest)

    first : (dotted java_lang ≡ text) ⊎ (Contains (dotted_text import.name ∷ texts-behind tree imports) text) → IsSome import.star
        → (Contains (demand_texts (with-imports tree imports)) text → Told tree (import ∷ imports) text) → Told tree (import ∷ imports) text
    first (inl same) star later = inl same
    first (inr rest) star later = second (either (dotted_text import.name) (texts-behind tree imports) text rest) star later

    by : (star : Option (Tok × Tok)) → import.star ≡ star → Contains (demand_texts (with-imports tree (with-star import star ∷ imports))) text
        → (Contains (demand_texts (with-imports tree imports)) text → Told tree (import ∷ imports) text) → Told tree (import ∷ imports) text
    by None is among later = later among
    by (Some star) is among later =
        first (either (dotted java_lang) (dotted_text import.name ∷ texts-behind tree imports) text among) (ap (λ (one : Option (Tok × Tok)). is_some one) is) later

pub demand-from : (tree : UnitTree) (text : List ℕ) → Contains (demand_texts tree) text → (dotted java_lang ≡ text) ⊎ (Demands tree.imports text)
demand-from tree text has = told tree tree.imports text has

-- and each of them is there
wider : (tree : UnitTree) (import : ImportTree) (imports : List ImportTree) (text : List ℕ) → Contains (demand_texts (with-imports tree imports)) text
    → Contains (demand_texts (with-imports tree (import ∷ imports))) text
wider tree import imports text has = by import.star
  where
    both : (dotted java_lang ≡ text) ⊎ (Contains (texts-behind tree imports) text) → Contains (dotted java_lang ∷ dotted_text import.name ∷ texts-behind tree imports) text
    both (inl same) =
        subst (λ (one : List ℕ). Contains (dotted java_lang ∷ dotted_text import.name ∷ texts-behind tree imports) one) same
        (here (dotted java_lang) (dotted_text import.name ∷ texts-behind tree imports))
    both (inr rest) =
        behind (dotted java_lang) (dotted_text import.name ∷ texts-behind tree imports) text (behind (dotted_text import.name) (texts-behind tree imports) text rest)

    by : (star : Option (Tok × Tok)) → Contains (demand_texts (with-imports tree (with-star import star ∷ imports))) text
    by None = has
    by (Some star) = both (either (dotted java_lang) (texts-behind tree imports) text has)

own : (tree : UnitTree) (import : ImportTree) (imports : List ImportTree) (star : Option (Tok × Tok)) → IsSome star
    → Contains (demand_texts (with-imports tree (with-star import star ∷ imports))) (dotted_text import.name)
own tree import imports None is = absurd (not-both is)
own tree import imports (Some star) is =
    behind (dotted java_lang) (dotted_text import.name ∷ texts-behind tree imports) (dotted_text import.name) (here (dotted_text import.name) (texts-behind tree imports))

tells : (tree : UnitTree) (imports : List ImportTree) (import : ImportTree) → Contains imports import → IsSome import.star
    → Contains (demand_texts (with-imports tree imports)) (dotted_text import.name)
tells tree [] import has star = absurd (in-none import has)
tells tree (first ∷ imports) import has star =
    by (either first imports import has) (λ rest. wider tree first imports (dotted_text import.name) (tells tree imports import rest star))
  where
    by : (first ≡ import) ⊎ (Contains imports import) → (Contains imports import → Contains (demand_texts (with-imports tree (first ∷ imports))) (dotted_text import.name))
        → Contains (demand_texts (with-imports tree (first ∷ imports))) (dotted_text import.name)
    by (inl same) later =
        subst (λ (one : ImportTree). Contains (demand_texts (with-imports tree (one ∷ imports))) (dotted_text import.name)) (sym same) (own tree import imports import.star star)
    by (inr rest) later = later rest

pub demand-lang : (tree : UnitTree) → Contains (demand_texts tree) (dotted java_lang)
demand-lang tree = here (dotted java_lang) (texts-behind tree tree.imports)

pub demand-has : (tree : UnitTree) (import : ImportTree) → Contains tree.imports import → IsSome import.star → Contains (demand_texts tree) (dotted_text import.name)
demand-has tree import has star = tells tree tree.imports import has star
