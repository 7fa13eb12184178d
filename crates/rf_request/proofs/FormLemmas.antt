-- The parts of a package.
use Rattle.std.proofs.Common.{◌≡◌, ◌↔◌, ◌∙◌, ap, sym, subst, ℕ, List, [], ◌∷◌, take, drop, All}
use Rattle.std.specs.List.{slice_split, prefix_len}
use Rattle.std.proofs.lemmas.List.Elements.{All-nil, All-cons, All-head, All-tail}
use Rattle.rf_jtree.specs.declared.tokens.TokKind.TheVariants as kind
use Rattle.rf_jtree.specs.Tokens.{IsToken}
use Rattle.rf_request.specs.Forms.{is_dot, is_in_part, IsPackage}
use Rattle.rf_request.proofs.CutLemmas.{behind, parts_at}

abbrev IsPart : List ℕ → Type 0
IsPart = IsToken kind.Ident

pub parts_of : (text part rest : List ℕ) → part ≡ take (prefix_len is_in_part text) text → rest ≡ drop (prefix_len is_in_part text) text →
    slice_split is_dot text ≡ part ∷ behind is_dot rest
parts_of text part rest part_is rest_is =
    parts_at is_dot text
    ∙ ap (λ (p : List ℕ). p ∷ behind is_dot (drop (prefix_len is_in_part text) text)) (sym part_is)
    ∙ ap (λ (r : List ℕ). part ∷ behind is_dot r) (sym rest_is)

module _ (text part : List ℕ) (more : List (List ℕ)) (parts : slice_split is_dot text ≡ part ∷ more) where
  pub first_of : IsPackage text → IsPart part
  first_of whole = All-head IsPart part more (subst (All IsPart) parts whole)

  pub more_of : IsPackage text → All IsPart more
  more_of whole = All-tail IsPart part more (subst (All IsPart) parts whole)

  pub package_of : IsPart part → All IsPart more → IsPackage text
  package_of first rest = subst (All IsPart) (sym parts) (All-cons IsPart part more first rest)

-- a part with a dot behind it
pub package_on : (text part rest : List ℕ) → slice_split is_dot text ≡ part ∷ slice_split is_dot rest → IsPart part → IsPackage rest ↔ IsPackage text
package_on text part rest parts first = (package_of text part (slice_split is_dot rest) parts first, more_of text part (slice_split is_dot rest) parts)

-- the last part
pub package_ends : (text part : List ℕ) → slice_split is_dot text ≡ part ∷ [] → IsPart part → IsPackage text
package_ends text part parts first = package_of text part [] parts first (All-nil IsPart)
