-- The reader of what begins with `new` reads the longest creation.
use Rattle.std.proofs.Common.{◌≡◌, ℕ, zero, suc, ◌<◌, ◌-◌, ◌≤◌, List, [], ◌∷◌, ◌++◌, Some, None, length, refl, ap, sym, subst, append_assoc, arith, le_refl}
use Rattle.rf_jtree.specs.declared.tokens.Tok.{Tok}
use Rattle.rf_jtree.specs.declared.keyword_names.TheConstants.{NEW}
use Rattle.rf_jtree.specs.ExprFits.{ExprFits}
use Rattle.rf_jtree.specs.ExprShown.{sizes_tree}
use Rattle.rf_jtree.specs.ExprTrees.{ExprTree, New, NewArray, NewInit, expr_yield, expr_depth, args_yield}
use Rattle.rf_jtree.specs.Kinds.{IsKey}
use Rattle.rf_jtree.specs.NameTrees.{TypeBaseTree, Prim, Named, name_yield}
use Rattle.rf_jexpr.specs.Descent.{parsers, creations}
use Rattle.rf_jexpr.specs.Longest.{IsCreation, CreationFits}
use Rattle.rf_jexpr.specs.NameReads.{dims, type_base}
use Rattle.rf_jexpr.specs.PartReads.{Parsers, args, sized, braces}
use Rattle.rf_jexpr.specs.PrimaryReads.{new_class, has_brackets, new_filled, new_array, creation, first_part}
use Rattle.rf_jexpr.specs.Reads.{when, is_key, token, many}
use Rattle.rf_jexpr.proofs.CompleteFirst.{to_new, new-exact, filled-exact, array-far}
use Rattle.rf_jexpr.proofs.CompleteParts.{AreComplete, reads-same}
use Rattle.rf_jexpr.proofs.CompletePrimary.{array_tokens, filled_tokens}
use Rattle.rf_jexpr.proofs.CompleteRooms.{parsers-complete}
use Rattle.rf_jexpr.proofs.LongestLemmas.{ReadsLongest}
use Rattle.rf_jexpr.proofs.Sound.{parsers-sound}
use Rattle.rf_jexpr.proofs.SoundPrimary.{creation-sound}
use Rattle.rf_jexpr.proofs.Tools.{bound, of_bind, where_true, where_false, of_if, by_some}
use Rattle.rf_jexpr.proofs.Within.{Reaches, reaches-Some}

-- ---- what is read is a creation

module _ (p : Parsers) where
  class_is : (word : Tok) (base : TypeBaseTree) (toks : List Tok) (y : ExprTree × List Tok) → new_class p word base toks ≡ Some y → IsCreation y.0
  unfolding new_class
  class_is word (Prim tok) toks y h = absurd (cc)
  class_is word (Named class) toks y h = elim (of_bind (args p toks) _ _ h) [
    | bound list found same ↦ by_some (λ (z : ExprTree × List Tok). IsCreation z.0) (New word class list.0, list.1) y same tt
  ]

  array_is : (word : Tok) (base : TypeBaseTree) (sizes : List (Tok × ExprTree × Tok)) (toks : List Tok) (y : ExprTree × List Tok) → new_array p word base sizes toks ≡ Some y → IsCreation y.0
  unfolding new_array new_filled
  array_is word base [] toks y h = elim (of_bind (dims toks) _ _ h) [
    | bound bracket_pairs found rest ↦ elim (of_bind (when (has_brackets bracket_pairs.0) (braces p bracket_pairs.1)) _ _ rest) [
      | bound items items_found same ↦ by_some (λ (z : ExprTree × List Tok). IsCreation z.0) (NewInit word base bracket_pairs.0 items.0, items.1) y same tt
    ]
  ]
  array_is word base (size ∷ sizes) toks y h = elim (of_bind (dims toks) _ _ h) [
    | bound bracket_pairs found same ↦ by_some (λ (z : ExprTree × List Tok). IsCreation z.0) (NewArray word base (sizes_tree (size ∷ sizes)) bracket_pairs.0, bracket_pairs.1) y same tt
  ]

  creation_is : (toks : List Tok) (y : ExprTree × List Tok) → creation p toks ≡ Some y → IsCreation y.0
  unfolding creation
  creation_is toks y h = elim (of_bind (token (is_key NEW) toks) _ _ h) [
    | bound word word_found found ↦ elim (of_bind (type_base word.1) _ _ found) [
      | bound base base_found rest ↦ elim (of_if _ _ _ _ rest) [
        | where_true paren class ↦ class_is word.0 base.0 base.1 y class
        | where_false no_paren array ↦ elim (of_bind (many (sized p) base.1) _ _ array) [
          | bound sizes sizes_found last ↦ array_is word.0 base.0 sizes.0 sizes.1 y last
        ]
      ]
    ]
  ]

-- ---- each creation is reached

module _ (m : ℕ) (p : Parsers) (c : AreComplete m p) where
  -- a first part that begins with `new` is a creation
  as_creation : (word : Tok) (toks rest : List Tok) → IsKey NEW word → Reaches (length rest) (first_part m p (word ∷ toks)) → Reaches (length rest) (creation p (word ∷ toks))
  as_creation word toks rest is reached = rw (← to_new m p word toks is) reached

  creation-far : (tree : ExprTree) (rest : List Tok) → IsCreation tree → ExprFits tree → expr_depth tree ≤ suc m → Reaches (length rest) (creation p (expr_yield tree ++ rest))
  creation-far (New word class list) rest is fit shallow =
      as_creation word _ rest fit.0 (reaches-Some (length rest) _ (New word class list, rest)
      (reads-same (first_part m p) (ap (λ others. word ∷ others) (append_assoc (name_yield class) (args_yield list) rest)) (new-exact m p c word class list rest fit.0 fit.1 (record { fits = fit.2; shallow = omega arith }))) (le_refl (length rest)))
  creation-far (NewInit word base bracket_pairs items) rest is fit shallow =
      as_creation word _ rest fit.0 (reaches-Some (length rest) _ (NewInit word base bracket_pairs items, rest)
      (reads-same (first_part m p) (filled_tokens word base bracket_pairs items rest) (filled-exact m p c word base bracket_pairs items rest fit.0 fit.1 fit.2 fit.3 (record { fits = fit.4; shallow = omega arith }))) (le_refl (length rest)))
  creation-far (NewArray word base sizes bracket_pairs) rest is fit shallow =
      as_creation word _ rest fit.0
      (subst (λ (toks : List Tok). Reaches (length rest) (first_part m p toks)) (sym (array_tokens word base sizes bracket_pairs rest)) (array-far m p c word base sizes bracket_pairs rest fit.0 fit.1 fit.2 fit.3 (omega arith) fit.4))
  creation-far expr rest is fit shallow = absurd is

-- ---- in each room

no_creation : (tree : ExprTree) → IsCreation tree → expr_depth tree ≤ 0 → ⊥
no_creation (New word class list) is shallow = omega arith
no_creation (NewArray word base sizes bracket_pairs) is shallow = omega arith
no_creation (NewInit word base bracket_pairs items) is shallow = omega arith
no_creation expr is shallow = is

pub creations_longest : (room : ℕ) → ReadsLongest CreationFits expr_yield expr_depth room (creations room)
unfolding creations
creations_longest zero = record {
  sound = λ toks y h. absurd (cc);
  far = λ x rest good. absurd (no_creation x good.fits.0 good.shallow);
}
creations_longest (suc m) = record {
  sound = λ toks y h. let taken = creation-sound m (parsers m) (parsers-sound m) toks y h in record { fits = record { fits = (creation_is (parsers m) toks y h, taken.fits.fits); shallow = taken.fits.shallow }; takes = taken.takes };
  far = λ x rest good. creation-far m (parsers m) (parsers-complete m) x rest good.fits.0 good.fits.1 good.shallow;
}

-- ---- what the code calls

pub creations-empty : (room : ℕ) (toks : List Tok) → room ≡ 0 → creations room toks ≡ None
unfolding creations
creations-empty room toks h = rw h refl

pub creations-room : (room : ℕ) (toks : List Tok) → 0 < room → creations room toks ≡ creation (parsers (room - 1)) toks
unfolding creations
creations-room zero toks h = absurd (omega arith)
creations-room (suc m) toks h = let e : suc m - 1 ≡ m = omega arith in rw e refl
