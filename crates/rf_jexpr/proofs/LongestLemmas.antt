-- A reader that reads only trees that fit, and leaves no more than any such tree does, reads the longest one.
use Rattle.std.proofs.Common.{◌≡◌, ℕ, ◌≤◌, List, ◌++◌, Some, None, Ok, drop, length, length-drop, arith}
use Rattle.rf_jtree.specs.declared.tokens.Tok.{Tok}
use Rattle.rf_jexpr.specs.Longest.{IsTreeAt, NoneIsLonger, NoneStands, IsLongestOf}
use Rattle.rf_jexpr.specs.Reads.{Reads}
use Rattle.rf_jexpr.proofs.LoopLemmas.{IsSound}
use Rattle.rf_jexpr.proofs.Within.{Reaches, IsFar}

-- it fits, and is no deeper than the room
pub record IsShallow {A : Type 0} (Fits : A → Type 0) (depth : A → ℕ) (room : ℕ) (tree : A) : Type 0 where
  pub fits : Fits tree
  pub shallow : depth tree ≤ room

-- what makes a reader one of the longest trees
pub record ReadsLongest {A : Type 0} (Fits : A → Type 0) (yield : A → List Tok) (depth : A → ℕ) (room : ℕ) (read : Reads A) : Type 0 where
  pub sound : IsSound (IsShallow Fits depth room) yield read
  pub far : IsFar (IsShallow Fits depth room) yield read

module _ {A : Type 0} (Fits : A → Type 0) (yield : A → List Tok) (depth : A → ℕ) (room : ℕ) (read : Reads A) (l : ReadsLongest Fits yield depth room read) (toks : List Tok) (start : ℕ) where
  -- any tree there is reached
  reached : (other : A) (to : ℕ) → IsTreeAt Fits yield depth toks start room other to → Reaches (length (drop to toks)) (read (drop start toks))
  reached other to at = rw at.takes (l.far other (drop to toks) (record { fits = at.fits; shallow = at.shallow }))

  tree_at : (tree : A) (end : ℕ) → read (drop start toks) ≡ Some (tree, drop end toks) → end ≤ length toks → IsTreeAt Fits yield depth toks start room tree end
  tree_at tree end found within =
      let taken = l.sound (drop start toks) (tree, drop end toks) found in
      record { fits = taken.fits.fits; shallow = taken.fits.shallow; within = within; takes = taken.takes }

  none_longer : (tree : A) (end : ℕ) → read (drop start toks) ≡ Some (tree, drop end toks) → end ≤ length toks → NoneIsLonger Fits yield depth toks start room end
  none_longer tree end found within other to at =
      let far = reached other to at in
      let same : far.to.1 ≡ drop end toks = cc (far.reads, found) in
      let left : length (drop end toks) ≤ length (drop to toks) = rw (← same) far.left in
      let inside : to ≤ length toks = at.within in
      omega (arith, length-drop end toks, length-drop to toks)

  pub none_stands : read (drop start toks) ≡ None → NoneStands Fits yield depth toks start room
  none_stands missing other to at = let far = reached other to at in cc (far.reads, missing)

  -- what the code answers then
  pub is_longest : {B : Type 0} (shown : B → A) (tree : B) (end : ℕ) → read (drop start toks) ≡ Some (shown tree, drop end toks) → end ≤ length toks → IsLongestOf Fits yield depth shown toks start room (Ok (tree, end))
  is_longest shown tree end found within = (tree_at (shown tree) end found within, none_longer (shown tree) end found within)
