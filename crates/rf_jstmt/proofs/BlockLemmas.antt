-- The block that is read is the longest one, there is none where none is read, and no two blocks have the same tokens.
use Rattle.std.proofs.Common.{◌≡◌, ℕ, zero, suc, ◌+◌, ◌-◌, ◌≤◌, max, List, [], ◌++◌, Option, Some, None, drop, length, refl, ap, ◌∙◌, sym, arith, length-drop}
use Rattle.rf_jtree.specs.declared.tokens.Tok.{Tok}
use Rattle.rf_jtree.specs.StmtFits.{StmtFits, BlockFits}
use Rattle.rf_jtree.specs.StmtTrees.{StmtTree, Block, BlockTree, stmt_yield, block_yield, stmt_depth, block_depth}
use Rattle.rf_jexpr.proofs.LoopLemmas.{IsSound}
use Rattle.rf_jexpr.proofs.Tools.{by_some}
use Rattle.rf_jstmt.specs.BlockAt.{IsBlock, IsBlockAt, NoBlockIsLonger, NoBlockStands}
use Rattle.rf_jstmt.specs.StmtParts.{block}
use Rattle.rf_jstmt.specs.StmtReads.{block_alone, stmt_parsers, whole_block}
use Rattle.rf_jstmt.proofs.Exact.{whole_block-exact}
use Rattle.rf_jstmt.proofs.SoundParts.{block-sound}
use Rattle.rf_jstmt.proofs.SoundStmts.{stmt_parsers-sound}
use Rattle.rf_jmods.proofs.Steps.{step_part, at_last, done, one_more}

-- ---- no two blocks have the same tokens

same_block : (one other : BlockTree) → ◌≡◌ {A = Option (StmtTree × List Tok)} (Some (Block one, [])) (Some (Block other, [])) → one ≡ other
same_block one other h = let same : Block one ≡ Block other = by_some (λ z. Block one ≡ z.0) (Block one, []) (Block other, []) h refl in cc

pub one_block : (one other : BlockTree) → BlockFits one → BlockFits other → block_yield one ≡ block_yield other → one ≡ other
one_block one other fit other_fit same =
    let room : ℕ = max (block_depth one) (block_depth other) + 1 in
    let first = whole_block-exact room one [] fit (omega arith) in
    let second = whole_block-exact room other [] other_fit (omega arith) in
    same_block one other (sym first ∙ ap (λ toks. whole_block room (toks ++ [])) same ∙ second)

-- ---- the longest block

-- What is read is a block that fits and is no deeper than the room.
record GoodWhole (room : ℕ) (tree : StmtTree) : Type 0 where
  is_block : IsBlock tree
  fits : StmtFits tree
  shallow : stmt_depth tree ≤ room

whole_block-sound : (room : ℕ) → IsSound (GoodWhole room) stmt_yield (whole_block room)
unfolding whole_block block_alone
whole_block-sound zero toks y h = cc
whole_block-sound (suc m) toks y h =
    step_part _ _ (block (stmt_parsers m)) toks _ y (block-sound m (stmt_parsers m) (stmt_parsers-sound m)) h (λ braces a same.
    done (GoodWhole (suc m)) stmt_yield toks (Block braces.0) braces.1 y same (record { is_block = tt; fits = a.fits.fits; shallow = one_more _ m a.fits.shallow }) (at_last _ a.takes))

-- Where one tree is read, there is one rest.
same_rest : (x y : StmtTree × List Tok) → Some x ≡ Some y → x.1 ≡ y.1
same_rest x y h = by_some (λ z. x.1 ≡ z.1) x y h refl

-- Two places with the same tokens behind them are one.
same_place : (toks : List Tok) (one other : ℕ) → one ≤ length toks → other ≤ length toks → drop one toks ≡ drop other toks → one ≡ other
same_place toks one other h k same =
    let lengths : length toks - one ≡ length toks - other = sym (length-drop one toks) ∙ ap length same ∙ length-drop other toks in
    omega (arith, lengths)

module _ (toks : List Tok) (start room : ℕ) where
  -- any block there is read
  reached : (other : StmtTree) (to : ℕ) → IsBlockAt toks start room other to → whole_block room (drop start toks) ≡ Some (other, drop to toks)
  reached other to at = ap (whole_block room) at.takes ∙ by_form other at.is_block at.fits at.shallow
    where
      by_form : (tree : StmtTree) → IsBlock tree → StmtFits tree → stmt_depth tree ≤ room → whole_block room (stmt_yield tree ++ drop to toks) ≡ Some (tree, drop to toks)
      by_form (Block braces) is fit shallow = whole_block-exact room braces (drop to toks) fit shallow
      by_form tree is fit shallow = absurd is

  pub block_at : (tree : StmtTree) (end : ℕ) → whole_block room (drop start toks) ≡ Some (tree, drop end toks) → end ≤ length toks → IsBlockAt toks start room tree end
  block_at tree end found within =
      let part = whole_block-sound room (drop start toks) (tree, drop end toks) found in
      record { is_block = part.fits.is_block; fits = part.fits.fits; shallow = part.fits.shallow; within = within; takes = part.takes }

  -- there is no other one at all
  pub no_block_longer : (tree : StmtTree) (end : ℕ) → whole_block room (drop start toks) ≡ Some (tree, drop end toks) → end ≤ length toks → NoBlockIsLonger toks start room end
  no_block_longer tree end found within other to at =
      let rests : drop to toks ≡ drop end toks = same_rest (other, drop to toks) (tree, drop end toks) (sym (reached other to at) ∙ found) in
      let same : to ≡ end = same_place toks to end at.within within rests in
      omega (arith, same)

  pub no_block_stands : whole_block room (drop start toks) ≡ None → NoBlockStands toks start room
  no_block_stands none other to at = let read = reached other to at in cc
