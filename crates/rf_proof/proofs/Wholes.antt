-- Whole texts, and texts with a bad line.
use Rattle.std.proofs.Common.{◌≡◌, ◌≢◌, ◌⊎◌, ℕ, zero, suc, ◌+◌, ◌-◌, ◌<◌, ◌≤◌, ◌++◌, List, [], ◌∷◌, length, map, refl, sym, ap, ◌∙◌, subst, arith, inl, inr, append_assoc}
use Rattle.std.specs.Prelude.{Result, Ok, Err}
use Rattle.std.proofs.lemmas.List.{append-nil, append_cancel_left}
use Rattle.rf_refute.specs.Shown.{shown}
use Rattle.rf_refute.specs.Trees.{Node}
use Rattle.rf_refute.specs.declared.nodes.Tree.{Tree}
use Rattle.rf_proof.specs.Trees.{Leaves, IsWhole}
use Rattle.rf_proof.specs.Texts.{lines_of, version_line, text_of, HaveLines, IsText}
use Rattle.rf_proof.specs.Lines.{Breaks, BreaksBehind, IsBadLine, version, node}
use Rattle.rf_proof.specs.Readings.{Reads, Gives}
use Rattle.rf_proof.specs.declared.errors.TextErr.{TextErr}
use Rattle.rf_proof.specs.declared.errors.TextErr.TheVariants.{BadText, Memory}
use Rattle.rf_proof.proofs.Fronts.{Ends, front_same}

ends_whole : (ns : List Node) (text : List ℕ) → IsText ns text → text ≡ version_line ++ (lines_of ns ++ [])
ends_whole ns text is = is.text_is ∙ ap (λ (l : List ℕ). version_line ++ l) (sym (append-nil (lines_of ns)))

breaks_end : (left : ℕ) (rest : List ℕ) → Breaks left rest → Ends left rest
breaks_end zero rest b = inl refl
breaks_end (suc left) rest b = inr b

pub text_same : (ns ms : List Node) (text : List ℕ) → IsText ns text → IsText ms text → ns ≡ ms
text_same ns ms text one other = (front_same 1 ns ms 0 0 [] [] one.lines other.lines one.whole other.whole (inl refl) (inl refl)
    (append_cancel_left version_line _ _ (sym (ends_whole ns text one) ∙ ends_whole ms text other))).0

pub whole_has_no_bad_line : (ns : List Node) (text : List ℕ) (k : ℕ) → IsText ns text → IsBadLine text k → ⊥
whole_has_no_bad_line ns text k is (version none at) = none (lines_of ns) is.text_is
whole_has_no_bad_line ns text k is (node ms b at) =
    let same = front_same 1 ns ms 0 b.left [] b.rest is.lines b.lines is.whole b.leaves (inl refl) (breaks_end b.left b.rest b.breaks)
    (append_cancel_left version_line _ _ (sym (ends_whole ns text is) ∙ b.text_is)) in
    subst (λ (l : ℕ). Breaks l b.rest) (sym same.1.0) b.breaks (sym same.1.1)

pub bad_line_same : (text : List ℕ) (k j : ℕ) → IsBadLine text k → IsBadLine text j → k ≡ j
bad_line_same text k j (version none at) (version other there) = at ∙ sym there
bad_line_same text k j (version none at) (node ms b there) = absurd (none _ b.text_is)
bad_line_same text k j (node ns a at) (version none there) = absurd (none _ a.text_is)
bad_line_same text k j (node ns a at) (node ms b there) =
    let same = front_same 1 ns ms a.left b.left a.rest b.rest a.lines b.lines a.leaves b.leaves (breaks_end a.left a.rest a.breaks) (breaks_end b.left b.rest b.breaks)
    (append_cancel_left version_line _ _ (sym a.text_is ∙ b.text_is)) in
    at ∙ (ap (λ (l : List Node). length l + 2) same.0 ∙ sym there)

pub read_gives : (ns : List Node) (text : List ℕ) (r : Result Tree TextErr) → IsText ns text → Reads text r → Gives ns r
read_gives ns text (Ok tree) is h = text_same (map shown tree.nodes) ns text h is
read_gives ns text (Err (BadText line)) is h = whole_has_no_bad_line ns text line is h
read_gives ns text (Err Memory) is h = tt
