use Rattle.std.proofs.Common.{◌∙◌, sym, subst, List, ℕ, codes, IfOk}
use Rattle.std.proofs.lemmas.Bool.Decides.{Decides-eqb}
use Rattle.std.proofs.lemmas.Slice.Eq.{slice_eq-Decides}
use Rattle.rf_request.specs.Choices.{IsChoiceOf}
use Rattle.rf_request.proofs.ChoiceLemmas.{begins}
use Rattle.rf_request.proofs.choice_reader.read_choice.Goals as goal

pub returns-then-eq : goal.returns-then-eq
returns-then-eq c =
    let word = sym c.as_slice-first.ensures ∙ (slice_eq-Decides Decides-eqb _ _ _ c.eq.ensures).0 c.if-eq.true ∙ c.as_slice.ensures in
    subst (λ (ws : List (List ℕ)). IfOk c.allow.result (IsChoiceOf ws)) (sym (begins c.args.words.now (codes "allow") c.first-item.result c.in-len1-up.len_at_least c.first-item.is word)) c.allow.ensures

pub returns-then-eq-2 : goal.returns-then-eq-2
returns-then-eq-2 c =
    let word = sym c.as_slice-first.ensures ∙ (slice_eq-Decides Decides-eqb _ _ _ c.eq-2.ensures).0 c.if-eq-2.true ∙ c.as_slice-2.ensures in
    subst (λ (ws : List (List ℕ)). IfOk c.spare.result (IsChoiceOf ws)) (sym (begins c.args.words.now (codes "spare") c.first-item.result c.in-len1-up.len_at_least c.first-item.is word)) c.spare.ensures

pub returns-then-eq-3 : goal.returns-then-eq-3
returns-then-eq-3 c =
    let word = sym c.as_slice-first.ensures ∙ (slice_eq-Decides Decides-eqb _ _ _ c.eq-3.ensures).0 c.if-eq-3.true ∙ c.as_slice-3.ensures in
    subst (λ (ws : List (List ℕ)). IsChoiceOf ws c.decisions.result) (sym (begins c.args.words.now (codes "decisions") c.first-item.result c.in-len1-up.len_at_least c.first-item.is word)) c.decisions.ensures

pub returns-then-eq-4 : goal.returns-then-eq-4
returns-then-eq-4 c =
    let word = sym c.as_slice-first.ensures ∙ (slice_eq-Decides Decides-eqb _ _ _ c.eq-4.ensures).0 c.if-eq-4.true ∙ c.as_slice-4.ensures in
    subst (λ (ws : List (List ℕ)). IfOk c.keep.result (IsChoiceOf ws)) (sym (begins c.args.words.now (codes "keep") c.first-item.result c.in-len1-up.len_at_least c.first-item.is word)) c.keep.ensures

pub returns-then-eq-5 : goal.returns-then-eq-5
returns-then-eq-5 c =
    let word = sym c.as_slice-first.ensures ∙ (slice_eq-Decides Decides-eqb _ _ _ c.eq-5.ensures).0 c.if-eq-5.true ∙ c.as_slice-5.ensures in
    subst (λ (ws : List (List ℕ)). IfOk c.rules.result (IsChoiceOf ws)) (sym (begins c.args.words.now (codes "rules") c.first-item.result c.in-len1-up.len_at_least c.first-item.is word)) c.rules.ensures
