use Rattle.std.proofs.Common.{◌≡◌, ◌∙◌, ◌-◌, ap, sym, refl, subst, List, ℕ, [], ◌∷◌, ◌++◌, length, take, drop, Contains}
use Rattle.rf_request.specs.Opened.{with_new}
use Rattle.rf_request.proofs.ChoiceLemmas.{begins}
use Rattle.rf_request.proofs.SpareLemmas.{none_of, known_by, new_word, old_word}
use Rattle.rf_request.proofs.opened.each_once.Goals as goal

pub loop-rest-preserved-in_ok-push : goal.loop-rest-preserved-in_ok-push
loop-rest-preserved-in_ok-push c =
    let names = c.loop-rest.names in
    let once = c.loop-rest.once in
    let word = c.word-item.result in
    let rest = c.loop-rest.rest.now in
    let more = take (length rest - 1) (drop 1 rest) in
    let fresh : ¬ Contains names word =
    subst (λ (w : List ℕ). ¬ Contains names w) c.as_slice.ensures (none_of c.find.result _ _ c.is_none.result c.is_none.ensures c.if-is_none.true c.find.ensures) in
    let text : c.as_slice-then-is_none.result.now ≡ word = c.as_slice-then-is_none.ensures in
    let names_are : c.intern.new.self ≡ names ++ word ∷ [] =
    c.in_ok-intern.ensures.ok.fresh (subst (λ (w : List ℕ). ¬ Contains names w) (sym text) fresh)
    ∙ ap (λ (w : List ℕ). names ++ w ∷ []) text in
    let once_is : c.push.new.self ≡ once ++ word ∷ [] = c.in_ok-push.ensures.ok ∙ ap (λ (w : List ℕ). once ++ w ∷ []) c.in_ok-copy.ensures in
    record {
      same = names_are ∙ ap (λ (ws : List (List ℕ)). ws ++ word ∷ []) c.loop-rest.invariant.same ∙ sym once_is;
      once = ap (λ (ws : List (List ℕ)). with_new ws more) once_is
          ∙ sym (new_word once word more (subst (λ (ws : List (List ℕ)). ¬ Contains ws word) c.loop-rest.invariant.same fresh))
          ∙ ap (with_new once) (sym (begins rest word word c.in-len1-up.len_at_least c.word-item.is refl))
          ∙ c.loop-rest.invariant.once;
    }

pub loop-rest-preserved : goal.loop-rest-preserved
loop-rest-preserved c =
    let names = c.loop-rest.names in
    let once = c.loop-rest.once in
    let word = c.word-item.result in
    let rest = c.loop-rest.rest.now in
    let known : Contains names word =
    subst (Contains names) c.as_slice.ensures (known_by _ c.find.result names c.as_slice.result.now c.is_none.result c.is_none.ensures c.if-is_none.false c.find.ensures) in
    record {
      same = c.loop-rest.invariant.same;
      once = sym (old_word once word (take (length rest - 1) (drop 1 rest)) (subst (λ (ws : List (List ℕ)). Contains ws word) c.loop-rest.invariant.same known))
          ∙ ap (with_new once) (sym (begins rest word word c.in-len1-up.len_at_least c.word-item.is refl))
          ∙ c.loop-rest.invariant.once;
    }
