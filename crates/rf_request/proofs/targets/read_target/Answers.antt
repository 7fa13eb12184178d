use Rattle.std.proofs.Common.{◌≡◌, ◌∙◌, ap, sym, subst, List, ℕ, [], get_or, arith}
use Rattle.std.proofs.lemmas.List.{get_or_read}
use Rattle.std.proofs.lemmas.Slice.Eq.{bytes_eq-Decides}
use Rattle.rf_request.specs.declared.target_line.TargetLine.{TargetLine}
use Rattle.rf_request.specs.Targets.{IsTarget, Fits, target_line}
use Rattle.rf_request.proofs.TargetLemmas.{no_verb, is_target, so}
use Rattle.rf_request.proofs.targets.read_target.Goals as goal

pub returns-in_default-verb_named : goal.returns-in_default-verb_named
returns-in_default-verb_named c = no_verb c.args.number c.args.words.now (λ v is.
    c.in_default-verb_named.ensures v ((c.as_slice.ensures ∙ get_or_read c.args.words.now 0 c.verb-item.result (omega arith) c.verb-item.is []) ∙ is))

pub returns : goal.returns
returns c =
    let verb = c.in-Some.verb in
    let sort = c.in-Some-sort_named.sort in
    let name = get_or c.args.words.now 2 [] in
    let value = get_or c.args.words.now 4 [] in
    let to_word = (bytes_eq-Decides c.as_slice-3.result.now c.as_slice-4.result.now).0 (so _ (sym c.ne.ensures ∙ c.if-ne.false)) in
    let name_is : c.in_ok-name.name ≡ name = c.in_ok-name.ensures ∙ get_or_read c.args.words.now 2 c.name-item.result (omega arith) c.name-item.is [] in
    let value_is : c.in_ok-value.value ≡ value = c.in_ok-value.ensures ∙ get_or_read c.args.words.now 4 c.value-item.result (omega arith) c.value-item.is [] in
    let line : c.target_line.result ≡ target_line verb sort name value c.args.number =
    c.target_line.ensures
    ∙ ap (λ (n : List ℕ). target_line verb sort n c.in_ok-value.value c.args.number) name_is
    ∙ ap (λ (v : List ℕ). target_line verb sort name v c.args.number) value_is in
    subst (λ (t : TargetLine). IsTarget c.args.number c.args.words.now t) (sym line)
    (is_target c.args.number c.args.words.now verb sort (omega arith)
    (sym (c.as_slice.ensures ∙ get_or_read c.args.words.now 0 c.verb-item.result (omega arith) c.verb-item.is []) ∙ c.in-Some.ensures)
    (sym (c.as_slice-2.ensures ∙ get_or_read c.args.words.now 1 c.kind-item.result (omega arith) c.kind-item.is []) ∙ c.in-Some-sort_named.ensures)
    (sym (c.as_slice-3.ensures ∙ get_or_read c.args.words.now 3 c.to-item.result (omega arith) c.to-item.is []) ∙ to_word ∙ c.as_slice-4.ensures)
    (subst (Fits verb sort) (c.as_slice-else-ne.ensures ∙ get_or_read c.args.words.now 4 c.value-item.result (omega arith) c.value-item.is []) (c.fits.ensures.0 c.if-not-fits.false)))
