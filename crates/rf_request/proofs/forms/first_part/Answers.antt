use Rattle.std.proofs.Common.{◌∙◌, ap, ◌∷◌, List, ℕ, take, drop, arith}
use Rattle.rf_request.specs.Forms.{is_dot}
use Rattle.rf_request.proofs.FormLemmas.{parts_of}
use Rattle.rf_request.proofs.CutLemmas.{behind_none, behind_some}
use Rattle.rf_request.proofs.forms.first_part.Goals as goal

pub returns-in-empty-clause-parts : goal.returns-in-empty-clause-parts
returns-in-empty-clause-parts c =
    parts_of c.args.text.now _ _ (c.split_at.ensures.front ∙ ap (λ n. take n c.args.text.now) c.part_length.ensures.value) (c.split_at.ensures.back ∙ ap (λ n. drop n c.args.text.now) c.part_length.ensures.value)
    ∙ ap (λ (more : List (List ℕ)). c.split_at.result.0.now ∷ more) (behind_none is_dot c.split_at.result.1.now (omega arith))

pub returns-in-len1-up-clause-parts : goal.returns-in-len1-up-clause-parts
returns-in-len1-up-clause-parts c =
    parts_of c.args.text.now _ _ (c.split_at.ensures.front ∙ ap (λ n. take n c.args.text.now) c.part_length.ensures.value) (c.split_at.ensures.back ∙ ap (λ n. drop n c.args.text.now) c.part_length.ensures.value)
    ∙ ap (λ (more : List (List ℕ)). c.split_at.result.0.now ∷ more) (behind_some is_dot c.split_at.result.1.now (omega arith))
