use Rattle.std.proofs.Common.{◌≡◌, drop, slice_index_or}
use Rattle.rf_form.specs.Shown.{forms_of}
use Rattle.rf_form.specs.Truths.{all_true, any_true}
use Rattle.rf_form.proofs.truths.+eval.Given as goal

abbrev pub invariant-each_is_true-loop-f : goal.invariant-each_is_true-loop-f
invariant-each_is_true-loop-f l =
    all_true (λ x. slice_index_or l.a x 0) (forms_of l.fs)
    ≡ all_true (λ x. slice_index_or l.a x 0) (forms_of (drop l.f-index l.fs))

abbrev pub invariant-some_is_true-loop-f : goal.invariant-some_is_true-loop-f
invariant-some_is_true-loop-f l =
    any_true (λ x. slice_index_or l.a x 0) (forms_of l.fs)
    ≡ any_true (λ x. slice_index_or l.a x 0) (forms_of (drop l.f-index l.fs))
