use Rattle.std.proofs.Common.{All, sym, ◌∙◌, subst}
use Rattle.std.proofs.lemmas.Bool.{false≢true}
use Rattle.rf_engine.specs.FieldNames.{IsBound}
use Rattle.rf_engine.proofs.FormLemmas.{few_fields, form_file_seen, bound_in_parts, file_is_read}
use Rattle.rf_engine.proofs.first_parts.read_file.Goals as goal

pub declared-requires : goal.declared-requires
declared-requires c = few_fields c.args.file.now c.in-Some.class (rw c.in-Some.is at c.in_ok-class.ensures) c.if-file-gt-FILE_LIMIT.false

pub returns-in_default-2 : goal.returns-in_default-2
returns-in_default-2 c = λ class is.
    let reading = rw c.in-Some.is at c.in_ok-class.ensures in
    let twice = rw c.in_default-2.is at c.in_ok-names.ensures in
    twice (form_file_seen c.args.path.now c.args.file.now c.in-Some.class class reading is).distinct

pub returns-then-not-are_bound : goal.returns-then-not-are_bound
returns-then-not-are_bound c = λ class is.
    let reading = rw c.in-Some.is at c.in_ok-class.ensures in
    let names_are = (rw c.in-Some-2.is at c.in_ok-names.ensures).0 in
    let bound = bound_in_parts c.in-Some.class (form_file_seen c.args.path.now c.args.file.now c.in-Some.class class reading is).bound in
    let bound_in_names = subst (λ names. All (IsBound names) c.in-Some.class.fields) (sym names_are) bound in
    false≢true (sym c.if-not-are_bound.true ∙ c.are_bound.ensures.1 (subst (All (IsBound c.in-Some-2.names)) (sym c.as_slice.ensures) bound_in_names))

pub returns : goal.returns
returns c =
    let reading = rw c.in-Some.is at c.in_ok-class.ensures in
    let names = rw c.in-Some-2.is at c.in_ok-names.ensures in
    let bound = subst (All (IsBound c.in-Some-2.names)) c.as_slice.ensures (c.are_bound.ensures.0 c.if-not-are_bound.false) in
    file_is_read c.args.path.now c.args.file.now _ reading c.if-file-gt-FILE_LIMIT.false (c.is_path_of.ensures.0 c.if-not-is_path_of.false) names.0 names.1 bound
