use Rattle.std.proofs.Common.{ℕ, ◌+◌, List, ◌∙◌, subst}
use Rattle.std.proofs.lemmas.List.{take_all}
use Rattle.rf_make.specs.Meanings.{meant}
use Rattle.rf_make.proofs.Walking.{Front, front_more, front_all, ended, implies_left, or_left, and_left, implies_made, or_made, and_made, not_made, every_made, exists_made, truth_tells, slot_tells, derived_tells, compare_made}
use Rattle.rf_make.proofs.walks.+makes.Goals as goal

pub gather-returns-then-gathered : goal.gather-returns-then-gathered
gather-returns-then-gathered t c = ended c.args.maker.now c.args.many.now.body c.args.all c.args.found.now c.add.new.gathered c.finished.result
    (front_all c.args.maker.now c.args.many.now.body c.args.all c.args.found.now c.add.new.gathered (c.loop-numbers.numbers-index + 1) (c.in_ok-add.ensures.same ∙ c.loop-numbers.invariant.0) c.if-gathered.true
    (front_more c.args.maker.now c.args.many.now.body c.args.all c.args.found.now c.loop-numbers.gathered c.add.new.gathered c.loop-numbers.numbers-index c.get.result.now c.numbers-item.result
    c.as_slice.result.now c.in_ok-form.form c.loop-numbers-test.true c.numbers-item.is c.loop-numbers.invariant.0 c.loop-numbers.invariant.1 c.get.ensures c.as_slice.ensures c.in_ok-form.ensures
    c.in_ok-add.ensures.grown)) c.finished.ensures

pub gather-returns : goal.gather-returns
gather-returns t c = ended c.args.maker.now c.args.many.now.body c.args.all c.args.found.now c.loop-numbers.gathered c.finished-2.result
    (subst (λ (ts : List (List ℕ)). Front c.args.maker.now c.args.many.now.body c.args.all c.args.found.now ts c.loop-numbers.gathered)
    (take_all c.loop-numbers.numbers-index c.args.found.now c.loop-numbers-test.false) c.loop-numbers.invariant.1) c.finished-2.ensures

pub make-returns-then-is_true : goal.make-returns-then-is_true
make-returns-then-is_true t c = implies_left c.args.maker.now c.args.taken.now c.args.body.now c.in-Implies.left c.in-Implies.right c.get.result.now c.in_ok-left-in-Implies.left c.in_ok-denied-in-Implies.denied
    c.in-Implies.is c.get.ensures c.in_ok-left-in-Implies.ensures c.in_ok-denied-in-Implies.ensures (c.is_true.ensures c.if-is_true.true)

pub make-returns-then-is_true-2 : goal.make-returns-then-is_true-2
make-returns-then-is_true-2 t c = or_left c.args.maker.now c.args.taken.now c.args.body.now c.in-Or.left c.in-Or.right c.get-in-Or.result.now c.in_ok-left-in-Or.left
    c.in-Or.is c.get-in-Or.ensures c.in_ok-left-in-Or.ensures (c.is_true-in-Or.ensures c.if-is_true-2.true)

pub make-returns-then-is_false : goal.make-returns-then-is_false
make-returns-then-is_false t c = and_left c.args.maker.now c.args.taken.now c.args.body.now c.in-And.left c.in-And.right c.get-in-And.result.now c.in_ok-left-in-And.left
    c.in-And.is c.get-in-And.ensures c.in_ok-left-in-And.ensures (c.is_false.ensures c.if-is_false.true)

pub make-returns-in_ok-right-in-Implies : goal.make-returns-in_ok-right-in-Implies
make-returns-in_ok-right-in-Implies t c = implies_made c.args.maker.now c.args.taken.now c.args.body.now c.in-Implies.left c.in-Implies.right c.get.result.now c.get-in-Implies.result.now
    c.in_ok-left-in-Implies.left c.in_ok-right-in-Implies.right c.either_of.result c.in_ok-denied-in-Implies.denied c.in-Implies.is c.get.ensures c.get-in-Implies.ensures
    c.in_ok-left-in-Implies.ensures c.in_ok-right-in-Implies.ensures c.in_ok-denied-in-Implies.ensures c.either_of.ensures

pub make-returns-in_ok-right-in-Or : goal.make-returns-in_ok-right-in-Or
make-returns-in_ok-right-in-Or t c = or_made c.args.maker.now c.args.taken.now c.args.body.now c.in-Or.left c.in-Or.right c.get-in-Or.result.now c.get-in-Or-2.result.now
    c.in_ok-left-in-Or.left c.in_ok-right-in-Or.right c.either_of-in-Or.result c.in-Or.is c.get-in-Or.ensures c.get-in-Or-2.ensures c.in_ok-left-in-Or.ensures c.in_ok-right-in-Or.ensures c.either_of-in-Or.ensures

pub make-returns-in_ok-right-in-And : goal.make-returns-in_ok-right-in-And
make-returns-in_ok-right-in-And t c = and_made c.args.maker.now c.args.taken.now c.args.body.now c.in-And.left c.in-And.right c.get-in-And.result.now c.get-in-And-2.result.now
    c.in_ok-left-in-And.left c.in_ok-right-in-And.right c.both_of.result c.in-And.is c.get-in-And.ensures c.get-in-And-2.ensures c.in_ok-left-in-And.ensures c.in_ok-right-in-And.ensures c.both_of.ensures

pub make-returns-in_ok-inner-in-Not : goal.make-returns-in_ok-inner-in-Not
make-returns-in_ok-inner-in-Not t c = not_made c.args.maker.now c.args.taken.now c.args.body.now c.in-Not.inner c.get-in-Not.result.now c.in_ok-inner-in-Not.inner c.negated-in-Not.result
    c.in-Not.is c.get-in-Not.ensures c.in_ok-inner-in-Not.ensures c.negated-in-Not.ensures

pub make-returns-in_ok-found-in-Every : goal.make-returns-in_ok-found-in-Every
make-returns-in_ok-found-in-Every t c = every_made c.args.maker.now c.args.taken.now c.args.body.now c.in-Every.many c.as_slice.result.now c.as_slice-in-Every.result.now c.in_ok-found-in-Every.found c.as_slice-in-Every-2.result.now
    c.gather.result c.in-Every.is (c.as_slice.ensures, c.as_slice-in-Every.ensures, c.in_ok-found-in-Every.ensures, c.as_slice-in-Every-2.ensures) c.gather.ensures

pub make-returns-in_ok-found-in-Exists : goal.make-returns-in_ok-found-in-Exists
make-returns-in_ok-found-in-Exists t c = exists_made c.args.maker.now c.args.taken.now c.args.body.now c.in-Exists.many c.as_slice-in-Exists.result.now c.as_slice-in-Exists-2.result.now c.in_ok-found-in-Exists.found
    c.as_slice-in-Exists-3.result.now c.gather-in-Exists.result c.in-Exists.is (c.as_slice-in-Exists.ensures, c.as_slice-in-Exists-2.ensures, c.in_ok-found-in-Exists.ensures, c.as_slice-in-Exists-3.ensures) c.gather-in-Exists.ensures

pub make-returns-in-Truth : goal.make-returns-in-Truth
make-returns-in-Truth t c = truth_tells c.args.maker.now c.args.taken.now c.args.body.now c.in-Truth.value c.constant.result c.in-Truth.is c.constant.ensures

pub make-returns-in-Slot : goal.make-returns-in-Slot
make-returns-in-Slot t c = slot_tells c.args.maker.now c.args.taken.now c.args.body.now c.in-Slot.places c.as_slice-in-Slot.result.now (meant c.slot_of.result) c.is_one.result
    c.in-Slot.is c.as_slice-in-Slot.ensures c.slot_of.ensures c.is_one.ensures

pub make-returns-in_ok-value-in-Derived : goal.make-returns-in_ok-value-in-Derived
make-returns-in_ok-value-in-Derived t c = derived_tells c.args.maker.now c.args.taken.now c.args.body.now c.in-Derived.which c.in-Derived.places c.as_slice-in-Derived.result.now (meant c.in_ok-value-in-Derived.value)
    c.is_one-in-Derived.result c.in-Derived.is c.as_slice-in-Derived.ensures c.in_ok-value-in-Derived.ensures c.is_one-in-Derived.ensures

pub make-returns-in-Compare : goal.make-returns-in-Compare
make-returns-in-Compare t c = compare_made c.args.maker.now c.args.taken.now c.args.body.now c.in-Compare.left c.in-Compare.how c.in-Compare.right (meant c.value_of-left.result) (meant c.value_of-right.result) c.atom.result
    c.in-Compare.is c.value_of-left.ensures c.value_of-right.ensures c.atom.ensures
