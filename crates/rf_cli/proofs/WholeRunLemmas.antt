-- What was decided, and what a put and a write may have come to.
use Rattle.std.proofs.Common.{◌≡◌, ◌≢◌, ℕ, Bool, true, false, cond, List, [], ◌⊎◌, Option, Some, None, sym, subst, ◌∙◌, inl, inr}
use Rattle.std.specs.List.{list_any}
use Rattle.std.specs.Str.{bytes_eq}
use Rattle.std.proofs.lemmas.Bool.{false≢true}
use Rattle.std.proofs.lemmas.Slice.Eq.{bytes_eq-Decides}
use Rattle.rf_world.specs.Fault.{Rose}
use Rattle.rf_world.specs.World.{Files, MayHoldPrefix}
use Rattle.rf_engine.specs.declared.first_form.FirstPath.{FirstPath}
use Rattle.rf_engine.specs.declared.first_form.FirstPath.TheVariants.{Changed, Refused, NotYet}
use Rattle.rf_engine.specs.FirstForm.{FirstForm, answer_of}
use Rattle.rf_engine.specs.ClassFile.{names_of}
use Rattle.rf_cli.specs.declared.status.Status.{Status}
use Rattle.rf_cli.specs.declared.status.Status.TheVariants as status
use Rattle.rf_cli.specs.Acting.{RunState, WriteEnd, run_state, Acts}
use Rattle.rf_cli.specs.Command.{Apply, IsApply, IsRules, built_in}
use Rattle.rf_cli.specs.Put.{IsPut, PutEnd, Puts, SinkState, PutsWriteFault}
use Rattle.rf_cli.specs.Inputs.{HoldsForm, IsRight}
use Rattle.rf_cli.specs.WholeRun.{HasAnswer, HasNoForm}

-- a failed call or want of memory, other than of a read
abbrev pub Fails : Status → Type 0
Fails result = (result ≡ status.WriteFault) ⊎ (result ≡ status.Memory)

one_of_three : (a b c d e : List ℕ) (same in_use : Bool) → cond same (Changed a b) (cond in_use (Refused c) (Changed d e)) ≡ NotYet → ⊥
one_of_three a b c d e true in_use none = cc
one_of_three a b c d e false true none = cc
one_of_three a b c d e false false none = cc

-- a form always has an answer
answered : (form : FirstForm) → answer_of form ≡ NotYet → ⊥
answered form none = one_of_three _ _ _ _ _ (bytes_eq form.new form.old) (list_any (bytes_eq form.new) (names_of form.file)) none

-- the words are one command at most
pub same_command : (words : List (List ℕ)) (a b : Apply) → IsApply words a → IsApply words b → a ≡ b
same_command words a b first second =
    let same = sym first.words_are ∙ second.words_are in
    let src : a.src ≡ b.src = cc in
    let lib : a.lib ≡ b.lib = cc in
    let out : a.out ≡ b.out = cc in
    let request : a.request ≡ b.request = cc in
    λ i. record { src = src i; lib = lib i; out = out i; request = request i }

-- the words ask for one rule file at most
pub same_file : (words : List (List ℕ)) (a b : List ℕ) → IsRules words a → IsRules words b → a ≡ b
same_file words a b first second =
    let same = sym first.words_are ∙ second.words_are in
    cc

-- a file that was compared with `-` isn't the built-in rules
pub not_built_in : (file dash : List ℕ) (same : Bool) → same ≡ bytes_eq file dash → same ≡ false → dash ≡ built_in → file ≢ built_in
not_built_in file dash same told not_same dash_is is = false≢true (sym not_same ∙ told ∙ (bytes_eq-Decides file dash).1 (is ∙ sym dash_is))

-- and not for a rule file where they are `apply`
pub no_rules : (words : List (List ℕ)) (command : Apply) (file : List ℕ) → IsApply words command → IsRules words file → ⊥
no_rules words command file first second =
    let same = sym first.words_are ∙ second.words_are in
    absurd (cc)

module _ (words : List (List ℕ)) (command : Apply) (is_apply : IsApply words command) (path : List ℕ) where
  -- what the files hold is what was decided
  pub has_answer : (files : Files) (answer : FirstPath) → IsRight command files path answer → answer ≢ NotYet → HasAnswer words files command path answer
  has_answer files answer right some =
      let it = right.some_form some in
      record { is_apply = is_apply; form = it.0; holds = it.1; answer_is = (right.of_form path it.0 it.1).1 }

  pub held : (files : Files) {answer : FirstPath} → (answer ≢ NotYet → (form : FirstForm) × HoldsForm command files path form) → answer ≢ NotYet → HasNoForm words files → ⊥
  held files some_form some none =
      let it = some_form some in
      none.none path it.0 (subst (λ c. HoldsForm c files path it.0) (same_command words command none.command is_apply none.is_apply) it.1)

  pub no_form : (files : Files) → IsRight command files path NotYet → HasNoForm words files
  no_form files right = record { command = command; is_apply = is_apply; none = λ at form holds. answered form (sym (right.of_form at form holds).1) }

module _ {wanted : Status} {line : List ℕ} {before after : SinkState} {result : Status} (put : IsPut wanted line before after result) where
  -- the status is the one that is wanted, unless the put failed
  pub put_status : (result ≡ wanted) ⊎ Fails result
  put_status = elim put.end [
    | PutEnd.whole is line same ↦ inl is
    | PutEnd.failed is front rose ↦ inr (inl is)
    | PutEnd.starved is front same ↦ inr (inr is)
  ]

  pub put_line : wanted ≢ status.WriteFault → wanted ≢ status.Memory → result ≡ wanted → Puts line before.received after.received
  put_line no_fault no_want wants = elim put.end [
    | PutEnd.whole is line same ↦ line
    | PutEnd.failed is front rose ↦ absurd (no_fault (sym wants ∙ is))
    | PutEnd.starved is front same ↦ absurd (no_want (sym wants ∙ is))
  ]

  pub put_rose : wanted ≢ status.WriteFault → result ≡ status.WriteFault → Rose before.faults after.faults
  put_rose no_fault failed = elim put.end [
    | PutEnd.whole is line same ↦ absurd (no_fault (sym is ∙ failed))
    | PutEnd.failed is front rose ↦ rose
    | PutEnd.starved is front same ↦ absurd (let e : status.Memory ≡ status.WriteFault = sym is ∙ failed in cc)
  ]

  pub put_kept : Fails result ⊎ (after.faults ≡ before.faults)
  put_kept = elim put.end [
    | PutEnd.whole is line same ↦ inr same
    | PutEnd.failed is front rose ↦ inl (inl is)
    | PutEnd.starved is front same ↦ inl (inr is)
  ]

  -- no other status comes of it
  pub put_other : (other : Status) → wanted ≢ other → status.WriteFault ≢ other → status.Memory ≢ other → result ≡ other → ⊥
  put_other other w f m is = elim put_status [
    | inl e ↦ w (sym e ∙ is)
    | inr fails ↦ elim fails [ inl e ↦ f (sym e ∙ is) | inr e ↦ m (sym e ∙ is) ]
  ]

-- the state after the decision is that before it
pub acts_from : (out path : List ℕ) (answer : FirstPath) (files now : Option Files) (reads reads_now writes writes_now : ℕ) (honest honest_now : Bool) (sink : SinkState) (after : RunState) (result : Status)
    → now ≡ files → reads_now ≡ reads → writes_now ≡ writes → honest_now ≡ honest
    → Acts out path answer (run_state now reads_now writes_now honest_now sink) after result
    → Acts out path answer (run_state files reads writes honest sink) after result
acts_from out path answer files now reads reads_now writes writes_now honest honest_now sink after result f r w h acts =
    subst (λ before. Acts out path answer before after result) (λ i. record { files = f i; reads = r i; writes = w i; honest = h i; sink = sink }) acts

-- the write failed, told of the slices that the program passes on
pub acts_failed : (out path bytes report path_slice bytes_slice : List ℕ) (answer : FirstPath) (before after : RunState) (result : Status)
    → answer ≡ Changed bytes report → path_slice ≡ path → bytes_slice ≡ bytes → result ≡ status.WriteFault
    → MayHoldPrefix out path_slice bytes_slice before.files after.files → Rose before.writes after.writes
    → PutsWriteFault before.sink after.sink
    → Acts out path answer before after result
acts_failed out path bytes report path_slice bytes_slice answer before after result a p b is files rose told =
    let at_path : MayHoldPrefix out path bytes_slice before.files after.files = subst (λ x. MayHoldPrefix out x bytes_slice before.files after.files) p files in
    let part : MayHoldPrefix out path bytes before.files after.files = subst (λ x. MayHoldPrefix out path x before.files after.files) b at_path in
    subst (λ x. Acts out path x before after result) (sym a) (WriteEnd.failed is part rose told.0 told.1)
