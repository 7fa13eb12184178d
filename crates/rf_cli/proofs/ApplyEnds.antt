-- What people read of a run of `apply`, each from the way in which it ended.
use Rattle.std.proofs.Common.{◌≡◌, ◌≢◌, ℕ, List, ◌⊎◌, Option, Some, None, [], IfSome, IsSome, IsTrue, option_map, length, take, refl, sym, ap, subst, ◌∙◌, inl, inr}
use Rattle.std.proofs.Math.Seq.{take-length}
use Rattle.rf_world.specs.Fault.{Rose, next_count}
use Rattle.rf_world.specs.World.{Files, MayHoldPrefix, with_file}
use Rattle.rf_engine.specs.declared.first_form.FirstPath.{FirstPath}
use Rattle.rf_engine.specs.declared.first_form.FirstPath.TheVariants.{Changed, Refused, NotYet}
use Rattle.rf_engine.specs.FirstForm.{answer_of}
use Rattle.rf_cli.specs.declared.status.Status.{Status}
use Rattle.rf_cli.specs.declared.status.Status.TheVariants as status
use Rattle.rf_cli.specs.Acting.{Acts, RunState, WriteEnd}
use Rattle.rf_cli.specs.Command.{Apply, IsApply}
use Rattle.rf_cli.specs.Put.{IsPut, Puts, not_yet_line, read_fault_line}
use Rattle.rf_cli.specs.Inputs.{HoldsForm, IsRight}
use Rattle.rf_cli.specs.RunEnd.{ApplyEnd}
use Rattle.rf_cli.specs.WholeRun.{CountsAreSame, HasInput, HasNoForm, IsChanged, IsExact, IsFault, IsRefused, MayHaveWritten, StandsWhole, TouchesOneFile, status_of}
use Rattle.rf_cli.proofs.WholeRunLemmas.{Fails, has_answer, held, no_form, no_rules, put_kept, put_line, put_other, put_rose, put_status, same_command}

pub on_told : (told : Option Files) (P Q : Files → Type 0) → IfSome told P → ((files : Files) → told ≡ Some files → P files → Q files) → IfSome told Q
on_told None P Q known step = tt
on_told (Some files) P Q known step = step files refl known

pub if_told : (told : Option Files) (Q : Files → Type 0) → ((files : Files) → told ≡ Some files → Q files) → IfSome told Q
if_told None Q step = tt
if_told (Some files) Q step = step files refl

pub read_fails : (result : Status) → (result ≡ status.ReadFault) ⊎ Fails result → IsFault result
read_fails result which = elim which [ inl e ↦ inl e | inr fails ↦ inr fails ]

module _ (words : List (List ℕ)) (before after : RunState) (result : Status) where
  abbrev Put : Status → List ℕ → Type 0
  Put wanted line = IsPut wanted line before.sink after.sink result

  pub memory_other : (other : Status) → status.Memory ≢ other → result ≡ status.Memory → result ≡ other → ⊥
  memory_other other apart is also = apart (sym is ∙ also)

  module _ (command : Apply) (path : List ℕ) (is_apply : IsApply words command) where
    abbrev Write : List ℕ → List ℕ → Type 0
    Write bytes report = WriteEnd command.out path bytes report before after result

    whole_file : (bytes report : List ℕ) → Write bytes report → result ≡ status.Ok → after.files ≡ option_map (with_file command.out path bytes) before.files
    whole_file bytes report (WriteEnd.written files writes put) is = files
    whole_file bytes report (WriteEnd.failed failed files rose said put) is = absurd (let e : status.WriteFault ≡ status.Ok = sym failed ∙ is in cc)
    whole_file bytes report (WriteEnd.starved want files writes sink) is = absurd (memory_other status.Ok (λ e. cc) want is)

    report_put : (bytes report : List ℕ) → Write bytes report → result ≡ status.Ok → Puts report before.sink.received after.sink.received
    report_put bytes report (WriteEnd.written files writes put) is = put_line put (λ e. cc) (λ e. cc) is
    report_put bytes report (WriteEnd.failed failed files rose said put) is = absurd (let e : status.WriteFault ≡ status.Ok = sym failed ∙ is in cc)
    report_put bytes report (WriteEnd.starved want files writes sink) is = absurd (memory_other status.Ok (λ e. cc) want is)

    part_file : (bytes report : List ℕ) → Write bytes report → MayHoldPrefix command.out path bytes before.files after.files
    part_file bytes report (WriteEnd.written files writes put) =
        inr (length bytes, files ∙ ap (λ part. option_map (with_file command.out path part) before.files) (sym (take-length bytes)))
    part_file bytes report (WriteEnd.failed failed files rose said put) = files
    part_file bytes report (WriteEnd.starved want files writes sink) = files

    write_status : (bytes report : List ℕ) → Write bytes report → (result ≡ status.Ok) ⊎ Fails result
    write_status bytes report (WriteEnd.written files writes put) = put_status put
    write_status bytes report (WriteEnd.failed failed files rose said put) = inr (inl failed)
    write_status bytes report (WriteEnd.starved want files writes sink) = inr (inr want)

    write_other : (bytes report : List ℕ) → Write bytes report → (other : Status) → status.Ok ≢ other → status.WriteFault ≢ other → status.Memory ≢ other → result ≡ other → ⊥
    write_other bytes report write other w f m is = elim (write_status bytes report write) [
      | inl e ↦ w (sym e ∙ is)
      | inr fails ↦ elim fails [ inl e ↦ f (sym e ∙ is) | inr e ↦ m (sym e ∙ is) ]
    ]

    write_rose : (bytes report : List ℕ) → Write bytes report → result ≡ status.WriteFault → Rose before.writes after.writes ⊎ Rose before.sink.faults after.sink.faults
    write_rose bytes report (WriteEnd.written files writes put) is = inr (put_rose put (λ e. cc) is)
    write_rose bytes report (WriteEnd.failed failed files rose said put) is = inl rose
    write_rose bytes report (WriteEnd.starved want files writes sink) is = absurd (memory_other status.WriteFault (λ e. cc) want is)

    still_whole : (bytes report : List ℕ) → Write bytes report → result ≡ status.WriteFault → (Rose before.writes after.writes → ⊥) → after.files ≡ option_map (with_file command.out path bytes) before.files
    still_whole bytes report (WriteEnd.written files writes put) is still = files
    still_whole bytes report (WriteEnd.failed failed files rose said put) is still = absurd (still rose)
    still_whole bytes report (WriteEnd.starved want files writes sink) is still = absurd (memory_other status.WriteFault (λ e. cc) want is)

    write_counts : (bytes report : List ℕ) → Write bytes report → Fails result ⊎ ((after.writes ≡ before.writes) × (after.sink.faults ≡ before.sink.faults))
    write_counts bytes report (WriteEnd.written files writes put) = elim (put_kept put) [ inl fails ↦ inl fails | inr same ↦ inr (writes, same) ]
    write_counts bytes report (WriteEnd.failed failed files rose said put) = inl (inl failed)
    write_counts bytes report (WriteEnd.starved want files writes sink) = inl (inr want)

    write_puts : (bytes report : List ℕ) → Write bytes report → (after.sink.puts ≡ next_count before.sink.puts) ⊎ ((result ≡ status.Memory) × (after.sink.puts ≡ before.sink.puts))
    write_puts bytes report (WriteEnd.written files writes put) = inl put.once
    write_puts bytes report (WriteEnd.failed failed files rose said put) = inl put.once
    write_puts bytes report (WriteEnd.starved want files writes sink) = inr (want, ap (λ s. s.puts) sink)

    abbrev Did : FirstPath → Type 0
    Did answer = Acts command.out path answer before after result

    changed_of : (files : Files) (answer : FirstPath) → before.files ≡ Some files → IsRight command files path answer → Did answer → result ≡ status.Ok → IsChanged words files after.files before.sink.received after.sink.received
    changed_of files NotYet told right did is = absurd (put_other did.puts status.Ok (λ e. cc) (λ e. cc) (λ e. cc) is)
    changed_of files (Refused report) told right did is = absurd (put_other did.puts status.Ok (λ e. cc) (λ e. cc) (λ e. cc) is)
    changed_of files (Changed bytes report) told right did is = record {
      command = command;
      path = path;
      bytes = bytes;
      report = report;
      answer = has_answer words command is_apply path files (Changed bytes report) right (λ e. cc);
      written = whole_file bytes report did is ∙ ap (option_map (with_file command.out path bytes)) told;
      line = report_put bytes report did is;
    }

    refused_of : (files : Files) (answer : FirstPath) → IsRight command files path answer → Did answer → result ≡ status.Refused → IsRefused words files before.sink.received after.sink.received
    refused_of files NotYet right did is = absurd (put_other did.puts status.Refused (λ e. cc) (λ e. cc) (λ e. cc) is)
    refused_of files (Changed bytes report) right did is = absurd (write_other bytes report did status.Refused (λ e. cc) (λ e. cc) (λ e. cc) is)
    refused_of files (Refused report) right did is = record {
      command = command;
      path = path;
      report = report;
      answer = has_answer words command is_apply path files (Refused report) right (λ e. cc);
      line = put_line did.puts (λ e. cc) (λ e. cc) is;
    }

    not_yet_of : (files : Files) (answer : FirstPath) → IsRight command files path answer → Did answer → result ≡ status.NotYet → HasNoForm words files
    not_yet_of files NotYet right did is = no_form words command is_apply path files right
    not_yet_of files (Refused report) right did is = absurd (put_other did.puts status.NotYet (λ e. cc) (λ e. cc) (λ e. cc) is)
    not_yet_of files (Changed bytes report) right did is = absurd (write_other bytes report did status.NotYet (λ e. cc) (λ e. cc) (λ e. cc) is)

    not_yet_line_of : (answer : FirstPath) → Did answer → result ≡ status.NotYet → Puts not_yet_line before.sink.received after.sink.received
    not_yet_line_of NotYet did is = put_line did.puts (λ e. cc) (λ e. cc) is
    not_yet_line_of (Refused report) did is = absurd (put_other did.puts status.NotYet (λ e. cc) (λ e. cc) (λ e. cc) is)
    not_yet_line_of (Changed bytes report) did is = absurd (write_other bytes report did status.NotYet (λ e. cc) (λ e. cc) (λ e. cc) is)

    did_status : (answer : FirstPath) → Did answer → (result ≡ status_of answer) ⊎ Fails result
    did_status NotYet did = put_status did.puts
    did_status (Refused report) did = put_status did.puts
    did_status (Changed bytes report) did = write_status bytes report did

    did_other : (answer : FirstPath) → Did answer → (other : Status) → ((answer : FirstPath) → status_of answer ≢ other) → status.WriteFault ≢ other → status.Memory ≢ other → result ≡ other → ⊥
    did_other answer did other w f m is = elim (did_status answer did) [
      | inl e ↦ w answer (sym e ∙ is)
      | inr fails ↦ elim fails [ inl e ↦ f (sym e ∙ is) | inr e ↦ m (sym e ∙ is) ]
    ]

    did_rose : (answer : FirstPath) → Did answer → result ≡ status.WriteFault → Rose before.writes after.writes ⊎ Rose before.sink.faults after.sink.faults
    did_rose NotYet did is = inr (put_rose did.puts (λ e. cc) is)
    did_rose (Refused report) did is = inr (put_rose did.puts (λ e. cc) is)
    did_rose (Changed bytes report) did is = write_rose bytes report did is

    did_whole : (files : Files) (answer : FirstPath) → before.files ≡ Some files → IsRight command files path answer → Did answer → result ≡ status.WriteFault → (Rose before.writes after.writes → ⊥)
        → StandsWhole words files after.files before.reads after.reads
    did_whole files NotYet told right did is still = inr (record { same = did.stays.files ∙ told; cause = inr (inl (no_form words command is_apply path files right)) })
    did_whole files (Refused report) told right did is still =
        inr (record { same = did.stays.files ∙ told; cause = inr (inr (inl (record { command = command; path = path; report = report; answer = has_answer words command is_apply path files (Refused report) right (λ e. cc) }))) })
    did_whole files (Changed bytes report) told right did is still = inl (record {
      command = command;
      path = path;
      bytes = bytes;
      report = report;
      answer = has_answer words command is_apply path files (Changed bytes report) right (λ e. cc);
      written = still_whole bytes report did is still ∙ ap (option_map (with_file command.out path bytes)) told;
    })

    or_fault : (wanted : Status) → (result ≡ wanted) ⊎ Fails result → (result ≡ wanted) ⊎ IsFault result
    or_fault wanted which = elim which [ inl e ↦ inl e | inr fails ↦ inr (inr fails) ]

    did_not_yet : (files : Files) (answer : FirstPath) → IsRight command files path answer → Did answer → HasNoForm words files → (result ≡ status.NotYet) ⊎ Fails result
    did_not_yet files NotYet right did none = put_status did.puts
    did_not_yet files (Refused report) right did none = absurd (held words command is_apply path files right.some_form (λ e. cc) none)
    did_not_yet files (Changed bytes report) right did none = absurd (held words command is_apply path files right.some_form (λ e. cc) none)

    did_exact : (files : Files) (answer : FirstPath) → IsRight command files path answer → Did answer → IsExact words files result
    did_exact files answer right did = record {
      bad_words = λ bad. absurd (bad.no_apply command is_apply);
      form = λ other at form other_is holds.
          let mine : HoldsForm command files at form = subst (λ c. HoldsForm c files at form) (same_command words other command other_is is_apply) holds in
          or_fault (status_of (answer_of form)) (subst (λ a. (result ≡ status_of a) ⊎ Fails result) (right.of_form at form mine).1 (did_status answer did));
      no_form = λ none. or_fault status.NotYet (did_not_yet files answer right did none);
      rules = λ file bytes is_rules given stands. absurd (no_rules words command file is_apply is_rules);
      built_in_rules = λ is_rules. absurd (no_rules words command _ is_apply is_rules);
    }

    did_unchanged : (answer : FirstPath) → Did answer → MayHaveWritten result ⊎ (after.files ≡ before.files)
    did_unchanged NotYet did = inr did.stays.files
    did_unchanged (Refused report) did = inr did.stays.files
    did_unchanged (Changed bytes report) did = inl (write_status bytes report did)

    did_touched : (files : Files) (answer : FirstPath) → before.files ≡ Some files → IsRight command files path answer → Did answer → TouchesOneFile words files after.files
    did_touched files NotYet told right did = inl (did.stays.files ∙ told)
    did_touched files (Refused report) told right did = inl (did.stays.files ∙ told)
    did_touched files (Changed bytes report) told right did = elim (part_file bytes report did) [
      | inl same ↦ inl (same ∙ told)
      | inr part ↦ inr (
        part.0,
        record {
          command = command;
          path = path;
          bytes = bytes;
          report = report;
          answer = has_answer words command is_apply path files (Changed bytes report) right (λ e. cc);
          written = part.1 ∙ ap (option_map (with_file command.out path (take part.0 bytes))) told;
        },
      )
    ]

    did_counts : (answer : FirstPath) → Did answer → Fails result ⊎ ((after.writes ≡ before.writes) × (after.sink.faults ≡ before.sink.faults))
    did_counts NotYet did = elim (put_kept did.puts) [ inl fails ↦ inl fails | inr same ↦ inr (did.stays.writes, same) ]
    did_counts (Refused report) did = elim (put_kept did.puts) [ inl fails ↦ inl fails | inr same ↦ inr (did.stays.writes, same) ]
    did_counts (Changed bytes report) did = write_counts bytes report did

    did_puts : (answer : FirstPath) → Did answer → (after.sink.puts ≡ next_count before.sink.puts) ⊎ ((result ≡ status.Memory) × (after.sink.puts ≡ before.sink.puts))
    did_puts NotYet did = inl did.puts.once
    did_puts (Refused report) did = inl did.puts.once
    did_puts (Changed bytes report) did = write_puts bytes report did

  answer_is_not : (other : Status) → status.Ok ≢ other → status.Refused ≢ other → status.NotYet ≢ other → (answer : FirstPath) → status_of answer ≢ other
  answer_is_not other o r n NotYet = n
  answer_is_not other o r n (Refused report) = r
  answer_is_not other o r n (Changed bytes report) = o

  pub same_of : after.reads ≡ before.reads → Fails result ⊎ ((after.writes ≡ before.writes) × (after.sink.faults ≡ before.sink.faults))
      → IsFault result ⊎ CountsAreSame before.reads before.writes before.sink.faults after.reads after.writes after.sink.faults
  same_of reads which = elim which [
    | inl fails ↦ inl (inr fails)
    | inr same ↦ inr (record { same_reads = reads; same_writes = same.0; same_puts = same.1 })
  ]

  pub fault_exact : (files : Files) → IsFault result → IsExact words files result
  fault_exact files fault = record {
    bad_words = λ bad. inr fault;
    form = λ command at form is_apply holds. inr fault;
    no_form = λ none. inr fault;
    rules = λ file bytes is_rules given stands. inr fault;
    built_in_rules = λ is_rules. inr fault;
  }

  module _ (command : Apply) (is_apply : IsApply words command) where
    pub no_other : (other : Status) → status.ReadFault ≢ other → status.Ok ≢ other → status.Refused ≢ other → status.NotYet ≢ other → status.WriteFault ≢ other → status.Memory ≢ other
        → ApplyEnd command before after result → result ≡ other → ⊥
    no_other other r o d n w m (ApplyEnd.read_fault rose never only) is = put_other only.puts other r w m is
    no_other other r o d n w m (ApplyEnd.starved want reads stays sink) is = memory_other other m want is
    no_other other r o d n w m (ApplyEnd.said path answer right reads did) is = did_other command path is_apply answer did other (answer_is_not other o d n) w m is

    pub apply_ok : ApplyEnd command before after result → result ≡ status.Ok → IfSome before.files (λ files. IsChanged words files after.files before.sink.received after.sink.received)
    apply_ok (ApplyEnd.read_fault rose never only) is = absurd (put_other only.puts status.Ok (λ e. cc) (λ e. cc) (λ e. cc) is)
    apply_ok (ApplyEnd.starved want reads stays sink) is = absurd (memory_other status.Ok (λ e. cc) want is)
    apply_ok (ApplyEnd.said path answer right reads did) is =
        on_told before.files (λ files. IsRight command files path answer) (λ files. IsChanged words files after.files before.sink.received after.sink.received) right
        (λ files told its. changed_of command path is_apply files answer told its did is)

    pub apply_refused : ApplyEnd command before after result → result ≡ status.Refused → IfSome before.files (λ files. IsRefused words files before.sink.received after.sink.received)
    apply_refused (ApplyEnd.read_fault rose never only) is = absurd (put_other only.puts status.Refused (λ e. cc) (λ e. cc) (λ e. cc) is)
    apply_refused (ApplyEnd.starved want reads stays sink) is = absurd (memory_other status.Refused (λ e. cc) want is)
    apply_refused (ApplyEnd.said path answer right reads did) is =
        on_told before.files (λ files. IsRight command files path answer) (λ files. IsRefused words files before.sink.received after.sink.received) right
        (λ files told its. refused_of command path is_apply files answer its did is)

    pub apply_not_yet : ApplyEnd command before after result → result ≡ status.NotYet → IfSome before.files (HasNoForm words)
    apply_not_yet (ApplyEnd.read_fault rose never only) is = absurd (put_other only.puts status.NotYet (λ e. cc) (λ e. cc) (λ e. cc) is)
    apply_not_yet (ApplyEnd.starved want reads stays sink) is = absurd (memory_other status.NotYet (λ e. cc) want is)
    apply_not_yet (ApplyEnd.said path answer right reads did) is =
        on_told before.files (λ files. IsRight command files path answer) (HasNoForm words) right
        (λ files told its. not_yet_of command path is_apply files answer its did is)

    pub apply_not_yet_put : ApplyEnd command before after result → result ≡ status.NotYet → Puts not_yet_line before.sink.received after.sink.received
    apply_not_yet_put (ApplyEnd.read_fault rose never only) is = absurd (put_other only.puts status.NotYet (λ e. cc) (λ e. cc) (λ e. cc) is)
    apply_not_yet_put (ApplyEnd.starved want reads stays sink) is = absurd (memory_other status.NotYet (λ e. cc) want is)
    apply_not_yet_put (ApplyEnd.said path answer right reads did) is = not_yet_line_of command path is_apply answer did is

    pub apply_read_fault : ApplyEnd command before after result → result ≡ status.ReadFault → Rose before.reads after.reads × Puts read_fault_line before.sink.received after.sink.received
    apply_read_fault (ApplyEnd.read_fault rose never only) is = (rose, put_line only.puts (λ e. cc) (λ e. cc) is)
    apply_read_fault (ApplyEnd.starved want reads stays sink) is = absurd (memory_other status.ReadFault (λ e. cc) want is)
    apply_read_fault (ApplyEnd.said path answer right reads did) is =
        absurd (did_other command path is_apply answer did status.ReadFault (answer_is_not status.ReadFault (λ e. cc) (λ e. cc) (λ e. cc)) (λ e. cc) (λ e. cc) is)

    pub apply_write_fault : ApplyEnd command before after result → result ≡ status.WriteFault → Rose before.writes after.writes ⊎ Rose before.sink.faults after.sink.faults
    apply_write_fault (ApplyEnd.read_fault rose never only) is = inr (put_rose only.puts (λ e. cc) is)
    apply_write_fault (ApplyEnd.starved want reads stays sink) is = absurd (memory_other status.WriteFault (λ e. cc) want is)
    apply_write_fault (ApplyEnd.said path answer right reads did) is = did_rose command path is_apply answer did is

    pub apply_write_fault_whole : ApplyEnd command before after result → result ≡ status.WriteFault → (Rose before.writes after.writes → ⊥) → IfSome before.files (λ files. StandsWhole words files after.files before.reads after.reads)
    apply_write_fault_whole (ApplyEnd.read_fault rose never only) is still =
        if_told before.files (λ files. StandsWhole words files after.files before.reads after.reads) (λ files told. inr (record { same = only.stays.files ∙ told; cause = inr (inr (inr (inl rose))) }))
    apply_write_fault_whole (ApplyEnd.starved want reads stays sink) is still = absurd (memory_other status.WriteFault (λ e. cc) want is)
    apply_write_fault_whole (ApplyEnd.said path answer right reads did) is still =
        on_told before.files (λ files. IsRight command files path answer) (λ files. StandsWhole words files after.files before.reads after.reads) right
        (λ files told its. did_whole command path is_apply files answer told its did is still)

    pub apply_exact : ApplyEnd command before after result → IfSome before.files (λ files. IsExact words files result)
    apply_exact (ApplyEnd.read_fault rose never only) = if_told before.files (λ files. IsExact words files result) (λ files told. fault_exact files (read_fails result (put_status only.puts)))
    apply_exact (ApplyEnd.starved want reads stays sink) = if_told before.files (λ files. IsExact words files result) (λ files told. fault_exact files (inr (inr want)))
    apply_exact (ApplyEnd.said path answer right reads did) =
        on_told before.files (λ files. IsRight command files path answer) (λ files. IsExact words files result) right
        (λ files told its. did_exact command path is_apply files answer its did)

    pub apply_unchanged : ApplyEnd command before after result → MayHaveWritten result ⊎ (after.files ≡ before.files)
    apply_unchanged (ApplyEnd.read_fault rose never only) = inr only.stays.files
    apply_unchanged (ApplyEnd.starved want reads stays sink) = inr stays.files
    apply_unchanged (ApplyEnd.said path answer right reads did) = did_unchanged command path is_apply answer did

    pub apply_touched : ApplyEnd command before after result → IfSome before.files (λ files. TouchesOneFile words files after.files)
    apply_touched (ApplyEnd.read_fault rose never only) = if_told before.files (λ files. TouchesOneFile words files after.files) (λ files told. inl (only.stays.files ∙ told))
    apply_touched (ApplyEnd.starved want reads stays sink) = if_told before.files (λ files. TouchesOneFile words files after.files) (λ files told. inl (stays.files ∙ told))
    apply_touched (ApplyEnd.said path answer right reads did) =
        on_told before.files (λ files. IsRight command files path answer) (λ files. TouchesOneFile words files after.files) right
        (λ files told its. did_touched command path is_apply files answer told its did)

    pub apply_counts : ApplyEnd command before after result → IsFault result ⊎ CountsAreSame before.reads before.writes before.sink.faults after.reads after.writes after.sink.faults
    apply_counts (ApplyEnd.read_fault rose never only) = inl (read_fails result (put_status only.puts))
    apply_counts (ApplyEnd.starved want reads stays sink) = inl (inr (inr want))
    apply_counts (ApplyEnd.said path answer right reads did) = same_of reads (did_counts command path is_apply answer did)

    pub apply_honest : ApplyEnd command before after result → IsTrue before.honest → IfSome before.files (HasInput words) → (result ≢ status.ReadFault) × (after.reads ≡ before.reads)
    apply_honest (ApplyEnd.read_fault rose never only) is asked = absurd (never is (on_told before.files (HasInput words) (λ files. IsSome (files [] command.request)) asked (λ files told its. its.request command is_apply)))
    apply_honest (ApplyEnd.starved want reads stays sink) is asked = (memory_other status.ReadFault (λ e. cc) want, reads)
    apply_honest (ApplyEnd.said path answer right reads did) is asked =
        (did_other command path is_apply answer did status.ReadFault (answer_is_not status.ReadFault (λ e. cc) (λ e. cc) (λ e. cc)) (λ e. cc) (λ e. cc), reads)

    pub apply_puts : ApplyEnd command before after result → (after.sink.puts ≡ next_count before.sink.puts) ⊎ ((result ≡ status.Memory) × (after.sink.puts ≡ before.sink.puts))
    apply_puts (ApplyEnd.read_fault rose never only) = inl only.puts.once
    apply_puts (ApplyEnd.starved want reads stays sink) = inr (want, ap (λ s. s.puts) sink)
    apply_puts (ApplyEnd.said path answer right reads did) = did_puts command path is_apply answer did
