-- What people read of a run, each from the way in which it ended.
use Rattle.std.proofs.Common.{◌≡◌, ◌≢◌, ℕ, List, ◌⊎◌, IfSome, IsTrue, ◌∙◌, inl, inr}
use Rattle.rf_world.specs.Fault.{Rose, next_count}
use Rattle.rf_world.specs.World.{Files}
use Rattle.rf_cli.specs.declared.status.Status.{Status}
use Rattle.rf_cli.specs.declared.status.Status.TheVariants as status
use Rattle.rf_cli.specs.Acting.{RunState}
use Rattle.rf_cli.specs.Command.{AreBadWords, IsRules, built_in}
use Rattle.rf_cli.specs.Put.{Puts, bad_words_line, not_yet_line, read_fault_line}
use Rattle.rf_cli.specs.RunEnd.{RunEnd}
use Rattle.rf_cli.specs.WholeRun.{CountsAreSame, HasInput, HasNoForm, IsBadRules, IsChanged, IsExact, IsFault, IsPrinted, IsRefused, IsTooLarge, MayHaveWritten, StandsWhole, TouchesOneFile}
use Rattle.rf_cli.proofs.ApplyEnds as apply
use Rattle.rf_cli.proofs.ApplyEnds.{if_told, on_told, same_of}
use Rattle.rf_cli.proofs.RulesEnds as rules
use Rattle.rf_cli.proofs.WholeRunLemmas.{put_kept, put_line, put_other, put_rose, put_status}

module _ (words : List (List ℕ)) (before after : RunState) (result : Status) where
  abbrev End : Type 0
  End = RunEnd words before after result

  pub ok : End → result ≡ status.Ok → IfSome before.files (λ files. IsChanged words files after.files before.sink.received after.sink.received ⊎ IsPrinted words files after.files before.sink.received after.sink.received)
  ok (RunEnd.bad_words bad reads only) is = absurd (put_other only.puts status.Ok (λ e. cc) (λ e. cc) (λ e. cc) is)
  ok (RunEnd.applied command is_apply end) is =
      on_told before.files (λ files. IsChanged words files after.files before.sink.received after.sink.received)
      (λ files. IsChanged words files after.files before.sink.received after.sink.received ⊎ IsPrinted words files after.files before.sink.received after.sink.received)
      (apply.apply_ok words before after result command is_apply end is) (λ files told its. inl its)
  ok (RunEnd.ruled file is_rules end) is =
      on_told before.files (λ files. IsPrinted words files after.files before.sink.received after.sink.received)
      (λ files. IsChanged words files after.files before.sink.received after.sink.received ⊎ IsPrinted words files after.files before.sink.received after.sink.received)
      (rules.rules_ok words before after result file is_rules end is) (λ files told its. inr its)

  pub refused : End → result ≡ status.Refused → IfSome before.files (λ files. IsRefused words files before.sink.received after.sink.received)
  refused (RunEnd.bad_words bad reads only) is = absurd (put_other only.puts status.Refused (λ e. cc) (λ e. cc) (λ e. cc) is)
  refused (RunEnd.applied command is_apply end) is = apply.apply_refused words before after result command is_apply end is
  refused (RunEnd.ruled file is_rules end) is =
      absurd (rules.no_other words before after result file is_rules status.Refused (λ e. cc) (λ e. cc) (λ e. cc) (λ e. cc) (λ e. cc) (λ e. cc) (λ e. cc) end is)

  pub bad_words : End → result ≡ status.BadWords → AreBadWords words × Puts bad_words_line before.sink.received after.sink.received
  bad_words (RunEnd.bad_words bad reads only) is = (bad, put_line only.puts (λ e. cc) (λ e. cc) is)
  bad_words (RunEnd.applied command is_apply end) is =
      absurd (apply.no_other words before after result command is_apply status.BadWords (λ e. cc) (λ e. cc) (λ e. cc) (λ e. cc) (λ e. cc) (λ e. cc) end is)
  bad_words (RunEnd.ruled file is_rules end) is =
      absurd (rules.no_other words before after result file is_rules status.BadWords (λ e. cc) (λ e. cc) (λ e. cc) (λ e. cc) (λ e. cc) (λ e. cc) (λ e. cc) end is)

  pub bad_rules : End → result ≡ status.BadRules → IfSome before.files (λ files. IsBadRules words files before.sink.received after.sink.received)
  bad_rules (RunEnd.bad_words bad reads only) is = absurd (put_other only.puts status.BadRules (λ e. cc) (λ e. cc) (λ e. cc) is)
  bad_rules (RunEnd.applied command is_apply end) is =
      absurd (apply.no_other words before after result command is_apply status.BadRules (λ e. cc) (λ e. cc) (λ e. cc) (λ e. cc) (λ e. cc) (λ e. cc) end is)
  bad_rules (RunEnd.ruled file is_rules end) is = rules.rules_bad words before after result file is_rules end is

  pub too_large : End → result ≡ status.TooLarge → IfSome before.files (λ files. IsTooLarge words files before.sink.received after.sink.received)
  too_large (RunEnd.bad_words bad reads only) is = absurd (put_other only.puts status.TooLarge (λ e. cc) (λ e. cc) (λ e. cc) is)
  too_large (RunEnd.applied command is_apply end) is =
      absurd (apply.no_other words before after result command is_apply status.TooLarge (λ e. cc) (λ e. cc) (λ e. cc) (λ e. cc) (λ e. cc) (λ e. cc) end is)
  too_large (RunEnd.ruled file is_rules end) is = rules.rules_too_large words before after result file is_rules end is

  pub not_yet : End → result ≡ status.NotYet → IfSome before.files (λ files. HasNoForm words files ⊎ IsRules words built_in)
  not_yet (RunEnd.bad_words bad reads only) is = absurd (put_other only.puts status.NotYet (λ e. cc) (λ e. cc) (λ e. cc) is)
  not_yet (RunEnd.applied command is_apply end) is =
      on_told before.files (HasNoForm words) (λ files. HasNoForm words files ⊎ IsRules words built_in)
      (apply.apply_not_yet words before after result command is_apply end is) (λ files told its. inl its)
  not_yet (RunEnd.ruled file is_rules end) is =
      if_told before.files (λ files. HasNoForm words files ⊎ IsRules words built_in) (λ files told. inr (rules.rules_not_yet words before after result file is_rules end is).0)

  pub not_yet_put : End → result ≡ status.NotYet → Puts not_yet_line before.sink.received after.sink.received
  not_yet_put (RunEnd.bad_words bad reads only) is = absurd (put_other only.puts status.NotYet (λ e. cc) (λ e. cc) (λ e. cc) is)
  not_yet_put (RunEnd.applied command is_apply end) is = apply.apply_not_yet_put words before after result command is_apply end is
  not_yet_put (RunEnd.ruled file is_rules end) is = (rules.rules_not_yet words before after result file is_rules end is).1

  pub read_fault : End → result ≡ status.ReadFault → Rose before.reads after.reads × Puts read_fault_line before.sink.received after.sink.received
  read_fault (RunEnd.bad_words bad reads only) is = absurd (put_other only.puts status.ReadFault (λ e. cc) (λ e. cc) (λ e. cc) is)
  read_fault (RunEnd.applied command is_apply end) is = apply.apply_read_fault words before after result command is_apply end is
  read_fault (RunEnd.ruled file is_rules end) is = rules.rules_read_fault words before after result file is_rules end is

  pub write_fault : End → result ≡ status.WriteFault → Rose before.writes after.writes ⊎ Rose before.sink.faults after.sink.faults
  write_fault (RunEnd.bad_words bad reads only) is = inr (put_rose only.puts (λ e. cc) is)
  write_fault (RunEnd.applied command is_apply end) is = apply.apply_write_fault words before after result command is_apply end is
  write_fault (RunEnd.ruled file is_rules end) is = inr (rules.rules_write_fault words before after result file is_rules end is)

  pub write_fault_whole : End → result ≡ status.WriteFault → (Rose before.writes after.writes → ⊥) → IfSome before.files (λ files. StandsWhole words files after.files before.reads after.reads)
  write_fault_whole (RunEnd.bad_words bad reads only) is still =
      if_told before.files (λ files. StandsWhole words files after.files before.reads after.reads) (λ files told. inr (record { same = only.stays.files ∙ told; cause = inl bad }))
  write_fault_whole (RunEnd.applied command is_apply end) is still = apply.apply_write_fault_whole words before after result command is_apply end is still
  write_fault_whole (RunEnd.ruled file is_rules end) is still = rules.rules_whole words before after result file is_rules end

  pub exact : End → IfSome before.files (λ files. IsExact words files result)
  exact (RunEnd.bad_words bad reads only) = if_told before.files (λ files. IsExact words files result) (λ files told. record {
    bad_words = λ again. elim (put_status only.puts) [ inl e ↦ inl e | inr fails ↦ inr (inr fails) ];
    form = λ command at form is_apply holds. absurd (bad.no_apply command is_apply);
    no_form = λ none. absurd (bad.no_apply none.command none.is_apply);
    rules = λ file bytes is_rules given stands. absurd (bad.no_rules file is_rules);
    built_in_rules = λ is_rules. absurd (bad.no_rules built_in is_rules);
  })
  exact (RunEnd.applied command is_apply end) = apply.apply_exact words before after result command is_apply end
  exact (RunEnd.ruled file is_rules end) = rules.rules_exact words before after result file is_rules end

  pub unchanged : End → MayHaveWritten result ⊎ (after.files ≡ before.files)
  unchanged (RunEnd.bad_words bad reads only) = inr only.stays.files
  unchanged (RunEnd.applied command is_apply end) = apply.apply_unchanged words before after result command is_apply end
  unchanged (RunEnd.ruled file is_rules end) = inr (rules.rules_files words before after result file is_rules end)

  pub touched : End → IfSome before.files (λ files. TouchesOneFile words files after.files)
  touched (RunEnd.bad_words bad reads only) = if_told before.files (λ files. TouchesOneFile words files after.files) (λ files told. inl (only.stays.files ∙ told))
  touched (RunEnd.applied command is_apply end) = apply.apply_touched words before after result command is_apply end
  touched (RunEnd.ruled file is_rules end) =
      if_told before.files (λ files. TouchesOneFile words files after.files) (λ files told. inl (rules.rules_files words before after result file is_rules end ∙ told))

  pub counts : End → IsFault result ⊎ CountsAreSame before.reads before.writes before.sink.faults after.reads after.writes after.sink.faults
  counts (RunEnd.bad_words bad reads only) =
      same_of words before after result reads (elim (put_kept only.puts) [ inl fails ↦ inl fails | inr same ↦ inr (only.stays.writes, same) ])
  counts (RunEnd.applied command is_apply end) = apply.apply_counts words before after result command is_apply end
  counts (RunEnd.ruled file is_rules end) = rules.rules_counts words before after result file is_rules end

  pub honest : End → IsTrue before.honest → IfSome before.files (HasInput words) → (result ≢ status.ReadFault) × (after.reads ≡ before.reads)
  honest (RunEnd.bad_words bad reads only) is asked = (put_other only.puts status.ReadFault (λ e. cc) (λ e. cc) (λ e. cc), reads)
  honest (RunEnd.applied command is_apply end) is asked = apply.apply_honest words before after result command is_apply end is asked
  honest (RunEnd.ruled file is_rules end) is asked = rules.rules_honest words before after result file is_rules end is asked

  pub puts : End → (after.sink.puts ≡ next_count before.sink.puts) ⊎ ((result ≡ status.Memory) × (after.sink.puts ≡ before.sink.puts))
  puts (RunEnd.bad_words bad reads only) = inl only.puts.once
  puts (RunEnd.applied command is_apply end) = apply.apply_puts words before after result command is_apply end
  puts (RunEnd.ruled file is_rules end) = rules.rules_puts words before after result file is_rules end
