-- What people read of a run for a rule file, each from the way in which it ended.
use Rattle.std.proofs.Common.{◌≡◌, ◌≢◌, ℕ, List, [], ◌⊎◌, Some, IfSome, IsSome, IsTrue, refl, sym, ap, subst, ◌∙◌, inl, inr}
use Rattle.rf_world.specs.Fault.{Rose, next_count}
use Rattle.rf_world.specs.World.{Files}
use Rattle.rf_rules.specs.declared.answers.RulesAnswer.{RulesAnswer}
use Rattle.rf_rules.specs.declared.answers.RulesAnswer.TheVariants.{Printed, Bad, TooLarge}
use Rattle.rf_rules.specs.RuleFiles.{IsRulesAnswer}
use Rattle.rf_cli.specs.declared.status.Status.{Status}
use Rattle.rf_cli.specs.declared.status.Status.TheVariants as status
use Rattle.rf_cli.specs.Acting.{RunState}
use Rattle.rf_cli.specs.Command.{IsRules, built_in}
use Rattle.rf_cli.specs.Put.{Puts, not_yet_line, read_fault_line}
use Rattle.rf_cli.specs.RulesEnd.{IsRulesRight, RulesEnd, rules_status, rules_text}
use Rattle.rf_cli.specs.WholeRun.{CountsAreSame, HasInput, HasNoForm, IsBadRules, IsExact, IsFault, IsPrinted, IsRulesSaid, IsTooLarge, StandsWhole, TouchesOneFile}
use Rattle.rf_cli.proofs.ApplyEnds.{fault_exact, if_told, memory_other, on_told, read_fails, same_of}
use Rattle.rf_cli.proofs.WholeRunLemmas.{Fails, no_rules, put_kept, put_line, put_other, put_rose, put_status, same_file}

status_is_not : (other : Status) → status.Ok ≢ other → status.BadRules ≢ other → status.TooLarge ≢ other → (answer : RulesAnswer) → rules_status answer ≢ other
status_is_not other o b t (Printed text) = o
status_is_not other o b t (Bad line) = b
status_is_not other o b t (TooLarge line) = t

module _ (words : List (List ℕ)) (before after : RunState) (result : Status) (file : List ℕ) (is_rules : IsRules words file) where
  abbrev End : Type 0
  End = RulesEnd file before after result

  pub no_other : (other : Status) → status.NotYet ≢ other → status.ReadFault ≢ other → status.Ok ≢ other → status.BadRules ≢ other → status.TooLarge ≢ other
      → status.WriteFault ≢ other → status.Memory ≢ other → End → result ≡ other → ⊥
  no_other other n r o b t w m (RulesEnd.not_yet at reads only) is = put_other only.puts other n w m is
  no_other other n r o b t w m (RulesEnd.read_fault given rose never only) is = put_other only.puts other r w m is
  no_other other n r o b t w m (RulesEnd.starved want reads stays sink) is = m (sym want ∙ is)
  no_other other n r o b t w m (RulesEnd.answered given answer right reads only) is = put_other only.puts other (status_is_not other o b t answer) w m is

  said_is : (files : Files) (answer : RulesAnswer) → file ≢ built_in → IsRulesRight file files answer → Puts (rules_text answer) before.sink.received after.sink.received
      → IsRulesSaid words files answer before.sink.received after.sink.received
  said_is files answer given right line = record { file = file; is_rules = is_rules; given = given; right = right; line = line }

  pub rules_ok : End → result ≡ status.Ok → IfSome before.files (λ files. IsPrinted words files after.files before.sink.received after.sink.received)
  rules_ok (RulesEnd.not_yet at reads only) is = absurd (put_other only.puts status.Ok (λ e. cc) (λ e. cc) (λ e. cc) is)
  rules_ok (RulesEnd.read_fault given rose never only) is = absurd (put_other only.puts status.Ok (λ e. cc) (λ e. cc) (λ e. cc) is)
  rules_ok (RulesEnd.starved want reads stays sink) is = absurd (let e : status.Memory ≡ status.Ok = sym want ∙ is in cc)
  rules_ok (RulesEnd.answered given (Printed text) right reads only) is =
      on_told before.files (λ files. IsRulesRight file files (Printed text)) (λ files. IsPrinted words files after.files before.sink.received after.sink.received) right
      (λ files told its. record {
        text = text;
        said = said_is files (Printed text) given its (put_line only.puts (λ e. cc) (λ e. cc) is);
        same = only.stays.files ∙ told;
      })
  rules_ok (RulesEnd.answered given (Bad line) right reads only) is = absurd (put_other only.puts status.Ok (λ e. cc) (λ e. cc) (λ e. cc) is)
  rules_ok (RulesEnd.answered given (TooLarge line) right reads only) is = absurd (put_other only.puts status.Ok (λ e. cc) (λ e. cc) (λ e. cc) is)

  pub rules_bad : End → result ≡ status.BadRules → IfSome before.files (λ files. IsBadRules words files before.sink.received after.sink.received)
  rules_bad (RulesEnd.not_yet at reads only) is = absurd (put_other only.puts status.BadRules (λ e. cc) (λ e. cc) (λ e. cc) is)
  rules_bad (RulesEnd.read_fault given rose never only) is = absurd (put_other only.puts status.BadRules (λ e. cc) (λ e. cc) (λ e. cc) is)
  rules_bad (RulesEnd.starved want reads stays sink) is = absurd (let e : status.Memory ≡ status.BadRules = sym want ∙ is in cc)
  rules_bad (RulesEnd.answered given (Printed text) right reads only) is = absurd (put_other only.puts status.BadRules (λ e. cc) (λ e. cc) (λ e. cc) is)
  rules_bad (RulesEnd.answered given (Bad line) right reads only) is =
      on_told before.files (λ files. IsRulesRight file files (Bad line)) (λ files. IsBadRules words files before.sink.received after.sink.received) right
      (λ files told its. (line, said_is files (Bad line) given its (put_line only.puts (λ e. cc) (λ e. cc) is)))
  rules_bad (RulesEnd.answered given (TooLarge line) right reads only) is = absurd (put_other only.puts status.BadRules (λ e. cc) (λ e. cc) (λ e. cc) is)

  pub rules_too_large : End → result ≡ status.TooLarge → IfSome before.files (λ files. IsTooLarge words files before.sink.received after.sink.received)
  rules_too_large (RulesEnd.not_yet at reads only) is = absurd (put_other only.puts status.TooLarge (λ e. cc) (λ e. cc) (λ e. cc) is)
  rules_too_large (RulesEnd.read_fault given rose never only) is = absurd (put_other only.puts status.TooLarge (λ e. cc) (λ e. cc) (λ e. cc) is)
  rules_too_large (RulesEnd.starved want reads stays sink) is = absurd (let e : status.Memory ≡ status.TooLarge = sym want ∙ is in cc)
  rules_too_large (RulesEnd.answered given (Printed text) right reads only) is = absurd (put_other only.puts status.TooLarge (λ e. cc) (λ e. cc) (λ e. cc) is)
  rules_too_large (RulesEnd.answered given (Bad line) right reads only) is = absurd (put_other only.puts status.TooLarge (λ e. cc) (λ e. cc) (λ e. cc) is)
  rules_too_large (RulesEnd.answered given (TooLarge line) right reads only) is =
      on_told before.files (λ files. IsRulesRight file files (TooLarge line)) (λ files. IsTooLarge words files before.sink.received after.sink.received) right
      (λ files told its. (line, said_is files (TooLarge line) given its (put_line only.puts (λ e. cc) (λ e. cc) is)))

  pub rules_not_yet : End → result ≡ status.NotYet → IsRules words built_in × Puts not_yet_line before.sink.received after.sink.received
  rules_not_yet (RulesEnd.not_yet at reads only) is = (subst (IsRules words) at is_rules, put_line only.puts (λ e. cc) (λ e. cc) is)
  rules_not_yet (RulesEnd.read_fault given rose never only) is = absurd (put_other only.puts status.NotYet (λ e. cc) (λ e. cc) (λ e. cc) is)
  rules_not_yet (RulesEnd.starved want reads stays sink) is = absurd (let e : status.Memory ≡ status.NotYet = sym want ∙ is in cc)
  rules_not_yet (RulesEnd.answered given answer right reads only) is =
      absurd (put_other only.puts status.NotYet (status_is_not status.NotYet (λ e. cc) (λ e. cc) (λ e. cc) answer) (λ e. cc) (λ e. cc) is)

  pub rules_read_fault : End → result ≡ status.ReadFault → Rose before.reads after.reads × Puts read_fault_line before.sink.received after.sink.received
  rules_read_fault (RulesEnd.not_yet at reads only) is = absurd (put_other only.puts status.ReadFault (λ e. cc) (λ e. cc) (λ e. cc) is)
  rules_read_fault (RulesEnd.read_fault given rose never only) is = (rose, put_line only.puts (λ e. cc) (λ e. cc) is)
  rules_read_fault (RulesEnd.starved want reads stays sink) is = absurd (let e : status.Memory ≡ status.ReadFault = sym want ∙ is in cc)
  rules_read_fault (RulesEnd.answered given answer right reads only) is =
      absurd (put_other only.puts status.ReadFault (status_is_not status.ReadFault (λ e. cc) (λ e. cc) (λ e. cc) answer) (λ e. cc) (λ e. cc) is)

  pub rules_write_fault : End → result ≡ status.WriteFault → Rose before.sink.faults after.sink.faults
  rules_write_fault (RulesEnd.not_yet at reads only) is = put_rose only.puts (λ e. cc) is
  rules_write_fault (RulesEnd.read_fault given rose never only) is = put_rose only.puts (λ e. cc) is
  rules_write_fault (RulesEnd.starved want reads stays sink) is = absurd (let e : status.Memory ≡ status.WriteFault = sym want ∙ is in cc)
  rules_write_fault (RulesEnd.answered given answer right reads only) is = put_rose only.puts (status_is_not status.WriteFault (λ e. cc) (λ e. cc) (λ e. cc) answer) is

  pub rules_files : End → after.files ≡ before.files
  rules_files (RulesEnd.not_yet at reads only) = only.stays.files
  rules_files (RulesEnd.read_fault given rose never only) = only.stays.files
  rules_files (RulesEnd.starved want reads stays sink) = stays.files
  rules_files (RulesEnd.answered given answer right reads only) = only.stays.files

  pub rules_whole : End → IfSome before.files (λ files. StandsWhole words files after.files before.reads after.reads)
  rules_whole end = if_told before.files (λ files. StandsWhole words files after.files before.reads after.reads)
      (λ files told. inr (record { same = rules_files end ∙ told; cause = inr (inr (inr (inr (file, is_rules)))) }))

  -- the status of what was answered for the file's bytes
  answered_status : (files : Files) (answer : RulesAnswer) → IsRulesRight file files answer → (result ≡ rules_status answer) ⊎ Fails result
      → (other bytes : List ℕ) → IsRules words other → files [] other ≡ Some bytes
      → ((answer : RulesAnswer) × IsRulesAnswer other bytes answer × (result ≡ rules_status answer)) ⊎ IsFault result
  answered_status files answer right which other bytes is stands =
      let same = same_file words file other is_rules is in
      let here : files [] file ≡ Some bytes = subst (λ at. files [] at ≡ Some bytes) (sym same) stands in
      let bytes_same : right.bytes ≡ bytes = let e : Some right.bytes ≡ Some bytes = sym right.stands ∙ here in cc in
      let answer_is : IsRulesAnswer file bytes answer = subst (λ b. IsRulesAnswer file b answer) bytes_same right.answer_is in
      elim which [
        | inl e ↦ inl (answer, subst (λ at. IsRulesAnswer at bytes answer) same answer_is, e)
        | inr fails ↦ inr (inr fails)
      ]

  exact_of : (files : Files)
      → ((other bytes : List ℕ) → IsRules words other → other ≢ built_in → files [] other ≡ Some bytes
      → ((answer : RulesAnswer) × IsRulesAnswer other bytes answer × (result ≡ rules_status answer)) ⊎ IsFault result)
      → (IsRules words built_in → (result ≡ status.NotYet) ⊎ IsFault result) → IsExact words files result
  exact_of files of_rules of_built_in = record {
    bad_words = λ bad. absurd (bad.no_rules file is_rules);
    form = λ command at form is_apply holds. absurd (no_rules words command file is_apply is_rules);
    no_form = λ none. absurd (no_rules words none.command file none.is_apply is_rules);
    rules = of_rules;
    built_in_rules = of_built_in;
  }

  pub rules_exact : End → IfSome before.files (λ files. IsExact words files result)
  rules_exact (RulesEnd.not_yet at reads only) = if_told before.files (λ files. IsExact words files result) (λ files told. exact_of files
      (λ other bytes is given stands. absurd (given (sym (same_file words file other is_rules is) ∙ at)))
      (λ is. elim (put_status only.puts) [ inl e ↦ inl e | inr fails ↦ inr (inr fails) ]))
  rules_exact (RulesEnd.read_fault given rose never only) =
      if_told before.files (λ files. IsExact words files result) (λ files told. fault_exact words before after result files (read_fails result (put_status only.puts)))
  rules_exact (RulesEnd.starved want reads stays sink) =
      if_told before.files (λ files. IsExact words files result) (λ files told. fault_exact words before after result files (inr (inr want)))
  rules_exact (RulesEnd.answered given answer right reads only) =
      on_told before.files (λ files. IsRulesRight file files answer) (λ files. IsExact words files result) right (λ files told its. exact_of files
      (λ other bytes is other_given stands. answered_status files answer its (put_status only.puts) other bytes is stands)
      (λ is. absurd (given (same_file words file built_in is_rules is))))

  pub rules_counts : End → IsFault result ⊎ CountsAreSame before.reads before.writes before.sink.faults after.reads after.writes after.sink.faults
  rules_counts (RulesEnd.not_yet at reads only) =
      same_of words before after result reads (elim (put_kept only.puts) [ inl fails ↦ inl fails | inr same ↦ inr (only.stays.writes, same) ])
  rules_counts (RulesEnd.read_fault given rose never only) = inl (read_fails result (put_status only.puts))
  rules_counts (RulesEnd.starved want reads stays sink) = inl (inr (inr want))
  rules_counts (RulesEnd.answered given answer right reads only) =
      same_of words before after result reads (elim (put_kept only.puts) [ inl fails ↦ inl fails | inr same ↦ inr (only.stays.writes, same) ])

  pub rules_honest : End → IsTrue before.honest → IfSome before.files (HasInput words) → (result ≢ status.ReadFault) × (after.reads ≡ before.reads)
  rules_honest (RulesEnd.not_yet at reads only) is asked = (put_other only.puts status.ReadFault (λ e. cc) (λ e. cc) (λ e. cc), reads)
  rules_honest (RulesEnd.read_fault given rose never only) is asked =
      absurd (never is (on_told before.files (HasInput words) (λ files. IsSome (files [] file)) asked (λ files told its. its.rules file is_rules)))
  rules_honest (RulesEnd.starved want reads stays sink) is asked = (memory_other words before after result status.ReadFault (λ e. cc) want, reads)
  rules_honest (RulesEnd.answered given answer right reads only) is asked =
      (put_other only.puts status.ReadFault (status_is_not status.ReadFault (λ e. cc) (λ e. cc) (λ e. cc) answer) (λ e. cc) (λ e. cc), reads)

  pub rules_puts : End → (after.sink.puts ≡ next_count before.sink.puts) ⊎ ((result ≡ status.Memory) × (after.sink.puts ≡ before.sink.puts))
  rules_puts (RulesEnd.not_yet at reads only) = inl only.puts.once
  rules_puts (RulesEnd.read_fault given rose never only) = inl only.puts.once
  rules_puts (RulesEnd.starved want reads stays sink) = inr (want, ap (λ s. s.puts) sink)
  rules_puts (RulesEnd.answered given answer right reads only) = inl only.puts.once
