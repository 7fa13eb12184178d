use Rattle.std.proofs.Common.{◌≡◌, Err, Some, ap, sym, subst, ◌∙◌, inr}
use Rattle.rf_kind.specs.Checks.{Checks}
use Rattle.rf_rtree.specs.Programs.{first_fault}
use Rattle.rf_rules.specs.RuleFiles.{java}
use Rattle.rf_rules.proofs.answers.checked.Goals as goal

pub returns-in-Err-Fault : goal.returns-in-Err-Fault
returns-in-Err-Fault c =
    let lang_is : c.in_ok-lang.lang ≡ java = λ i. record { queries = c.in_ok-lang.ensures.0 i; own = c.in_ok-lang.ensures.1 i } in
    let found : first_fault c.args.prog.now c.in_ok-lang.lang ≡ Some c.in-Err-Fault.fault =
    subst (λ e. Checks c.args.prog.now c.in_ok-lang.lang (Err e)) c.in-Err-Fault.field-0-is c.in-Err-Fault.ensures in (
      c.requires.few,
      inr (record {
        prog = c.args.prog.now;
        fault = c.in-Err-Fault.fault;
        reads = c.requires.reads;
        first = ap (first_fault c.args.prog.now) (sym lang_is) ∙ found;
        said_is = c.in_ok-line-in-Err-Fault.ensures;
      }),
    )
