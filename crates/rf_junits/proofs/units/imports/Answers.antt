use Rattle.std.proofs.Common.{◌≡◌, ℕ, suc, ◌+◌, ◌<◌, List, ◌∷◌, length, drop, get_or, sym, ap, ◌∙◌, subst, arith}
use Rattle.std.proofs.Math.Seq.{drop-cons}
use Rattle.std.specs.List.{flat_map}
use Rattle.rf_jtree.specs.declared.decls.Import.{Import}
use Rattle.rf_jtree.specs.DeclShown.{import_shown, imports_shown}
use Rattle.rf_jview.specs.declared.accounts.Account.{Account}
use Rattle.rf_jview.specs.Accounts.{noted}
use Rattle.rf_jview.specs.DeclMarks.{import_marks}
use Rattle.rf_jview.proofs.Walks.{noted-noted}
use Rattle.rf_junits.proofs.units.imports.Goals as goal

step : (list : List Import) (i : ℕ) (item : Import) (account new : Account) → i < length list → item ≡ get_or list i item
    → new ≡ noted account (import_marks (import_shown item))
    → noted new (flat_map import_marks (imports_shown (drop (i + 1) list))) ≡ noted account (flat_map import_marks (imports_shown (drop i list)))
step list i item account new within is noted_one =
    ap (λ whole. noted whole (flat_map import_marks (imports_shown (drop (i + 1) list)))) noted_one
    ∙ (noted-noted account (import_marks (import_shown item)) (flat_map import_marks (imports_shown (drop (i + 1) list)))
    ∙ ap (λ rest. noted account (flat_map import_marks (imports_shown rest))) (sym front))
  where
    next : suc i ≡ i + 1
    next = omega arith

    front : drop i list ≡ item ∷ drop (i + 1) list
    front = drop-cons list i item within ∙ (ap (λ first. first ∷ drop (suc i) list) (sym is) ∙ ap (λ n. item ∷ drop n list) next)

pub loop-import-preserved : goal.loop-import-preserved
loop-import-preserved c =
    let same = c.as_slice-import-items.ensures in
    step c.args.list.now c.loop-import.import-index c.import-item.result c.loop-import.account c.one_import.new.account
    (subst (λ list. c.loop-import.import-index < length list) same c.loop-import-test.true)
    (subst (λ list. c.import-item.result ≡ get_or list c.loop-import.import-index c.import-item.result) same c.import-item.is)
    c.in_ok-one_import.ensures
    ∙ c.loop-import.invariant
