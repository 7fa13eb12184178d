use Rattle.std.proofs.Common.{◌≡◌, ℕ, true, eqb, eqb-true, length, get_or, ◌-◌, subst, arith}
use Rattle.std.proofs.lemmas.Bool.{OnTrue_from}
use Rattle.rf_form.specs.Alive.{is_among}
use Rattle.rf_prop.proofs.Quiets.{among_row}
use Rattle.rf_prop.proofs.wiring.ends_with.Goals as goal

pub returns : goal.returns
returns c = let row = c.args.row.now in let last = get_or row (length row - 1) 0 in
    OnTrue_from (eqb last c.args.place) (is_among c.args.place row ≡ true)
    (λ e. subst (λ (p : ℕ). is_among p row ≡ true) (eqb-true last c.args.place e) (among_row row (length row - 1) (omega arith)))
