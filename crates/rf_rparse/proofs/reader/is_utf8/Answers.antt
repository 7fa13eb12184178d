use Rattle.std.proofs.Common.{◌≡◌, refl, true, false}
use Rattle.rf_rparse.proofs.reader.is_utf8.Goals as goal

pub returns-in-Ok : goal.returns-in-Ok
returns-in-Ok c = (λ is. c.in-Ok.ensures.cases.1, λ is. refl)

pub returns-in-Err : goal.returns-in-Err
returns-in-Err c = (λ is. (let h : false ≡ true = is in cc), λ is. absurd (c.in-Err.ensures.cases.0 is))
