use Rattle.std.proofs.Common.{refl}
use Rattle.rf_make.proofs.Deriving.{boolean_made}
use Rattle.rf_make.proofs.booleans.boolean.Goals as goal

pub returns : goal.returns
returns c = boolean_made c.args.maker.now c.args.which c.args.places.now c.args.taken.now _ c.in_ok-partial.partial c.as_slice.result.now c.in_ok-found.found c.as_slice-2.result.now c.first_behind.result
    c.if-which-maker.false refl c.in_ok-partial.ensures c.as_slice.ensures c.in_ok-found.ensures c.as_slice-2.ensures c.first_behind.ensures
