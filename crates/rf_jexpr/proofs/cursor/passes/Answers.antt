-- A test of a token, told by the kind that its form has, is the test that was wanted.
use Rattle.rf_jexpr.proofs.CursorLemmas.{op_exact, key_exact, ident_exact}
use Rattle.rf_jexpr.proofs.cursor.passes.Goals as goal

pub returns-in-Op : goal.returns-in-Op
returns-in-Op c = rw c.in-Op.is (op_exact c.is_op.result c.in-Op.op c.args.tok.now c.is_op.ensures)

pub returns-in-Key : goal.returns-in-Key
returns-in-Key c = rw c.in-Key.is (key_exact c.is_key.result c.in-Key.word c.args.tok.now c.is_key.ensures)

pub returns-in-Ident : goal.returns-in-Ident
returns-in-Ident c = rw c.in-Ident.is (ident_exact c.is_ident.result c.args.tok.now c.is_ident.ensures)
