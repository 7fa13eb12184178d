use Rattle.std.proofs.Common.{append_assoc}
use Rattle.rf_engine.proofs.class_file.write_renamed.Goals as goal

pub returns : goal.returns
returns c =
    rw (
      c.in_ok-extend-9.ensures.ok,
      c.in_ok-extend-8.ensures.ok,
      c.in_ok-extend-7.ensures.ok,
      c.in_ok-write_fields.ensures,
      c.as_slice.ensures,
      c.in_ok-extend-6.ensures.ok,
      c.in_ok-extend-5.ensures.ok,
      c.in_ok-extend-4.ensures.ok,
      c.in_ok-extend-3.ensures.ok,
      c.in_ok-extend-2.ensures.ok,
      c.in_ok-extend.ensures.ok,
      c.new-out.ensures,
    )
    (simp append_assoc)
