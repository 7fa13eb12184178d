use Rattle.std.proofs.Common.{map, sym}
use Rattle.rf_engine.specs.Seen.{field_seen, head_cut_seen, end_seen}
use Rattle.rf_engine.proofs.ClassLemmas.{no_head, no_end, class_found}
use Rattle.rf_engine.proofs.class_file.read_class.Goals as goal

pub returns-in_default : goal.returns-in_default
returns-in_default c = no_head c.args.file.now (sym c.in_default.ensures)

pub returns-in_default-read_end : goal.returns-in_default-read_end
returns-in_default-read_end c =
    let head = head_cut_seen c.in-Some.head in
    no_end c.args.file.now head.0 head.1 (map field_seen c.in_ok-body.body.fields) c.in_ok-body.body.rest.now
    (sym c.in-Some.ensures) c.in_ok-body.ensures (sym c.in_default-read_end.ensures)

pub returns : goal.returns
returns c =
    let head = head_cut_seen c.in-Some.head in
    class_found c.args.file.now head.0 head.1 (map field_seen c.in_ok-body.body.fields) c.in_ok-body.body.rest.now
    (end_seen c.in-Some-read_end.end) (sym c.in-Some.ensures) c.in_ok-body.ensures (sym c.in-Some-read_end.ensures)
