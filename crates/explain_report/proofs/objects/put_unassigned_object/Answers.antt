use Rattle.std.proofs.Common.{ℕ, List, ◌++◌, codes}
use Rattle.text_output.proofs.Gathering.{puts_both}
use Rattle.explain_text.specs.Json.{object_end, object_start, string_field}
use Rattle.explain_report.specs.Objects.{runs_fields}
use Rattle.explain_report.proofs.objects.put_unassigned_object.Goals as goal

pub returns : goal.returns
returns g c =
    let w0 = g.W.Write.contents c.args.writer.now in
    let g0 = c.args.gathered.now in
    let w1 = g.W.Write.contents c.put_object_start.new.writer in
    let g1 = c.put_object_start.new.gathered in
    let w2 = g.W.Write.contents c.put_string_field.new.writer in
    let g2 = c.put_string_field.new.gathered in
    let w3 = g.W.Write.contents c.put_runs_fields.new.writer in
    let g3 = c.put_runs_fields.new.gathered in
    let w4 = g.W.Write.contents c.put_object_end.new.writer in
    let g4 = c.put_object_end.new.gathered in
    let t1 : List ℕ = object_start (codes "unassigned") in
    let t2 : List ℕ = string_field (codes "side") c.args.side.now in
    let t3 : List ℕ = runs_fields c.args.runs.now in
    let t4 : List ℕ = object_end in
    (puts_both w0 w3 w4 g0 g3 g4 (t1 ++ t2 ++ t3) t4
    (puts_both w0 w2 w3 g0 g2 g3 (t1 ++ t2) t3
    (puts_both w0 w1 w2 g0 g1 g2 (t1) t2
    (c.put_object_start.ensures)
    (c.put_string_field.ensures))
    (c.put_runs_fields.ensures))
    (c.put_object_end.ensures))
