use Rattle.std.proofs.Common.{ℕ, List, codes}
use Rattle.text_output.proofs.Gathering.{puts_both}
use Rattle.explain_text.specs.Json.{object_end, object_start}
use Rattle.explain_report.proofs.said.put_after_none.Goals as goal

pub returns : goal.returns
returns g c =
    let w0 = g.W.Write.contents c.args.writer.now in
    let g0 = c.args.gathered.now in
    let w1 = g.W.Write.contents c.put_object_start.new.writer in
    let g1 = c.put_object_start.new.gathered in
    let w2 = g.W.Write.contents c.put_object_end.new.writer in
    let g2 = c.put_object_end.new.gathered in
    let t1 : List ℕ = object_start (codes "after") in
    let t2 : List ℕ = object_end in
    (puts_both w0 w1 w2 g0 g1 g2 (t1) t2
    (c.put_object_start.ensures)
    (c.put_object_end.ensures))
