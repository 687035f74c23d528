use Rattle.std.proofs.Common.{ℕ, List, codes}
use Rattle.text_output.proofs.Gathering.{puts_both}
use Rattle.explain_report.proofs.csv.put_subpool_heading.Goals as goal

pub returns : goal.returns
returns g c =
    let w0 = g.W.Write.contents c.args.writer.now in
    let g0 = c.args.gathered.now in
    let w1 = g.W.Write.contents c.put.new.writer in
    let g1 = c.put.new.self in
    let w2 = g.W.Write.contents c.put-2.new.writer in
    let g2 = c.put-2.new.self in
    let t1 : List ℕ = codes "line,low_pages,low_taken,low_free,low_areas,low_largest,low_could_get" in
    let t2 : List ℕ = codes ",high_pages,high_taken,high_free,high_areas,high_largest,high_could_get\n" in
    (puts_both w0 w1 w2 g0 g1 g2 (t1) t2
    (c.put.ensures.puts)
    (c.put-2.ensures.puts))
