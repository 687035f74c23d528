use Rattle.std.proofs.Common.{ℕ, List, [], ◌∷◌, ◌++◌, codes}
use Rattle.text_output.proofs.Gathering.{puts_both}
use Rattle.explain_report.specs.Texts.{longest_text, runs_text}
use Rattle.explain_report.proofs.tables.put_unassigned_line.Goals as goal

pub returns : goal.returns
returns g c =
    let w0 = g.W.Write.contents c.args.writer.now in
    let g0 = c.args.gathered.now in
    let w1 = g.W.Write.contents c.put.new.writer in
    let g1 = c.put.new.self in
    let w2 = g.W.Write.contents c.put-2.new.writer in
    let g2 = c.put-2.new.self in
    let w3 = g.W.Write.contents c.put-3.new.writer in
    let g3 = c.put-3.new.self in
    let w4 = g.W.Write.contents c.put_runs.new.writer in
    let g4 = c.put_runs.new.gathered in
    let w5 = g.W.Write.contents c.put_longest.new.writer in
    let g5 = c.put_longest.new.gathered in
    let w6 = g.W.Write.contents c.put-4.new.writer in
    let g6 = c.put-4.new.self in
    let t1 : List ℕ = codes "UNASSIGNED " in
    let t2 : List ℕ = c.args.side.now in
    let t3 : List ℕ = codes "   " in
    let t4 : List ℕ = runs_text c.args.runs.now in
    let t5 : List ℕ = longest_text c.args.runs.now in
    let t6 : List ℕ = 10 ∷ [] in
    (puts_both w0 w5 w6 g0 g5 g6 (t1 ++ t2 ++ t3 ++ t4 ++ t5) t6
    (puts_both w0 w4 w5 g0 g4 g5 (t1 ++ t2 ++ t3 ++ t4) t5
    (puts_both w0 w3 w4 g0 g3 g4 (t1 ++ t2 ++ t3) t4
    (puts_both w0 w2 w3 g0 g2 g3 (t1 ++ t2) t3
    (puts_both w0 w1 w2 g0 g1 g2 (t1) t2
    (c.put.ensures.puts)
    (c.put-2.ensures.puts))
    (c.put-3.ensures.puts))
    (c.put_runs.ensures))
    (c.put_longest.ensures))
    (c.put-4.ensures.puts))
