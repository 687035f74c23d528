use Rattle.std.proofs.Common.{ℕ, List, ◌++◌, codes, subst}
use Rattle.text_output.specs.Writing.{Puts}
use Rattle.text_output.proofs.Gathering.{puts_both}
use Rattle.std.specs.Fmt.{decimal}
use Rattle.explain_text.specs.Columns.{column}
use Rattle.explain_report.specs.Texts.{counted}
use Rattle.explain_report.proofs.tables.put_runs.Goals as goal

pub returns : goal.returns
returns g c =
    let w0 = g.W.Write.contents c.args.writer.now in
    let g0 = c.args.gathered.now in
    let w1 = g.W.Write.contents c.put_column.new.writer in
    let g1 = c.put_column.new.gathered in
    let w2 = g.W.Write.contents c.put_counted.new.writer in
    let g2 = c.put_counted.new.gathered in
    let w3 = g.W.Write.contents c.put.new.writer in
    let g3 = c.put.new.self in
    let w4 = g.W.Write.contents c.put_decimal.new.writer in
    let g4 = c.put_decimal.new.gathered in
    let w5 = g.W.Write.contents c.put_counted-2.new.writer in
    let g5 = c.put_counted-2.new.gathered in
    let runs = c.args.runs.now in
    let t1 : List ℕ = column 7 runs.total in
    let t2 : List ℕ = counted runs.total (codes "PAGE") in
    let t3 : List ℕ = codes " IN " in
    let t4 : List ℕ = decimal runs.count in
    let t5 : List ℕ = counted runs.count (codes "RUN") in
    (puts_both w0 w4 w5 g0 g4 g5 (t1 ++ t2 ++ t3 ++ t4) t5
    (puts_both w0 w3 w4 g0 g3 g4 (t1 ++ t2 ++ t3) t4
    (puts_both w0 w2 w3 g0 g2 g3 (t1 ++ t2) t3
    (puts_both w0 w1 w2 g0 g1 g2 (t1) t2
    (subst (λ (n : ℕ). Puts w0 w1 g0 g1 (column 7 n)) c.from.ensures c.put_column.ensures)
    (c.put_counted.ensures))
    (c.put.ensures.puts))
    (subst (λ (n : ℕ). Puts w3 w4 g3 g4 (decimal n)) c.from-2.ensures c.put_decimal.ensures))
    (c.put_counted-2.ensures))
