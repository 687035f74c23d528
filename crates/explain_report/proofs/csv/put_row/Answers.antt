use Rattle.std.proofs.Common.{ℕ, ◌++◌, codes, subst}
use Rattle.std.specs.Fmt.{decimal}
use Rattle.text_output.specs.Writing.{Puts}
use Rattle.text_output.proofs.Gathering.{puts_both}
use Rattle.explain_report.specs.Csv.{values_text}
use Rattle.explain_report.proofs.csv.put_row.Goals as goal

pub returns : goal.returns
returns g c =
    let w0 = g.W.Write.contents c.args.writer.now in
    let g0 = c.args.gathered.now in
    let w1 = g.W.Write.contents c.put_decimal.new.writer in
    let g1 = c.put_decimal.new.gathered in
    let w2 = g.W.Write.contents c.put_values.new.writer in
    let g2 = c.put_values.new.gathered in
    let w3 = g.W.Write.contents c.put.new.writer in
    let g3 = c.put.new.self in
    let line = decimal c.args.line in
    let values = values_text c.args.figures.now in
    puts_both w0 w2 w3 g0 g2 g3 (line ++ values) (codes "\n")
    (puts_both w0 w1 w2 g0 g1 g2 line values (subst (λ (n : ℕ). Puts w0 w1 g0 g1 (decimal n)) c.from.ensures c.put_decimal.ensures) c.put_values.ensures)
    c.put.ensures.puts
