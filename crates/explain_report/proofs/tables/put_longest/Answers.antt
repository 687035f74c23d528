use Rattle.std.proofs.Common.{ℕ, List, ◌++◌, ◌*◌, codes, nat_lt, subst}
use Rattle.text_output.specs.Writing.{Puts}
use Rattle.text_output.proofs.Gathering.{puts_both}
use Rattle.std.specs.Fmt.{decimal}
use Rattle.explain_report.specs.Texts.{counted, where_text}
use Rattle.explain_report.proofs.tables.put_longest.Goals as goal

pub returns : goal.returns
returns g c =
    let w0 = g.W.Write.contents c.args.writer.now in
    let g0 = c.args.gathered.now in
    let w1 = g.W.Write.contents c.put.new.writer in
    let g1 = c.put.new.self in
    let w2 = g.W.Write.contents c.put_decimal.new.writer in
    let g2 = c.put_decimal.new.gathered in
    let w3 = g.W.Write.contents c.put_counted.new.writer in
    let g3 = c.put_counted.new.gathered in
    let w4 = g.W.Write.contents c.put-2.new.writer in
    let g4 = c.put-2.new.self in
    let w5 = g.W.Write.contents c.put_decimal-2.new.writer in
    let g5 = c.put_decimal-2.new.gathered in
    let w6 = g.W.Write.contents c.put-3.new.writer in
    let g6 = c.put-3.new.self in
    let w7 = g.W.Write.contents c.put_where.new.writer in
    let g7 = c.put_where.new.gathered in
    let runs = c.args.runs.now in
    let t1 : List ℕ = codes ", LONGEST " in
    let t2 : List ℕ = decimal runs.longest in
    let t3 : List ℕ = counted runs.longest (codes "PAGE") in
    let t4 : List ℕ = codes " (" in
    let t5 : List ℕ = decimal (4096 * runs.longest) in
    let t6 : List ℕ = codes " BYTES) AT" in
    let t7 : List ℕ = where_text (nat_lt 0 runs.longest) (4096 * runs.at) in
    (puts_both w0 w6 w7 g0 g6 g7 (t1 ++ t2 ++ t3 ++ t4 ++ t5 ++ t6) t7
    (puts_both w0 w5 w6 g0 g5 g6 (t1 ++ t2 ++ t3 ++ t4 ++ t5) t6
    (puts_both w0 w4 w5 g0 g4 g5 (t1 ++ t2 ++ t3 ++ t4) t5
    (puts_both w0 w3 w4 g0 g3 g4 (t1 ++ t2 ++ t3) t4
    (puts_both w0 w2 w3 g0 g2 g3 (t1 ++ t2) t3
    (puts_both w0 w1 w2 g0 g1 g2 (t1) t2
    (c.put.ensures.puts)
    (subst (λ (n : ℕ). Puts w1 w2 g1 g2 (decimal n)) c.from.ensures c.put_decimal.ensures))
    (c.put_counted.ensures))
    (c.put-2.ensures.puts))
    (subst (λ (n : ℕ). Puts w4 w5 g4 g5 (decimal n)) c.bytes_of.ensures c.put_decimal-2.ensures))
    (c.put-3.ensures.puts))
    (subst (λ (n : ℕ). Puts w6 w7 g6 g7 (where_text (nat_lt 0 runs.longest) n)) c.bytes_of-2.ensures c.put_where.ensures))
