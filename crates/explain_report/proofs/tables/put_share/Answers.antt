use Rattle.std.proofs.Common.{ℕ, List, ◌++◌, ◌*◌, codes, nat_lt, subst}
use Rattle.text_output.specs.Writing.{Puts}
use Rattle.text_output.proofs.Gathering.{puts_both}
use Rattle.explain_text.specs.Columns.{column}
use Rattle.explain_report.specs.Texts.{amounts_text, where_text}
use Rattle.explain_report.specs.Values.{could_get, fragmented}
use Rattle.explain_report.proofs.tables.put_share.Goals as goal

pub returns : goal.returns
returns g c =
    let w0 = g.W.Write.contents c.args.writer.now in
    let g0 = c.args.gathered.now in
    let w1 = g.W.Write.contents c.put_amounts.new.writer in
    let g1 = c.put_amounts.new.gathered in
    let w2 = g.W.Write.contents c.put_where.new.writer in
    let g2 = c.put_where.new.gathered in
    let w3 = g.W.Write.contents c.put_column.new.writer in
    let g3 = c.put_column.new.gathered in
    let w4 = g.W.Write.contents c.put.new.writer in
    let g4 = c.put.new.self in
    let w5 = g.W.Write.contents c.put_column-2.new.writer in
    let g5 = c.put_column-2.new.gathered in
    let share = c.args.share.now in
    let t1 : List ℕ = amounts_text share in
    let t2 : List ℕ = where_text (nat_lt 0 share.largest) (8 * share.free.at) in
    let t3 : List ℕ = column 9 (fragmented share.largest share.free.total) in
    let t4 : List ℕ = codes " %" in
    let t5 : List ℕ = column 11 (could_get share) in
    (puts_both w0 w4 w5 g0 g4 g5 (t1 ++ t2 ++ t3 ++ t4) t5
    (puts_both w0 w3 w4 g0 g3 g4 (t1 ++ t2 ++ t3) t4
    (puts_both w0 w2 w3 g0 g2 g3 (t1 ++ t2) t3
    (puts_both w0 w1 w2 g0 g1 g2 (t1) t2
    (c.put_amounts.ensures)
    (subst (λ (n : ℕ). Puts w1 w2 g1 g2 (where_text (nat_lt 0 share.largest) (8 * n))) c.from-at.ensures c.put_where.ensures))
    (subst (λ (n : ℕ). Puts w2 w3 g2 g3 (column 9 n)) c.fragmented-lacks.ensures c.put_column.ensures))
    (c.put.ensures.puts))
    (subst (λ (n : ℕ). Puts w4 w5 g4 g5 (column 11 n)) c.could_get.ensures c.put_column-2.ensures))
