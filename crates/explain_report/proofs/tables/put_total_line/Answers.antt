use Rattle.std.proofs.Common.{ℕ, List, [], ◌∷◌, ◌++◌, ◌+◌, codes, subst}
use Rattle.text_output.specs.Writing.{Puts}
use Rattle.text_output.proofs.Gathering.{puts_both}
use Rattle.explain_report.specs.Texts.{columns}
use Rattle.explain_report.proofs.tables.put_total_line.Goals as goal

pub returns : goal.returns
returns g c =
    let w0 = g.W.Write.contents c.args.writer.now in
    let g0 = c.args.gathered.now in
    let w1 = g.W.Write.contents c.put.new.writer in
    let g1 = c.put.new.self in
    let w2 = g.W.Write.contents c.put_columns.new.writer in
    let g2 = c.put_columns.new.gathered in
    let w3 = g.W.Write.contents c.put-2.new.writer in
    let g3 = c.put-2.new.self in
    let m = c.args.moment.now in
    let t1 : List ℕ = codes "  TOTAL            " in
    let t2 : List ℕ = columns ((7, m.totals.low_pages + m.totals.high_pages) ∷ (11, m.totals.taken) ∷ (11, m.totals.free) ∷ (7, m.free.count) ∷ []) in
    let t3 : List ℕ = 10 ∷ [] in
    (puts_both w0 w2 w3 g0 g2 g3 (t1 ++ t2) t3
    (puts_both w0 w1 w2 g0 g1 g2 (t1) t2
    (c.put.ensures.puts)
    (subst (λ (cells : List (ℕ × ℕ)). Puts w1 w2 g1 g2 (columns cells)) (λ i. (7, c.from.ensures i + c.from-2.ensures i) ∷ (11, m.totals.taken) ∷ (11, m.totals.free) ∷ (7, c.from-areas.ensures i) ∷ []) c.put_columns.ensures))
    (c.put-2.ensures.puts))
