use Rattle.std.proofs.Common.{ℕ, List, [], ◌∷◌, ◌++◌, codes, subst}
use Rattle.text_output.specs.Writing.{Puts}
use Rattle.text_output.proofs.Gathering.{puts_both}
use Rattle.explain_report.specs.Texts.{columns, share_text, tasks_text}
use Rattle.vsm_model.specs.Map.{sharers}
use Rattle.storage_core.specs.Meaning.{state_of}
use Rattle.explain_report.proofs.tables.put_side_line.Goals as goal

pub returns : goal.returns
returns g c =
    let w0 = g.W.Write.contents c.args.writer.now in
    let g0 = c.args.gathered.now in
    let w1 = g.W.Write.contents c.put_columns.new.writer in
    let g1 = c.put_columns.new.gathered in
    let w2 = g.W.Write.contents c.put.new.writer in
    let g2 = c.put.new.self in
    let w3 = g.W.Write.contents c.put-2.new.writer in
    let g3 = c.put-2.new.self in
    let w4 = g.W.Write.contents c.put_share.new.writer in
    let g4 = c.put_share.new.gathered in
    let w5 = g.W.Write.contents c.put-3.new.writer in
    let g5 = c.put-3.new.self in
    let w6 = g.W.Write.contents c.put_tasks.new.writer in
    let g6 = c.put_tasks.new.gathered in
    let w7 = g.W.Write.contents c.put-4.new.writer in
    let g7 = c.put-4.new.self in
    let row = c.args.row.now in
    let t1 : List ℕ = columns ((7, row.subpool.number) ∷ (6, row.subpool.owner) ∷ []) in
    let t2 : List ℕ = codes " " in
    let t3 : List ℕ = c.args.side.now in
    let t4 : List ℕ = share_text c.args.share.now in
    let t5 : List ℕ = codes " " in
    let t6 : List ℕ = tasks_text (codes "NONE") (sharers (state_of c.args.storage.now) row.subpool.number row.subpool.owner) in
    let t7 : List ℕ = 10 ∷ [] in
    (puts_both w0 w6 w7 g0 g6 g7 (t1 ++ t2 ++ t3 ++ t4 ++ t5 ++ t6) t7
    (puts_both w0 w5 w6 g0 g5 g6 (t1 ++ t2 ++ t3 ++ t4 ++ t5) t6
    (puts_both w0 w4 w5 g0 g4 g5 (t1 ++ t2 ++ t3 ++ t4) t5
    (puts_both w0 w3 w4 g0 g3 g4 (t1 ++ t2 ++ t3) t4
    (puts_both w0 w2 w3 g0 g2 g3 (t1 ++ t2) t3
    (puts_both w0 w1 w2 g0 g1 g2 (t1) t2
    (subst (λ (cells : List (ℕ × ℕ)). Puts w0 w1 g0 g1 (columns cells)) (λ i. (7, c.from-number.ensures i) ∷ (6, c.from-owner.ensures i) ∷ []) c.put_columns.ensures)
    (c.put.ensures.puts))
    (c.put-2.ensures.puts))
    (c.put_share.ensures))
    (c.put-3.ensures.puts))
    (c.put_tasks.ensures))
    (c.put-4.ensures.puts))
