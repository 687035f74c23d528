use Rattle.std.proofs.Common.{ℕ, List, ◌++◌, codes}
use Rattle.text_output.proofs.Gathering.{puts_both}
use Rattle.explain_report.specs.PoolRows.{pools_in}
use Rattle.storage_core.specs.Meaning.{state_of}
use Rattle.explain_report.specs.Forms.{columns_in, total_in, unassigned_in}
use Rattle.explain_report.proofs.forms.put_table.Goals as goal

pub returns : goal.returns
returns g c =
    let w0 = g.W.Write.contents c.args.writer.now in
    let g0 = c.args.gathered.now in
    let w1 = g.W.Write.contents c.put_columns.new.writer in
    let g1 = c.put_columns.new.gathered in
    let w2 = g.W.Write.contents c.put_rows.new.writer in
    let g2 = c.put_rows.new.gathered in
    let w3 = g.W.Write.contents c.put_total.new.writer in
    let g3 = c.put_total.new.gathered in
    let w4 = g.W.Write.contents c.put_unassigned.new.writer in
    let g4 = c.put_unassigned.new.gathered in
    let w5 = g.W.Write.contents c.put_unassigned-2.new.writer in
    let g5 = c.put_unassigned-2.new.gathered in
    let w6 = g.W.Write.contents c.put_pools.new.writer in
    let g6 = c.put_pools.new.gathered in
    let m = c.args.moment.now in
    let form = c.args.form in
    let t1 : List ℕ = columns_in form in
    let t2 : List ℕ = c.put_rows.ensures.0 in
    let t3 : List ℕ = total_in form m in
    let t4 : List ℕ = unassigned_in form (codes "BELOW") m.unassigned.low in
    let t5 : List ℕ = unassigned_in form (codes "ABOVE") m.unassigned.high in
    let t6 : List ℕ = pools_in form (state_of c.args.storage.now).cell_pools in (
      c.put_rows.ensures.0,
      c.put_rows.ensures.1,
      (puts_both w0 w5 w6 g0 g5 g6 (t1 ++ t2 ++ t3 ++ t4 ++ t5) t6
          (puts_both w0 w4 w5 g0 g4 g5 (t1 ++ t2 ++ t3 ++ t4) t5
          (puts_both w0 w3 w4 g0 g3 g4 (t1 ++ t2 ++ t3) t4
          (puts_both w0 w2 w3 g0 g2 g3 (t1 ++ t2) t3
          (puts_both w0 w1 w2 g0 g1 g2 (t1) t2
          (c.put_columns.ensures)
          (c.put_rows.ensures.2))
          (c.put_total.ensures))
          (c.put_unassigned.ensures))
          (c.put_unassigned-2.ensures))
          (c.put_pools.ensures)),
    )
