use Rattle.std.proofs.Common.{subst}
use Rattle.storage_core.specs.Meaning.{state_of}
use Rattle.text_output.specs.Writing.{Puts}
use Rattle.text_output.proofs.Gathering.{puts_both}
use Rattle.vsm_model.specs.Map.{sharers}
use Rattle.vsm_model.specs.declared.Subpool.{Subpool}
use Rattle.explain_report.specs.Forms.{low_in, high_in, row_in}
use Rattle.explain_report.proofs.forms.put_row.Goals as goal

pub returns : goal.returns
returns g c =
    let w0 = g.W.Write.contents c.args.writer.now in
    let w1 = g.W.Write.contents c.put_low.new.writer in
    let w2 = g.W.Write.contents c.put_high.new.writer in
    let g0 = c.args.gathered.now in
    let g1 = c.put_low.new.gathered in
    let g2 = c.put_high.new.gathered in
    let s = c.args.storage.now in
    let row = c.row_of-row.result in
    let e = c.row_of-row.ensures in
    let shared = sharers (state_of s) row.subpool.number row.subpool.owner in
    let puts = puts_both w0 w1 w2 g0 g1 g2 (low_in c.args.form row shared) (high_in c.args.form row shared) c.put_low.ensures c.put_high.ensures in (
      row,
      record {
        subpool = e.subpool;
        low_pages = e.low_pages;
        high_pages = e.high_pages;
        low_free = e.low_free;
        high_free = e.high_free;
        low_largest = e.low_largest;
        high_largest = e.high_largest;
        low_unassigned = e.low_unassigned;
        high_unassigned = e.high_unassigned;
      },
      subst (λ (p : Subpool). Puts w0 w2 g0 g2 (row_in c.args.form row (sharers (state_of s) p.number p.owner))) e.subpool puts,
    )
