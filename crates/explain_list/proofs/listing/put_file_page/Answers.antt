use Rattle.std.proofs.Common.{◌∙◌, [], None, if◌then◌else◌, refl, sym, ap, subst}
use Rattle.std.specs.List.{flat_map}
use Rattle.text_output.specs.Writing.{Puts}
use Rattle.text_output.proofs.Gathering.{puts_none}
use Rattle.explain_list.specs.Rows.{row_in}
use Rattle.explain_list.proofs.Each.{rows_marks}
use Rattle.explain_list.proofs.listing.put_file_page.Goals as goal

pub returns-then-is_written : goal.returns-then-is_written
returns-then-is_written g c =
    let rows = c.put_file_row.ensures in
    let text = flat_map (row_in c.args.layout.form c.args.script.now) rows.0 in (
      rows.0,
      (rows.1, rows_marks c.args.script.now None rows.0 [] [] rows.2 rows.4 tt),
      rows.2,
      rows.3,
      subst (Puts (g.W.Write.contents c.args.writer.now) (g.W.Write.contents c.put_file_row.new.writer) c.args.gathered.now c.put_file_row.new.gathered)
          (sym (ap (λ w. if w then text else []) (sym c.is_written.ensures ∙ c.if-is_written.true))) rows.5,
    )

pub returns-else-is_written : goal.returns-else-is_written
returns-else-is_written g c = (
  [],
  (tt, tt),
  refl,
  refl,
  subst (Puts (g.W.Write.contents c.args.writer.now) (g.W.Write.contents c.args.writer.now) c.args.gathered.now c.args.gathered.now)
      (sym (ap (λ w. if w then flat_map (row_in c.args.layout.form c.args.script.now) [] else []) (sym c.is_written.ensures ∙ c.if-is_written.false))) (puts_none _ _),
)
