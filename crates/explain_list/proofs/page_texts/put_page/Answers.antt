use Rattle.std.proofs.Common.{◌∙◌, [], ◌++◌, if◌then◌else◌, length, unwrap_or, sym, ap, subst}
use Rattle.std.specs.List.{flat_map}
use Rattle.bench_core.specs.Stands.{bench_of, settings_in}
use Rattle.text_output.specs.Writing.{Puts}
use Rattle.text_output.proofs.Gathering.{puts_both, puts_none}
use Rattle.macro_statements.specs.Requests.{asked_in}
use Rattle.explain_list.specs.Answers.{Notes, name_given, pool_made, told_in}
use Rattle.explain_faults.specs.declared.lines.SourceLine.{SourceLine}
use Rattle.explain_list.specs.Pages.{ends_lost, fault_told, shown_of}
use Rattle.explain_list.specs.Rows.{AreMarksOf, lines_of, row_in}
use Rattle.explain_list.proofs.Each.{lines_of_rows, losses_of_rows, marks_of_rows, rows_by, rows_by_are, rows_marks}
use Rattle.explain_list.proofs.Unwritten.{unwritten_fault, unwritten_notes}
use Rattle.explain_list.proofs.Marked.{page_marks, precedes_at, shown_are}
use Rattle.explain_list.proofs.page_texts.put_page.Goals as goal

pub returns-then-is_written : goal.returns-then-is_written
returns-then-is_written g c = λ page whole at.
    let kind = fault_told c.args.answered.now.told.now in
    let rows = c.put_rows.ensures kind page whole in
    let marks = page_marks c.args.script.now kind c.args.page.now page whole in
    let told = c.put_answer.ensures in
    let text = flat_map (row_in c.args.layout.form c.args.script.now) rows.0 in
    let its = c.args.answered.now in
    let b = its.bench.now in
    let answer = told_in c.args.layout.form (settings_in b) (bench_of b).present (length (bench_of b).past) its.shown.now its.told.now its.last told.0 in (
      rows.0,
      its.last,
      told.0,
      (rows.1, rows_marks c.args.script.now kind rows.0 (shown_of c.args.page.now) _ rows.2 rows.4 marks),
      rows.2,
      rows.3,
      at,
      told.1,
      subst (Puts (g.W.Write.contents c.args.writer.now) (g.W.Write.contents c.put_answer.new.writer) c.args.gathered.now c.put_answer.new.gathered)
          (sym (ap (λ w. if w then text ++ answer else []) (sym c.is_written.ensures ∙ c.if-is_written.true)))
          (puts_both _ _ _ _ _ _ text answer rows.5 told.2),
    )

pub returns-else-is_written : goal.returns-else-is_written
returns-else-is_written g c = λ page whole at.
    let script = c.args.script.now in
    let lines = shown_of c.args.page.now in
    let its = c.args.answered.now in
    let b = its.bench.now in
    let asked = asked_in its.request.now in
    let notes : Notes = record { cause = []; name = name_given asked; pool = pool_made asked } in
    let its_page = c.args.page.now in
    let gone = ends_lost its_page.last in
    let none : SourceLine = record { number = 0; start = 0; end = 0 } in
    let before = unwrap_or its_page.before none in
    let rows = rows_by gone before lines in
    let quiet = unwritten_fault c.args.layout its.told.now (sym c.is_written.ensures ∙ c.if-is_written.false) in
    let text = flat_map (row_in c.args.layout.form script) rows
    ++ told_in c.args.layout.form (settings_in b) (bench_of b).present (length (bench_of b).past) its.shown.now its.told.now its.last notes in (
      rows,
      its.last,
      notes,
      (
        rows_by_are script gone before lines (shown_are script (fault_told its.told.now) its_page page)
            (λ front line is ends. precedes_at script its_page line none page.lines (whole.before front line is ends)),
        subst (AreMarksOf script (lines_of rows) (fault_told its.told.now)) (sym (marks_of_rows gone before lines))
            (subst (λ k. AreMarksOf script (lines_of rows) k []) (sym quiet) tt),
      ),
      lines_of_rows gone before lines,
      losses_of_rows gone before lines,
      at,
      unwritten_notes c.args.layout (settings_in b) (bench_of b).present asked its.told.now (sym c.is_written.ensures ∙ c.if-is_written.false),
      subst (Puts (g.W.Write.contents c.args.writer.now) (g.W.Write.contents c.args.writer.now) c.args.gathered.now c.args.gathered.now)
          (sym (ap (λ w. if w then text else []) (sym c.is_written.ensures ∙ c.if-is_written.false)))
          (puts_none _ _),
    )
