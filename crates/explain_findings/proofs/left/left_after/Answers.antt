use Rattle.std.proofs.Common.{◌≡◌, ◌<◌, ◌^◌, ℕ, Bool, length, map, reverse, sym, ap, ◌∙◌}
use Rattle.std.specs.Prelude.{filter, is_some}
use Rattle.macro_statements.specs.Requests.{Act}
use Rattle.explain_standing.specs.Carried.{line_act}
use Rattle.explain_areas.specs.Cells.{used_cells}
use Rattle.explain_standing.specs.Standings.{acts_in}
use Rattle.explain_areas.specs.declared.cells.LineCell.{LineCell}
use Rattle.explain_standing.specs.Since.{asker, asker_ended}
use Rattle.explain_findings.specs.Left.{bytes_of, left_after, obtained_areas, sum_of, with_areas, with_cells}
use Rattle.explain_findings.specs.LeftTables.{left_kept}
use Rattle.explain_findings.proofs.LeftLists.{summed, turned_twice}
use Rattle.explain_findings.proofs.left.left_after.Goals as goal

pub returns : goal.returns
returns c = λ settings carried.
    let xs = reverse (acts_in c.args.entries.now) in
    let areas = c.in_ok-add_areas.ensures.left settings xs carried in
    let cells = c.in_ok-add_cells.ensures.left settings xs carried in
    let left : (line : ℕ) → line < 2 ^ 32 → left_kept c.add_cells.new.self line ≡ left_after settings xs line = λ line low.
    cells.0 line low
    ∙ ap (with_cells line (asker settings xs line) (asker_ended settings xs line) (used_cells settings xs))
    (areas.0 line low
    ∙ ap (with_areas line (asker settings xs line) (asker_ended settings xs line) (obtained_areas settings xs)) (c.new-table.ensures.left line)) in
    let test : ℕ → Bool = λ line. is_some (left_after settings xs line) in
    record {
      left = left;
      sum =
          summed (sum_of c.new-table.result.sum) (sum_of c.add_areas.new.self.sum) (sum_of c.add_cells.new.self.sum)
          (length (obtained_areas settings xs)) (length (used_cells settings xs))
          (map bytes_of (obtained_areas settings xs)) (map (λ (c : LineCell). c.size) (used_cells settings xs))
          c.in_ok-table.field-0.items (filter test (reverse (map (λ (x : ℕ × Act). x.0) xs)))
          c.new-table.ensures.sum areas.1 cells.1
          (c.in_ok-table.ensures test (λ line low. ap is_some (left line low))
          ∙ ap (filter test) (sym (turned_twice (λ (x : ℕ × Act). x.0) line_act c.args.entries.now)));
    }
