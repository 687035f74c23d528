use Rattle.std.proofs.Common.{◌≡◌, ◌<◌, ◌^◌, ℕ, List, map, take}
use Rattle.macro_statements.specs.Requests.{Act}
use Rattle.vsm_model.specs.declared.limits.Settings.{Settings}
use Rattle.explain_standing.specs.Carried.{IsCarried}
use Rattle.explain_areas.specs.declared.cells.LineCell.{LineCell}
use Rattle.explain_standing.specs.Since.{asker, asker_ended}
use Rattle.explain_findings.specs.Left.{sum_bytes, sum_of, with_cells}
use Rattle.explain_findings.specs.LeftTables.{IsPlaced, left_kept}
use Rattle.explain_findings.proofs.left.LeftTable.add_cells.Given as goal

abbrev pub invariant-loop-cell : goal.invariant-loop-cell
invariant-loop-cell l =
    record {
      placed : IsPlaced l.self;
      left : (settings : Settings) (xs : List (ℕ × Act)) → IsCarried settings xs l.carried → (line : ℕ) → line < 2 ^ 32 →
          left_kept l.self line
          ≡ with_cells line (asker settings xs line) (asker_ended settings xs line) (take l.cell-index l.cells) (left_kept l.initial.self line);
      sum :
          sum_of l.self.sum
          ≡ record (sum_of l.initial.self.sum) { bytes = sum_bytes (map (λ (c : LineCell). c.size) (take l.cell-index l.cells)) l.initial.self.sum.bytes };
    }
