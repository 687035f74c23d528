-- What is left, as it's kept by lines.
use Rattle.std.specs.Prelude.{◌≡◌, ◌==◌, ◌<◌, ◌^◌, ℕ, Bool, if◌then◌else◌, Option, Some, None, is_some, List, slice_get}
use Rattle.std.specs.Prelude.{filter, length, map}
use Rattle.macro_operands.specs.declared.requests.Statement.{Statement}
use Rattle.macro_statements.specs.Requests.{Act}
use Rattle.vsm_model.specs.declared.limits.Settings.{Settings}
use Rattle.explain_standing.specs.declared.trail.TrailEntry.{TrailEntry}
use Rattle.explain_standing.specs.Carried.{IsCarried}
use Rattle.explain_areas.specs.Cells.{used_cells}
use Rattle.explain_standing.specs.NumberMaps.{number_in}
use Rattle.explain_standing.specs.declared.carried.Carried.{Carried}
use Rattle.explain_areas.specs.declared.cells.LineCell.{LineCell}
use Rattle.explain_areas.specs.declared.parts.LineArea.{LineArea}
use Rattle.explain_standing.specs.Since.{asker, asker_ended}
use Rattle.explain_findings.specs.Left.{bytes_of, left_after, left_in_all, obtained_areas}
use Rattle.explain_findings.specs.Left.{sum_bytes, sum_of, with_area, with_areas, with_cell, with_cells}
use Rattle.explain_findings.specs.declared.left.Left.{Left}
use Rattle.explain_findings.specs.declared.left.LeftTable.{LeftTable}

abbrev pub at_place : List Left → Option ℕ → Option Left
at_place left None = None
at_place left (Some place) = slice_get left place

abbrev pub left_kept : LeftTable → ℕ → Option Left
left_kept t line = at_place t.left.items (number_in t.places line)

-- Each line of which something is left has a place of its own.
pub record IsPlaced (t : LeftTable) : Type 0 where
  pub within :
      (line place : ℕ) → line < 2 ^ 32 → number_in t.places line ≡ Some place → place < length t.left.items
  pub own :
      (line other place : ℕ) → line < 2 ^ 32 → other < 2 ^ 32 → number_in t.places line ≡ Some place →
      number_in t.places other ≡ Some place → line ≡ other

-- Another area, or another cell, is left of its line.
abbrev pub AddsArea : Carried → LineArea → (ℕ → Option Left) → (ℕ → Option Left) → Type 0
AddsArea c a old new =
    (settings : Settings) (xs : List (ℕ × Act)) → IsCarried settings xs c → (line : ℕ) → line < 2 ^ 32 →
    new line
    ≡ (if a.line == line then Some (with_area (asker settings xs line) (asker_ended settings xs line) a (old line))
    else old line)

abbrev pub AddsCell : Carried → LineCell → (ℕ → Option Left) → (ℕ → Option Left) → Type 0
AddsCell c cell old new =
    (settings : Settings) (xs : List (ℕ × Act)) → IsCarried settings xs c → (line : ℕ) → line < 2 ^ 32 →
    new line
    ≡ (if cell.line == line
    then Some (with_cell (asker settings xs line) (asker_ended settings xs line) cell (old line)) else old line)

-- All areas are left of their lines, or all cells; and so are their sums.
abbrev pub AddsAreas : Carried → LeftTable → LeftTable → Type 0
AddsAreas c old new =
    (settings : Settings) (xs : List (ℕ × Act)) → IsCarried settings xs c →
    ((line : ℕ) → line < 2 ^ 32 → left_kept new line
    ≡ with_areas line (asker settings xs line) (asker_ended settings xs line) (obtained_areas settings xs)
    (left_kept old line))
    × (sum_of new.sum ≡ record (sum_of old.sum) {
      areas = length (obtained_areas settings xs);
      bytes = sum_bytes (map bytes_of (obtained_areas settings xs)) old.sum.bytes;
    })

abbrev pub AddsCells : Carried → LeftTable → LeftTable → Type 0
AddsCells c old new =
    (settings : Settings) (xs : List (ℕ × Act)) → IsCarried settings xs c →
    ((line : ℕ) → line < 2 ^ 32 → left_kept new line
    ≡ with_cells line (asker settings xs line) (asker_ended settings xs line) (used_cells settings xs)
    (left_kept old line))
    × (sum_of new.sum ≡ record (sum_of old.sum) {
      cells = length (used_cells settings xs);
      bytes = sum_bytes (map (λ c. c.size) (used_cells settings xs)) old.sum.bytes;
    })

-- These are the lines of statements of which something is left, by any test that says so.
abbrev pub AreLinesLeft : LeftTable → List (TrailEntry Statement) → List ℕ → Type 0
AreLinesLeft t entries lines =
    (test : ℕ → Bool) → ((line : ℕ) → line < 2 ^ 32 → is_some (left_kept t line) ≡ test line) →
    lines ≡ filter test (map (λ e. e.line) entries)

-- All is left that these statements, the newest first, leave.
pub record IsAllLeft (settings : Settings) (xs : List (ℕ × Act)) (t : LeftTable) : Type 0 where
  pub left : (line : ℕ) → line < 2 ^ 32 → left_kept t line ≡ left_after settings xs line
  pub sum : sum_of t.sum ≡ left_in_all settings xs
