-- What is left taken at the end, by the lines that took it: areas, except extents of cell pools, and cells in use.
-- Assembler Services Reference, STORAGE OBTAIN and CPOOL.
use Rattle.std.specs.Prelude.{ℕ, ◌+◌, ◌*◌, min, Bool, true, false, ◌||◌, ◌==◌, if◌then◌else◌}
use Rattle.std.specs.Prelude.{Option, Some, None, is_some, List, [], ◌∷◌, filter, length, map, reverse}
use Rattle.macro_statements.specs.Requests.{Act}
use Rattle.vsm_model.specs.declared.limits.Settings.{Settings}
use Rattle.vsm_model.specs.State.{State}
use Rattle.explain_who.specs.Taken.{taken_by}
use Rattle.explain_who.specs.declared.takers.Taken.{Taken}
use Rattle.explain_who.specs.declared.takers.Taken.TheVariants as taken
use Rattle.explain_areas.specs.Cells.{used_cells}
use Rattle.explain_standing.specs.Since.{asker, asker_ended, machine_after}
use Rattle.explain_areas.specs.Since.{taken_areas}
use Rattle.explain_areas.specs.Areas.{shown_address}
use Rattle.explain_areas.specs.declared.cells.LineCell.{LineCell}
use Rattle.explain_areas.specs.declared.parts.LineArea.{LineArea}
use Rattle.explain_findings.specs.declared.left.Left.{Left}
use Rattle.explain_findings.specs.declared.left.LeftSum.{LeftSum}

-- ---- areas that are no extents

abbrev pub is_of_no_pool : Taken → Bool
is_of_no_pool (taken.Obtained p) = true
is_of_no_pool taken.Unassigned = false
is_of_no_pool taken.Free = false
is_of_no_pool (taken.UsedCell pool) = false
is_of_no_pool (taken.FreeCell pool) = false
is_of_no_pool (taken.PastCells pool) = false

abbrev pub is_obtained : State → LineArea → Bool
is_obtained s a = is_of_no_pool (taken_by a.subpool (shown_address a) s.cell_pools)

abbrev pub obtained_areas : Settings → List (ℕ × Act) → List LineArea
obtained_areas settings xs = filter (is_obtained (machine_after settings xs).storage) (taken_areas settings xs)

-- ---- what is left of one line

-- the most that a number of bytes is
abbrev pub most : ℕ
most = 18446744073709551615

abbrev pub bytes_of : LineArea → ℕ
bytes_of a = 8 * a.count

-- with another area of the line
abbrev pub with_more : LineArea → Left → Left
with_more a l = record l { areas = min (l.areas + 1) most; bytes = min (l.bytes + bytes_of a) most }

-- The first area of the line, which a task asked for, or another one; whether the task has ended.
abbrev pub with_area : ℕ → Bool → LineArea → Option Left → Left
with_area task ended a None =
    record {
      areas = 1;
      bytes = bytes_of a;
      address = shown_address a;
      subpool = a.subpool;
      pool = None;
      task = task;
      ended = ended;
    }
with_area task ended a (Some l) = with_more a l

-- A cell; a line that took areas got none.
abbrev pub with_cell : ℕ → Bool → LineCell → Option Left → Left
with_cell task ended c None =
    record {
      areas = 0;
      bytes = c.size;
      address = c.start;
      subpool = c.subpool;
      pool = Some c.pool;
      task = task;
      ended = ended;
    }
with_cell task ended c (Some l) = l

-- Those of a list that are of the line, one after the other.
abbrev pub with_areas : ℕ → ℕ → Bool → List LineArea → Option Left → Option Left
with_areas line task ended [] l = l
with_areas line task ended (a ∷ areas) l =
    with_areas line task ended areas (if a.line == line then Some (with_area task ended a l) else l)

abbrev pub with_cells : ℕ → ℕ → Bool → List LineCell → Option Left → Option Left
with_cells line task ended [] l = l
with_cells line task ended (c ∷ cells) l =
    with_cells line task ended cells (if c.line == line then Some (with_cell task ended c l) else l)

-- ---- the sum

pub record Sum : Type 0 where
  pub areas : ℕ
  pub cells : ℕ
  pub bytes : ℕ
  pub lines : List ℕ

abbrev pub nothing_left : Sum
nothing_left = record { areas = 0; cells = 0; bytes = 0; lines = [] }

-- the same as the code has it
abbrev pub sum_of : LeftSum → Sum
sum_of sum = record { areas = sum.areas; cells = sum.cells; bytes = sum.bytes; lines = sum.lines.items }

abbrev pub sum_bytes : List ℕ → ℕ → ℕ
sum_bytes [] bytes = bytes
sum_bytes (b ∷ bs) bytes = sum_bytes bs (min (bytes + b) most)

module _ (settings : Settings) (xs : List (ℕ × Act)) where
  -- what these statements, the newest first, leave of a line
  abbrev pub left_after : ℕ → Option Left
  left_after line =
      with_cells line (asker settings xs line) (asker_ended settings xs line) (used_cells settings xs)
      (with_areas line (asker settings xs line) (asker_ended settings xs line) (obtained_areas settings xs) None)

  -- The sum of all areas and cells, and the lines that took them, ascending.
  abbrev pub left_in_all : Sum
  left_in_all =
      record {
        areas = length (obtained_areas settings xs);
        cells = length (used_cells settings xs);
        bytes =
            sum_bytes (map (λ c. c.size) (used_cells settings xs))
            (sum_bytes (map bytes_of (obtained_areas settings xs)) 0);
        lines = filter (λ line. is_some (left_after line)) (reverse (map (λ x. x.0) xs));
      }
