-- What is listed, a row each: areas, each extent of a cell pool with its cells in use after it; or cells in use.
use Rattle.std.specs.Prelude.{ℕ, ◌+◌, ◌*◌, ◌/◌, Bool, true, ◌&&◌, ◌==◌, nat_le, nat_lt, if◌then◌else◌}
use Rattle.std.specs.Prelude.{Option, Some, None, is_some, List, [], ◌∷◌, ◌++◌, filter, flat_map, map}
use Rattle.std.specs.Str.{bytes_eq}
use Rattle.arrayvec.specs.ArrayString.{ArrayString}
use Rattle.arrayvec.specs.ArrayVec.{ArrayVec}
use Rattle.macro_statements.specs.Requests.{Act}
use Rattle.vsm_model.specs.declared.limits.Settings.{Settings}
use Rattle.vsm_model.specs.Search.{holds}
use Rattle.vsm_model.specs.State.{State}
use Rattle.explain_standing.specs.Since.{asker, asker_ended, machine_after}
use Rattle.explain_who.specs.Taken.{taken_by}
use Rattle.explain_who.specs.declared.takers.Taken.{Taken}
use Rattle.explain_who.specs.declared.takers.Taken.TheVariants as taken
use Rattle.explain_areas.specs.Areas.{shown_address}
use Rattle.explain_areas.specs.Cells.{used_cells}
use Rattle.explain_areas.specs.Keeps.{TakenPage, pages_kept}
use Rattle.explain_areas.specs.Since.{taken_areas}
use Rattle.explain_areas.specs.declared.asked.Listed.{Listed}
use Rattle.explain_areas.specs.declared.asked.Listed.TheVariants as listed
use Rattle.explain_areas.specs.declared.cells.LineCell.{LineCell}
use Rattle.explain_areas.specs.declared.choices.CellChoice.{CellChoice}
use Rattle.explain_areas.specs.declared.parts.LineArea.{LineArea}
use Rattle.explain_areas.specs.declared.rows.Row.{Row}

-- ---- what is chosen

-- what lines after one took, if that is asked for
abbrev pub is_after : Option ℕ → ℕ → Bool
is_after None line = true
is_after (Some since) line = nat_lt since line

-- areas of the subpool that a task sees at a number, if one is asked for
abbrev pub is_seen : State → Option (ℕ × ℕ) → LineArea → Bool
is_seen s None a = true
is_seen s (Some seen) a =
    (a.subpool.number == seen.1) && holds (λ owner. owner == a.subpool.owner) (s.sight seen.0 seen.1)

-- cells of a cell pool, if one is asked for
abbrev pub is_named : Option ArrayString → LineCell → Bool
is_named None c = true
is_named (Some name) c = bytes_eq c.pool.items name.bytes

-- cells whose first byte lies in an area, if one is given
abbrev pub has_cell : LineArea → LineCell → Bool
has_cell a c = nat_le a.start (c.start / 8) && nat_lt (c.start / 8) (a.start + a.count)

abbrev pub is_within : Option LineArea → LineCell → Bool
is_within None c = true
is_within (Some a) c = has_cell a c

abbrev pub is_chosen : CellChoice → LineCell → Bool
is_chosen choice c = is_after choice.since c.line && (is_named choice.pool c && is_within choice.area c)

-- ---- areas

abbrev pub pool_in : Taken → Option (ArrayVec ℕ)
pool_in (taken.UsedCell name) = Some name
pool_in (taken.FreeCell name) = Some name
pool_in (taken.PastCells name) = Some name
pool_in taken.Unassigned = None
pool_in taken.Free = None
pool_in (taken.Obtained p) = None

-- the cell pool of which an area is an extent, if it's one: the first that has its first byte
abbrev pub pool_of : State → LineArea → Option (ArrayVec ℕ)
pool_of s a = pool_in (taken_by a.subpool (shown_address a) s.cell_pools)

-- ---- after these statements, the newest first

module _ (settings : Settings) (xs : List (ℕ × Act)) where
  abbrev pub area_row : LineArea → Row
  area_row a =
      record {
        line = a.line;
        bytes = 8 * a.count;
        address = shown_address a;
        subpool = a.subpool;
        cell_of = None;
        extent_of = pool_of (machine_after settings xs).storage a;
        asked_by = asker settings xs a.line;
        ended = asker_ended settings xs a.line;
      }

  abbrev pub cell_row : LineCell → Row
  cell_row c =
      record {
        line = c.line;
        bytes = c.size;
        address = c.start;
        subpool = c.subpool;
        cell_of = Some c.pool;
        extent_of = None;
        asked_by = asker settings xs c.line;
        ended = asker_ended settings xs c.line;
      }

  abbrev pub cell_rows : CellChoice → List Row
  cell_rows choice = map cell_row (filter (is_chosen choice) (used_cells settings xs))

  -- An area, and its cells in use if it's an extent; of both only what is asked for.
  abbrev pub area_rows : Option ℕ → LineArea → List Row
  area_rows since a =
      (if is_after since a.line then area_row a ∷ [] else [])
      ++ (if is_some (pool_of (machine_after settings xs).storage a)
      then cell_rows (record { since = since; pool = None; area = Some a }) else [])

  -- all areas, or those of a subpool
  abbrev pub areas_listed : Option (ℕ × ℕ) → List LineArea
  areas_listed subpool = filter (is_seen (machine_after settings xs).storage subpool) (taken_areas settings xs)

  abbrev pub rows_listed : Option ℕ → Listed → List Row
  rows_listed since (listed.Areas subpool keeps) = flat_map (area_rows since) (areas_listed subpool)
  rows_listed since (listed.Cells pool) = cell_rows (record { since = since; pool = pool; area = None })

  -- pages that few bytes keep, if they are asked for
  abbrev pub pages_listed : Listed → List TakenPage
  pages_listed (listed.Areas subpool keeps) = if keeps then pages_kept (areas_listed subpool) else []
  pages_listed (listed.Cells pool) = []
