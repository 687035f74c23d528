-- Where a fullword is at home: in an area, which the statement of one line took, or in a cell in use.
-- Assembler Services Reference, STORAGE OBTAIN and CPOOL.
use Rattle.std.specs.Prelude.{ℕ, ◌*◌, ◌/◌, Bool, false, ◌&&◌, ◌==◌, if◌then◌else◌, Option, Some, None, unwrap_or, List}
use Rattle.macro_statements.specs.Requests.{Act}
use Rattle.vsm_model.specs.declared.Subpool.{Subpool}
use Rattle.vsm_model.specs.declared.limits.Settings.{Settings}
use Rattle.vsm_model.specs.Areas.{is_free}
use Rattle.vsm_model.specs.State.{State}
use Rattle.explain_standing.specs.Since.{acts, storage_after, taken_since}
use Rattle.explain_who.specs.Taken.{cell_at, taken_by}
use Rattle.explain_who.specs.declared.takers.Taken.{Taken}
use Rattle.explain_who.specs.declared.takers.Taken.TheVariants as taken
use Rattle.explain_findings.specs.declared.homes.Home.{Home}
use Rattle.explain_findings.specs.declared.homes.Home.TheVariants as home

-- by how it's taken: the line that took its doubleword, and the cell in which it lies
abbrev pub home_by : Subpool → Option ℕ → Option ℕ → Taken → Home
home_by p line cell taken.Unassigned = home.Unassigned
home_by p line cell taken.Free = home.Free p
home_by p line cell (taken.Obtained q) = home.Area q (unwrap_or line 0)
home_by p line cell (taken.UsedCell name) = home.Cell name (unwrap_or cell 0)
home_by p line cell (taken.FreeCell name) = home.FreeCell name
home_by p line cell (taken.PastCells name) = home.PastCells name

-- in a page of this subpool; `lines` says which line took a doubleword
abbrev pub home_on : State → (ℕ → Option ℕ) → ℕ → Option Subpool → Home
home_on s lines word None = home.Unassigned
home_on s lines word (Some p) =
    if is_free s p (word / 2) then home.Free p
    else home_by p (lines (word / 2)) (cell_at (4 * word) s.cell_pools) (taken_by p (4 * word) s.cell_pools)

abbrev pub home_at : State → (ℕ → Option ℕ) → ℕ → Home
home_at s lines word = home_on s lines word (s.pages (word / 1024))

-- both are in the same area, or in the same cell in use
abbrev pub same_home : Home → Home → Bool
same_home (home.Area p l) (home.Area q m) = (p.number == q.number) && (p.owner == q.owner) && (l == m)
same_home (home.Cell a s) (home.Cell b t) = s == t
same_home _ _ = false

-- after these statements, the newest first
abbrev pub home_after : Settings → List (ℕ × Act) → ℕ → Home
home_after settings xs = home_at (storage_after settings (acts xs)) (taken_since settings xs)
