-- A fullword that is at home in a cell: the cell is in use.
use Rattle.std.proofs.Common.{◌≡◌, ◌*◌, ◌/◌, ℕ, Bool, true, false, if◌then◌else◌, Option, Some, None, List, [], ◌∷◌, refl, ap}
use Rattle.std.proofs.lemmas.Bool.{or_left, or_right}
use Rattle.std.specs.List.{list_any}
use Rattle.std.specs.Option.{option_map}
use Rattle.std.specs.Prelude.{unwrap_or}
use Rattle.vsm_model.specs.declared.Subpool.{Subpool}
use Rattle.vsm_model.specs.Areas.{is_free}
use Rattle.vsm_model.specs.CellPools.{CellExtent, CellPool, CellPools}
use Rattle.vsm_model.specs.Cells.{is_in_use}
use Rattle.vsm_model.specs.State.{State}
use Rattle.explain_who.specs.Taken.{cell_at, cell_with, extent_with, taken_by, taken_cell}
use Rattle.explain_who.specs.declared.takers.Taken.TheVariants as taken
use Rattle.explain_standing.specs.Since.{is_cell_in_use}
use Rattle.explain_findings.specs.Homes.{home_at, home_by, home_on}
use Rattle.explain_findings.specs.Stores.{line_at_home}
use Rattle.explain_findings.specs.declared.homes.Home.{Home}
use Rattle.explain_findings.specs.declared.homes.Home.TheVariants as home

-- the cell in which something is, if it's in one, is in use
abbrev IsUsed : State → Home → Type 0
IsUsed s home.Unassigned = Unit {0}
IsUsed s (home.Free p) = Unit {0}
IsUsed s (home.Area p line) = Unit {0}
IsUsed s (home.Cell name start) = is_cell_in_use s start ≡ true
IsUsed s (home.FreeCell name) = Unit {0}
IsUsed s (home.PastCells name) = Unit {0}

module _ (s : State) (p : Subpool) (line : Option ℕ) (address : ℕ) where
  -- of some cell pools
  abbrev in_use : CellPools → ℕ → Bool
  in_use rows cell = list_any (λ row. is_in_use row.1 cell) rows

  if_used : (name : List ℕ) (pool : CellPool) (cell : ℕ) → (is_in_use pool cell ≡ true → is_cell_in_use s cell ≡ true) → (b : Bool) → is_in_use pool cell ≡ b →
      IsUsed s (home_by p line (Some cell) (if b then taken.UsedCell (record { items = name }) else taken.FreeCell (record { items = name })))
  if_used name pool cell up true is = up is
  if_used name pool cell up false is = tt

  of_cell : (name : List ℕ) (pool : CellPool) → ((cell : ℕ) → is_in_use pool cell ≡ true → is_cell_in_use s cell ≡ true) → (cell : Option ℕ) →
      IsUsed s (home_by p line cell (taken_cell name pool cell))
  of_cell name pool up None = tt
  of_cell name pool up (Some cell) = if_used name pool cell (up cell) (is_in_use pool cell) refl

  of_rows : (rows : CellPools) → ((cell : ℕ) → in_use rows cell ≡ true → is_cell_in_use s cell ≡ true) → IsUsed s (home_by p line (cell_at address rows) (taken_by p address rows))
  of_rows [] up = tt
  of_rows (row ∷ rows) up = go (extent_with row.1.size address row.1.extents) (of_rows rows (λ cell e. up cell (or_right (is_in_use row.1 cell) (in_use rows cell) e))) where
    go : (x : Option CellExtent) → IsUsed s (home_by p line (cell_at address rows) (taken_by p address rows)) →
        IsUsed s (home_by p line (unwrap_or (option_map (cell_with row.1.size address) x) (cell_at address rows))
        (unwrap_or (option_map (λ x. taken_cell row.0 row.1 (cell_with row.1.size address x)) x) (taken_by p address rows)))
    go None rest = rest
    go (Some x) rest = of_cell row.0 row.1 (λ cell e. up cell (or_left (is_in_use row.1 cell) (in_use rows cell) e)) (cell_with row.1.size address x)

  unless_free : (b : Bool) → IsUsed s (if b then home.Free p else home_by p line (cell_at address s.cell_pools) (taken_by p address s.cell_pools))
  unless_free true = tt
  unless_free false = of_rows s.cell_pools (λ cell e. e)

module _ (s : State) (lines : ℕ → Option ℕ) (word : ℕ) where
  on_page : (o : Option Subpool) → IsUsed s (home_on s lines word o)
  on_page None = tt
  on_page (Some p) = unless_free s p (lines (word / 2)) (4 * word) (is_free s p (word / 2))

  -- so the line that took what a fullword is in is that of tables that agree on cells in use
  pub same_line : (f g : ℕ → Option ℕ) → ((cell : ℕ) → is_cell_in_use s cell ≡ true → f cell ≡ g cell) →
      line_at_home f (home_at s lines word) ≡ line_at_home g (home_at s lines word)
  same_line f g same = go (home_at s lines word) (on_page (s.pages (word / 1024))) where
    go : (h : Home) → IsUsed s h → line_at_home f h ≡ line_at_home g h
    go home.Unassigned used = refl
    go (home.Free q) used = refl
    go (home.Area q line) used = refl
    go (home.Cell name start) used = ap (λ o. Some (unwrap_or o 0)) (same start used)
    go (home.FreeCell name) used = refl
    go (home.PastCells name) used = refl
