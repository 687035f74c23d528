-- Frames and tables for the pages that the plain machine newly assigns.
use Rattle.std.specs.Prelude.{◌≡◌, ℕ, ◌&&◌, not, is_some}
use Rattle.vsm_model.specs.State.{State}
use Rattle.run_set.specs.Runs.{Run, inside}
use Rattle.storage_swap.specs.declared.storage.Parts.{Parts}
use Rattle.storage_core.specs.Planned.{IsSpareFor}

-- the pages of the run are exactly those that are assigned in the second state and not in the first
abbrev pub AreNewlyAssigned : State → State → Run → Type 0
AreNewlyAssigned m n run = (page : ℕ) → inside page run ≡ (not (is_some (m.pages page)) && is_some (n.pages page))

-- between these states each newly assigned page has a spare frame and a table
abbrev pub HasFramesFor : Parts → State → State → Type 0
HasFramesFor p m n = (run : Run) → AreNewlyAssigned m n run → IsSpareFor p 0 run
