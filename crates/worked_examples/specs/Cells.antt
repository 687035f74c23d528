-- Cell pools and their cells.
use Rattle.std.specs.Prelude.{◌≡◌, false, Some, None, List, [], ◌∷◌, ◌++◌, codes}
use Rattle.vsm_model.specs.declared.causes.Family.TheVariants.{S}
use Rattle.vsm_model.specs.declared.services.Passed.TheVariants.{Nothing, Number}
use Rattle.vsm_model.specs.declared.services.Build.{Build}
use Rattle.vsm_model.specs.Services.{build, get}
use Rattle.vsm_model.specs.Standing.{Call, Back, Moved}
use Rattle.vsm_model.specs.Forms.{FormedService}
use Rattle.worked_examples.specs.Calls.{pages, standard, answers, address, asks, asks_with_name, storage_release}
use Rattle.worked_examples.specs.Calls.{release_whole, attach_task, run_task, pool_name, build_cells, cells}
use Rattle.worked_examples.specs.Calls.{get_operands, get_cell, conditional_get, free_cell, delete_cells, granted}
use Rattle.worked_examples.specs.Calls.{returned, cell, new_task, turn, system_abend, user_abend, name_after, map_after}
use Rattle.worked_examples.specs.Calls.{lines}

abbrev pub new_cells : Build
new_cells = record (cells 2 16 3) { secondary = Some 1 }

abbrev pub calls_on_cells : List (Call FormedService)
calls_on_cells =
    build_cells new_cells
    ∷ get_cell
    ∷ get_cell
    ∷ get_cell
    ∷ conditional_get
    ∷ free_cell (address 6 16)
    ∷ free_cell (address 6 0)
    ∷ conditional_get
    ∷ free_cell (address 6 16)
    ∷ []

-- Cells are handed out in order, the one freed last first; an unconditional GET adds an extent, which can't be released
-- by itself.
abbrev pub CellsOfACellPool : Type 0
CellsOfACellPool =
    answers standard
    (calls_on_cells
    ++ storage_release 8 (address 6 32) 3
    ∷ asks S (build (codes "CQ") None (cells 1 6 0))
    ∷ build_cells (cells 1 8 0)
    ∷ delete_cells
    ∷ conditional_get
    ∷ [])
    ≡ granted (address 6 0) 32
    ∷ cell (address 6 0)
    ∷ cell (address 6 16)
    ∷ cell (address 6 32)
    ∷ returned 4
    ∷ returned 0
    ∷ returned 0
    ∷ cell (address 6 0)
    ∷ user_abend 3011
    ∷ user_abend 3006
    ∷ user_abend 3012
    ∷ user_abend 3009
    ∷ returned 0
    ∷ user_abend 3010
    ∷ []

abbrev pub calls_with_a_given_pool : List (Call FormedService)
calls_with_a_given_pool =
    build_cells (cells 1 8 5)
    ∷ attach_task (Number 5) Nothing
    ∷ get_cell
    ∷ run_task 2
    ∷ get_cell
    ∷ asks_with_name S (codes "Q") (get pool_name (get_operands false))
    ∷ release_whole 5
    ∷ conditional_get
    ∷ Back 1
    ∷ conditional_get
    ∷ []

-- A cell pool follows its subpool to a new owner, and is gone after a whole release; a step back restores it.
abbrev pub ACellPoolFollowsItsSubpool : Type 0
ACellPoolFollowsItsSubpool =
    (answers standard (calls_with_a_given_pool ++ free_cell (address 6 8) ∷ conditional_get ∷ [])
    ≡ granted (address 6 0) 8
    ∷ new_task 2
    ∷ user_abend 3010
    ∷ turn 2
    ∷ cell (address 6 0)
    ∷ cell (address 6 8)
    ∷ returned 0
    ∷ user_abend 3010
    ∷ Moved
    ∷ returned 4
    ∷ returned 0
    ∷ cell (address 6 8)
    ∷ [])
    × (name_after standard calls_with_a_given_pool (codes "Q") ≡ Some (address 6 8))

-- Without a place for a further extent an unconditional GET has the code for a lack of storage; either form can get a
-- cell that is freed.
abbrev pub NoPlaceForAFurtherExtent : Type 0
NoPlaceForAFurtherExtent =
    answers (pages 1 1)
    (build_cells (cells 1 4096 0)
    ∷ get_cell
    ∷ get_cell
    ∷ conditional_get
    ∷ free_cell (address 6 0)
    ∷ conditional_get
    ∷ free_cell (address 6 0)
    ∷ get_cell
    ∷ [])
    ≡ granted (address 6 0) 4096
    ∷ cell (address 6 0)
    ∷ system_abend 0x878
    ∷ returned 4
    ∷ returned 0
    ∷ cell (address 6 0)
    ∷ returned 0
    ∷ cell (address 6 0)
    ∷ []

-- The map of a cell pool of which two cells are in use.
abbrev pub ACellPoolInAMap : Type 0
ACellPoolInAMap =
    map_after standard calls_on_cells
    ≡ lines
    (codes " TASK 1 PARENT 0 CURRENT"
    ∷ codes "  R0 00000000 00006000 00000000 00000000 00000000 00000000 00000000 00000000"
    ∷ codes "  R8 00000000 00000000 00000000 00000000 00000000 00000000 00000000 00000000"
    ∷ codes " SUBPOOL 0 OWNER 1 SHARERS NONE"
    ∷ codes " SUBPOOL 3 OWNER 1 SHARERS NONE"
    ∷ codes "  EXTENT 00006000 00001000"
    ∷ codes "  FREE 00006030 00000FD0"
    ∷ codes " CELLPOOL CP SUBPOOL 3 OWNER 1 SIZE 16 PRIMARY 2 SECONDARY 1 LOC 24"
    ∷ codes "  EXTENT 00006000 00000020"
    ∷ codes "  EXTENT 00006020 00000010"
    ∷ codes "  FREECELL 00006010"
    ∷ codes " PAGES LOW 1 OF 16 HIGH 0 OF 16"
    ∷ codes " BYTES TAKEN 48 FREE 4048"
    ∷ codes " HISTORY KEPT 8 OF 1024"
    ∷ [])
