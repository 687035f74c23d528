-- Maps of small machines, line by line, and the answers to the calls before them.
use Rattle.std.specs.Prelude.{◌≡◌, ◌&&◌, ◌==◌, false, if◌then◌else◌, Some, None, List, [], ◌∷◌, ◌++◌, codes}
use Rattle.vsm_model.specs.declared.causes.Family.TheVariants.{S}
use Rattle.vsm_model.specs.declared.services.Location.TheVariants.{Either}
use Rattle.vsm_model.specs.declared.services.Passed.{Passed}
use Rattle.vsm_model.specs.declared.services.Passed.TheVariants.{Nothing, Number}
use Rattle.vsm_model.specs.declared.services.Build.{Build}
use Rattle.vsm_model.specs.State.{State, first_state}
use Rattle.vsm_model.specs.Services.{obtain, attach, build, get}
use Rattle.vsm_model.specs.Standing.{Call, Back, Moved}
use Rattle.vsm_model.specs.Forms.{FormedService}
use Rattle.vsm_model.specs.Map.{storage_map}
use Rattle.worked_examples.specs.Calls.{pages, standard, answers, address, high, asks, asks_with_name, area}
use Rattle.worked_examples.specs.Calls.{storage_obtain, storage_release, conditional_release, release_whole}
use Rattle.worked_examples.specs.Calls.{attach_task, detach_task, run_task, pool_name, get_operands, conditional_get}
use Rattle.worked_examples.specs.Calls.{granted, returned, cell, new_task, turn, user_abend, map_after, lines}

-- The map of three areas, of which two are released.
abbrev pub AMap : Type 0
AMap =
    map_after standard
    (storage_obtain 16 1
    ∷ storage_obtain 16 1
    ∷ storage_obtain 16 1
    ∷ storage_release 16 (address 6 0) 1
    ∷ storage_release 16 (address 6 32) 1
    ∷ [])
    ≡ lines
    (codes " TASK 1 PARENT 0 CURRENT"
    ∷ codes "  R0 00000000 00006020 00000000 00000000 00000000 00000000 00000000 00000000"
    ∷ codes "  R8 00000000 00000000 00000000 00000000 00000000 00000000 00000000 00000000"
    ∷ codes " SUBPOOL 0 OWNER 1 SHARERS NONE"
    ∷ codes " SUBPOOL 1 OWNER 1 SHARERS NONE"
    ∷ codes "  EXTENT 00006000 00001000"
    ∷ codes "  FREE 00006000 00000010"
    ∷ codes "  FREE 00006020 00000FE0"
    ∷ codes " PAGES LOW 1 OF 16 HIGH 0 OF 16"
    ∷ codes " BYTES TAKEN 16 FREE 4080"
    ∷ codes " HISTORY KEPT 5 OF 1024"
    ∷ [])

-- the greatest number of a task, which owns the greatest number of a subpool
abbrev pub the_last : State
the_last =
    record first_state {
      parents = λ task. if task == 64 then Some 1 else None;
      subpools = λ number owner. (number == 127) && (owner == 64);
    }

-- A map goes up to the last task and the last subpool.
abbrev pub AMapOfTheLastNumbers : Type 0
AMapOfTheLastNumbers =
    storage_map (pages 1 1) the_last
    ≡ lines
    (codes " TASK 64 PARENT 1"
    ∷ codes "  R0 00000000 00000000 00000000 00000000 00000000 00000000 00000000 00000000"
    ∷ codes "  R8 00000000 00000000 00000000 00000000 00000000 00000000 00000000 00000000"
    ∷ codes " SUBPOOL 127 OWNER 64 SHARERS NONE"
    ∷ codes " PAGES LOW 0 OF 1 HIGH 0 OF 1"
    ∷ codes " BYTES TAKEN 0 FREE 0"
    ∷ [])

-- a cell pool of subpool 5 above the line
abbrev pub cells_above : Build
cells_above = record { primary = 2; secondary = None; size = 12; number = 5; location = Either }

abbrev pub attach_without_zero : Passed → Call FormedService
attach_without_zero shared = asks S (attach (record { given = Nothing; shared = shared; shares_zero = false }))

-- Three tasks in addition to task 1: two share subpool 5, of which one has a subpool 0 of its own, and the last is
-- given it.
abbrev pub calls_of_all_kinds : List (Call FormedService)
calls_of_all_kinds =
    asks_with_name S (codes "P") (obtain (area 8 5))
    ∷ asks S (build pool_name (Some (codes "a b")) cells_above)
    ∷ attach_task Nothing (Number 5)
    ∷ attach_without_zero (Number 5)
    ∷ attach_task (Number 5) Nothing
    ∷ run_task 3
    ∷ attach_task (Number 5) Nothing
    ∷ storage_obtain 16 0
    ∷ asks_with_name S (codes "Q") (get pool_name (get_operands false))
    ∷ release_whole 5
    ∷ []

-- A task that doesn't own a subpool can't give it to another, nor release it whole; but it can obtain from it, and get
-- cells of its cell pool.
abbrev pub OnlyTheOwnerGivesASubpool : Type 0
OnlyTheOwnerGivesASubpool =
    answers (pages 2 1) calls_of_all_kinds
    ≡ granted (address 6 0) 8
    ∷ granted (address high 0) 24
    ∷ new_task 2
    ∷ new_task 3
    ∷ new_task 4
    ∷ turn 3
    ∷ user_abend 3005
    ∷ granted (address 7 0) 16
    ∷ cell (address high 0)
    ∷ user_abend 3005
    ∷ []

-- A map with lines of each kind: tasks, of which one is current; subpools with sharers, and their extents and free
-- areas on both sides of the line; a cell pool with a header and a free cell; totals, names, and the history, in which
-- eight of the ten calls are kept.
abbrev pub AMapOfAllKindsOfLines : Type 0
AMapOfAllKindsOfLines =
    map_after (pages 2 1) calls_of_all_kinds
    ≡ lines
    (codes " TASK 1 PARENT 0"
    ∷ codes "  R0 00000000 00000004 00000000 00000000 00000000 00000000 00000000 00000000"
    ∷ codes "  R8 00000000 00000000 00000000 00000000 00000000 00000000 00000000 00000000"
    ∷ codes " TASK 2 PARENT 1"
    ∷ codes "  R0 00000000 00000000 00000000 00000000 00000000 00000000 00000000 00000000"
    ∷ codes "  R8 00000000 00000000 00000000 00000000 00000000 00000000 00000000 00000000"
    ∷ codes " TASK 3 PARENT 1 CURRENT"
    ∷ codes "  R0 00000000 08000000 00000000 00000000 00000000 00000000 00000000 00000000"
    ∷ codes "  R8 00000000 00000000 00000000 00000000 00000000 00000000 00000000 00000000"
    ∷ codes " TASK 4 PARENT 1"
    ∷ codes "  R0 00000000 00000000 00000000 00000000 00000000 00000000 00000000 00000000"
    ∷ codes "  R8 00000000 00000000 00000000 00000000 00000000 00000000 00000000 00000000"
    ∷ codes " SUBPOOL 0 OWNER 1 SHARERS 2,4"
    ∷ codes " SUBPOOL 0 OWNER 3 SHARERS NONE"
    ∷ codes "  EXTENT 00007000 00001000"
    ∷ codes "  FREE 00007010 00000FF0"
    ∷ codes " SUBPOOL 5 OWNER 4 SHARERS 2,3"
    ∷ codes "  EXTENT 00006000 00001000"
    ∷ codes "  EXTENT 08000000 00001000"
    ∷ codes "  FREE 00006008 00000FF8"
    ∷ codes "  FREE 08000018 00000FE8"
    ∷ codes " CELLPOOL CP SUBPOOL 5 OWNER 4 SIZE 12 PRIMARY 2 SECONDARY 2 LOC 31 HDR 'a b'"
    ∷ codes "  EXTENT 08000000 00000018"
    ∷ codes "  FREECELL 0800000C"
    ∷ codes " PAGES LOW 2 OF 2 HIGH 1 OF 1"
    ∷ codes " BYTES TAKEN 48 FREE 12240"
    ∷ codes " NAME P 00006000"
    ∷ codes " NAME Q 08000000"
    ∷ codes " HISTORY KEPT 8 OF 1024"
    ∷ [])

abbrev pub calls_past_an_end : List (Call FormedService)
calls_past_an_end =
    calls_of_all_kinds
    ++ run_task 1
    ∷ detach_task 4
    ∷ run_task 3
    ∷ conditional_get
    ∷ storage_release 8 (address 6 0) 5
    ∷ conditional_release 8 (address 6 0) 5
    ∷ storage_obtain 8 5
    ∷ []

-- The end of the owner takes the subpool and its cell pool from the tasks that shared it: one of them gets a new
-- subpool of the number.
abbrev pub AnEndTakesACellPool : Type 0
AnEndTakesACellPool =
    answers (pages 2 1) (calls_past_an_end ++ Back 1 ∷ Back 5 ∷ [])
    ≡ granted (address 6 0) 8
    ∷ granted (address high 0) 24
    ∷ new_task 2
    ∷ new_task 3
    ∷ new_task 4
    ∷ turn 3
    ∷ user_abend 3005
    ∷ granted (address 7 0) 16
    ∷ cell (address high 0)
    ∷ user_abend 3005
    ∷ turn 1
    ∷ returned 0
    ∷ turn 3
    ∷ user_abend 3010
    ∷ user_abend 3003
    ∷ returned 4
    ∷ granted (address 6 0) 8
    ∷ Moved
    ∷ Moved
    ∷ []

-- Steps back over the end of a subpool's owner, and over what was before it, give the map from before all that: the
-- whole cell pool exists again, and the name that a cell was given is gone.
abbrev pub AMapFromBeforeAnEnd : Type 0
AMapFromBeforeAnEnd =
    map_after (pages 2 1) (calls_past_an_end ++ Back 1 ∷ Back 5 ∷ [])
    ≡ lines
    (codes " TASK 1 PARENT 0"
    ∷ codes "  R0 00000000 00000004 00000000 00000000 00000000 00000000 00000000 00000000"
    ∷ codes "  R8 00000000 00000000 00000000 00000000 00000000 00000000 00000000 00000000"
    ∷ codes " TASK 2 PARENT 1"
    ∷ codes "  R0 00000000 00000000 00000000 00000000 00000000 00000000 00000000 00000000"
    ∷ codes "  R8 00000000 00000000 00000000 00000000 00000000 00000000 00000000 00000000"
    ∷ codes " TASK 3 PARENT 1 CURRENT"
    ∷ codes "  R0 00000000 00007000 00000000 00000000 00000000 00000000 00000000 00000000"
    ∷ codes "  R8 00000000 00000000 00000000 00000000 00000000 00000000 00000000 00000000"
    ∷ codes " TASK 4 PARENT 1"
    ∷ codes "  R0 00000000 00000000 00000000 00000000 00000000 00000000 00000000 00000000"
    ∷ codes "  R8 00000000 00000000 00000000 00000000 00000000 00000000 00000000 00000000"
    ∷ codes " SUBPOOL 0 OWNER 1 SHARERS 2,4"
    ∷ codes " SUBPOOL 0 OWNER 3 SHARERS NONE"
    ∷ codes "  EXTENT 00007000 00001000"
    ∷ codes "  FREE 00007010 00000FF0"
    ∷ codes " SUBPOOL 5 OWNER 4 SHARERS 2,3"
    ∷ codes "  EXTENT 00006000 00001000"
    ∷ codes "  EXTENT 08000000 00001000"
    ∷ codes "  FREE 00006008 00000FF8"
    ∷ codes "  FREE 08000018 00000FE8"
    ∷ codes " CELLPOOL CP SUBPOOL 5 OWNER 4 SIZE 12 PRIMARY 2 SECONDARY 2 LOC 31 HDR 'a b'"
    ∷ codes "  EXTENT 08000000 00000018"
    ∷ codes "  FREECELL 08000000"
    ∷ codes "  FREECELL 0800000C"
    ∷ codes " PAGES LOW 2 OF 2 HIGH 1 OF 1"
    ∷ codes " BYTES TAKEN 48 FREE 12240"
    ∷ codes " NAME P 00006000"
    ∷ codes " HISTORY KEPT 7 OF 1024"
    ∷ [])
