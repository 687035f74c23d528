-- Tasks, and the subpools that they give and share.
use Rattle.std.specs.Prelude.{◌≡◌, true, Some, None, List, [], ◌∷◌, ◌++◌, map, flat_map, codes, replicate}
use Rattle.vsm_model.specs.declared.causes.Family.TheVariants.{S}
use Rattle.vsm_model.specs.declared.replies.Reply.TheVariants.{Stored}
use Rattle.vsm_model.specs.declared.services.Location.TheVariants.{Either}
use Rattle.vsm_model.specs.declared.services.Passed.TheVariants.{Nothing, Number, Listed}
use Rattle.vsm_model.specs.Services.{obtain}
use Rattle.vsm_model.specs.Bytes.{fullword}
use Rattle.vsm_model.specs.Standing.{Call, Back, Replied, Moved}
use Rattle.vsm_model.specs.Forms.{FormedService}
use Rattle.vsm_model.specs.Map.{numbers}
use Rattle.worked_examples.specs.Calls.{pages, standard, answers, after, address, high, asks, asks_with_name, area}
use Rattle.worked_examples.specs.Calls.{storage_obtain, storage_release, poke, attach_task, detach_task, end_of_task}
use Rattle.worked_examples.specs.Calls.{run_task, granted, returned, new_task, turn, system_abend, user_abend, peeked}
use Rattle.worked_examples.specs.Calls.{owner_after, register_after}

abbrev pub calls_up_to_the_end : List (Call FormedService)
calls_up_to_the_end =
    asks_with_name S (codes "P") (obtain (area 8 5))
    ∷ poke (address 6 0) (0x55 ∷ [])
    ∷ storage_obtain 8 6
    ∷ attach_task (Number 5) (Number 6)
    ∷ storage_obtain 8 5
    ∷ run_task 2
    ∷ storage_obtain 8 6
    ∷ storage_obtain 8 5
    ∷ []

abbrev pub calls_with_the_end : List (Call FormedService)
calls_with_the_end = calls_up_to_the_end ++ end_of_task ∷ []

-- A subpool that is given goes with its pages, and is gone when its new owner ends; one that is shared stays. The next
-- task of the number has zero registers.
abbrev pub GiftsAndShares : Type 0
GiftsAndShares =
    (answers standard calls_with_the_end
    ≡ granted (address 6 0) 8
    ∷ Replied Stored
    ∷ granted (address 7 0) 8
    ∷ new_task 2
    ∷ granted (address 8 0) 8
    ∷ turn 2
    ∷ granted (address 7 8) 8
    ∷ granted (address 6 8) 8
    ∷ turn 1
    ∷ [])
    × (peeked standard calls_with_the_end (address 6 0) 1 ≡ None)
    × (peeked standard calls_with_the_end (address 7 8) 1 ≡ Some (0 ∷ []))
    × (peeked standard (calls_with_the_end ++ Back 1 ∷ []) (address 6 0) 1 ≡ Some (0x55 ∷ []))
    × (register_after standard (calls_with_the_end ++ attach_task Nothing Nothing ∷ run_task 2 ∷ []) 1 ≡ 0)

-- The sharers of a subpool that is given see it as before.
abbrev pub ASharerSeesAGift : Type 0
ASharerSeesAGift =
    answers standard
    (storage_obtain 8 5
    ∷ attach_task Nothing (Number 5)
    ∷ attach_task (Number 5) Nothing
    ∷ run_task 2
    ∷ storage_obtain 8 5
    ∷ run_task 1
    ∷ storage_obtain 8 5
    ∷ detach_task 3
    ∷ run_task 2
    ∷ storage_release 8 (address 6 0) 5
    ∷ Back 2
    ∷ run_task 2
    ∷ storage_release 8 (address 6 0) 5
    ∷ [])
    ≡ granted (address 6 0) 8
    ∷ new_task 2
    ∷ new_task 3
    ∷ turn 2
    ∷ granted (address 6 8) 8
    ∷ turn 1
    ∷ granted (address 7 0) 8
    ∷ returned 0
    ∷ turn 2
    ∷ user_abend 3003
    ∷ Moved
    ∷ turn 2
    ∷ returned 0
    ∷ []

-- A task passes on a subpool that it was given, and then sees a new one at the number. The end of the last owner frees
-- its pages in both regions; those of the task between go with it.
abbrev pub AGiftIsHandedOn : Type 0
AGiftIsHandedOn =
    answers (pages 2 1)
    (attach_task (Number 3) Nothing
    ∷ run_task 2
    ∷ attach_task (Number 3) Nothing
    ∷ run_task 3
    ∷ storage_obtain 8 3
    ∷ asks S (obtain (record (area 8 3) { location = Either }))
    ∷ run_task 2
    ∷ storage_obtain 8 3
    ∷ detach_task 3
    ∷ run_task 1
    ∷ storage_obtain 8 3
    ∷ detach_task 2
    ∷ storage_obtain 8 2
    ∷ [])
    ≡ new_task 2
    ∷ turn 2
    ∷ new_task 3
    ∷ turn 3
    ∷ granted (address 6 0) 8
    ∷ granted (address high 0) 8
    ∷ turn 2
    ∷ granted (address 7 0) 8
    ∷ returned 0
    ∷ turn 1
    ∷ granted (address 6 0) 8
    ∷ returned 0
    ∷ granted (address 7 0) 8
    ∷ []

abbrev pub calls_with_a_list : List (Call FormedService)
calls_with_a_list =
    asks_with_name S (codes "P") (obtain (area 8 0))
    ∷ poke (address 6 0) (2 ∷ 5 ∷ 6 ∷ [])
    ∷ attach_task (Listed (address 6 0)) Nothing
    ∷ poke (address 6 1) (5 ∷ 5 ∷ [])
    ∷ attach_task (Listed (address 6 0)) Nothing
    ∷ poke (address 6 4) (fullword (address 6 0))
    ∷ []

-- A list in storage names the subpools that are given: a count, and that many numbers, none of them twice.
abbrev pub AListInStorage : Type 0
AListInStorage =
    (answers standard calls_with_a_list
    ≡ granted (address 6 0) 8 ∷ Replied Stored ∷ new_task 2 ∷ Replied Stored ∷ user_abend 3014 ∷ Replied Stored ∷ [])
    × (peeked standard calls_with_a_list (address 6 0) 8 ≡ Some (2 ∷ 5 ∷ 5 ∷ 0 ∷ 0 ∷ 0 ∷ 0x60 ∷ 0 ∷ []))
    × ((after standard calls_with_a_list).storage.subpools 5 2 ≡ true)
    × (owner_after standard calls_with_a_list 2 6 ≡ Some 2)
    × (owner_after standard calls_with_a_list 1 6 ≡ None)

abbrev pub calls_at_the_last_bytes : List (Call FormedService)
calls_at_the_last_bytes =
    storage_obtain 4096 0
    ∷ poke (address 6 4094) (1 ∷ 9 ∷ [])
    ∷ attach_task (Listed (address 6 4094)) Nothing
    ∷ poke (address 6 4094) (2 ∷ 9 ∷ [])
    ∷ attach_task (Listed (address 6 4094)) Nothing
    ∷ attach_task Nothing (Listed (address 6 4094))
    ∷ poke (address 6 4095) (0 ∷ [])
    ∷ attach_task (Listed (address 6 4095)) (Listed (address 6 4095))
    ∷ attach_task (Listed 0xffffffff) Nothing
    ∷ []

-- A list may end with the last assigned byte and no further; a list of no numbers is one of one byte. The numbers that
-- are given or shared are from 1 to 127, and all different.
abbrev pub ListsAtTheLastBytes : Type 0
ListsAtTheLastBytes =
    (answers (pages 1 1) calls_at_the_last_bytes
    ≡ granted (address 6 0) 4096
    ∷ Replied Stored
    ∷ new_task 2
    ∷ Replied Stored
    ∷ system_abend 0x0c4
    ∷ system_abend 0x0c4
    ∷ Replied Stored
    ∷ new_task 3
    ∷ system_abend 0x0c4
    ∷ [])
    × (owner_after (pages 1 1) calls_at_the_last_bytes 2 9 ≡ Some 2)
    × (answers (pages 1 1)
    (attach_task (Number 0) Nothing
    ∷ attach_task (Number 131) Nothing
    ∷ attach_task (Number 128) Nothing
    ∷ attach_task (Number 5) (Number 5)
    ∷ [])
    ≡ replicate 4 (user_abend 3014))

-- Tasks begin and end below their parents.
abbrev pub TasksBeginAndEnd : Type 0
TasksBeginAndEnd =
    answers standard
    (attach_task Nothing Nothing
    ∷ run_task 2
    ∷ attach_task Nothing Nothing
    ∷ end_of_task
    ∷ run_task 3
    ∷ detach_task 2
    ∷ run_task 1
    ∷ detach_task 3
    ∷ attach_task (Listed 0x9000) Nothing
    ∷ detach_task 2
    ∷ run_task 3
    ∷ end_of_task
    ∷ [])
    ≡ new_task 2
    ∷ turn 2
    ∷ new_task 3
    ∷ system_abend 0xa03
    ∷ turn 3
    ∷ user_abend 3008
    ∷ turn 1
    ∷ user_abend 3008
    ∷ system_abend 0x0c4
    ∷ returned 0
    ∷ user_abend 3008
    ∷ user_abend 3008
    ∷ []

-- Tasks that can't end a task: one that isn't its parent, and one with a subtask, task 1 among them.
abbrev pub WhoCanNotEndATask : Type 0
WhoCanNotEndATask =
    answers (pages 1 1)
    (end_of_task
    ∷ attach_task Nothing Nothing
    ∷ end_of_task
    ∷ detach_task 1
    ∷ detach_task 0
    ∷ detach_task 65
    ∷ run_task 2
    ∷ detach_task 2
    ∷ attach_task Nothing Nothing
    ∷ run_task 1
    ∷ detach_task 3
    ∷ detach_task 2
    ∷ run_task 3
    ∷ [])
    ≡ user_abend 3008
    ∷ new_task 2
    ∷ system_abend 0xa03
    ∷ user_abend 3008
    ∷ user_abend 3008
    ∷ user_abend 3008
    ∷ turn 2
    ∷ user_abend 3008
    ∷ new_task 3
    ∷ turn 1
    ∷ user_abend 3008
    ∷ returned 0
    ∷ user_abend 3008
    ∷ []

-- There are at most 64 tasks.
abbrev pub AtMost64Tasks : Type 0
AtMost64Tasks =
    answers (pages 1 1) (replicate 64 (attach_task Nothing Nothing))
    ≡ map new_task (numbers 2 65) ++ user_abend 3013 ∷ []

-- Each of 63 new tasks is the subtask of the one before it. The last one can't attach another, and the one before it
-- can't end; the end of task 2 ends them all, and the next new task has its number.
abbrev pub SixtyFourTasksInARow : Type 0
SixtyFourTasksInARow =
    answers (pages 1 1)
    (flat_map (λ task. attach_task Nothing Nothing ∷ run_task task ∷ []) (numbers 2 65)
    ++ attach_task Nothing Nothing
    ∷ run_task 63
    ∷ end_of_task
    ∷ run_task 64
    ∷ end_of_task
    ∷ run_task 1
    ∷ detach_task 3
    ∷ detach_task 2
    ∷ run_task 63
    ∷ attach_task Nothing Nothing
    ∷ [])
    ≡ flat_map (λ task. new_task task ∷ turn task ∷ []) (numbers 2 65)
    ++ user_abend 3013
    ∷ turn 63
    ∷ system_abend 0xa03
    ∷ turn 64
    ∷ turn 63
    ∷ turn 1
    ∷ user_abend 3008
    ∷ returned 0
    ∷ user_abend 3008
    ∷ new_task 2
    ∷ []
