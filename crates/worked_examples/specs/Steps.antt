-- Steps back and forward, and the history that they move along. Each answer is followed by the numbers of changes that
-- are then kept and undone.
use Rattle.std.specs.Prelude.{◌≡◌, Some, None, List, [], ◌∷◌, ◌++◌}
use Rattle.vsm_model.specs.declared.replies.Reply.TheVariants.{Stored}
use Rattle.vsm_model.specs.declared.services.Passed.TheVariants.{Nothing, Number}
use Rattle.vsm_model.specs.Standing.{Call, Back, Forward, Replied, Moved, TooFar}
use Rattle.vsm_model.specs.Names.{first_named_state}
use Rattle.vsm_model.specs.Forms.{FormedService}
use Rattle.worked_examples.specs.Calls.{pages, standard, with_history, counted_answers, answers, bench_after, after}
use Rattle.worked_examples.specs.Calls.{address, storage_obtain, conditional_obtain, storage_release, release_whole}
use Rattle.worked_examples.specs.Calls.{poke, attach_task, end_of_task, run_task, granted, returned, new_task, turn}
use Rattle.worked_examples.specs.Calls.{user_abend, peeked, register_after}

-- The last of three releases empties the page; a step back takes that release back, and the next area is the first free
-- one.
abbrev pub ThreeAreasReleasedAndOneStepBack : Type 0
ThreeAreasReleasedAndOneStepBack =
    counted_answers standard
    (storage_obtain 16 1
    ∷ storage_obtain 16 1
    ∷ storage_obtain 16 1
    ∷ storage_release 16 (address 6 0) 1
    ∷ storage_release 16 (address 6 32) 1
    ∷ storage_release 16 (address 6 16) 1
    ∷ Back 1
    ∷ storage_obtain 16 1
    ∷ [])
    ≡ (granted (address 6 0) 16, (1, 0))
    ∷ (granted (address 6 16) 16, (2, 0))
    ∷ (granted (address 6 32) 16, (3, 0))
    ∷ (returned 0, (4, 0))
    ∷ (returned 0, (5, 0))
    ∷ (returned 0, (6, 0))
    ∷ (Moved, (5, 1))
    ∷ (granted (address 6 0) 16, (6, 0))
    ∷ []

abbrev pub three_areas : List (Call FormedService)
three_areas = storage_obtain 8 1 ∷ storage_obtain 8 1 ∷ storage_obtain 8 1 ∷ []

-- A refused statement isn't kept, and a step back past what is kept undoes nothing.
abbrev pub ARefusedStatementIsNotKept : Type 0
ARefusedStatementIsNotKept =
    counted_answers standard
    (three_areas ++ storage_release 0 (address 6 0) 1 ∷ Back 9 ∷ Back 1 ∷ storage_obtain 8 1 ∷ [])
    ≡ (granted (address 6 0) 8, (1, 0))
    ∷ (granted (address 6 8) 8, (2, 0))
    ∷ (granted (address 6 16) 8, (3, 0))
    ∷ (user_abend 3001, (3, 0))
    ∷ (TooFar 3, (3, 0))
    ∷ (Moved, (2, 1))
    ∷ (granted (address 6 16) 8, (3, 0))
    ∷ []

-- What was undone can be redone until another statement is accepted.
abbrev pub ForwardUntilANewStatement : Type 0
ForwardUntilANewStatement =
    counted_answers standard (three_areas ++ Back 2 ∷ Forward 2 ∷ Back 2 ∷ storage_obtain 24 1 ∷ Forward 1 ∷ [])
    ≡ (granted (address 6 0) 8, (1, 0))
    ∷ (granted (address 6 8) 8, (2, 0))
    ∷ (granted (address 6 16) 8, (3, 0))
    ∷ (Moved, (1, 2))
    ∷ (Moved, (3, 0))
    ∷ (Moved, (1, 2))
    ∷ (granted (address 6 8) 24, (2, 0))
    ∷ (TooFar 0, (2, 0))
    ∷ []

-- A step forward over the same number of statements gives the bench from before the step back.
abbrev pub ForwardGivesTheBenchBack : Type 0
ForwardGivesTheBenchBack =
    bench_after standard (three_areas ++ Back 2 ∷ Forward 2 ∷ []) ≡ bench_after standard three_areas

-- A history of two changes forgets the oldest of three.
abbrev pub TheOldestChangeIsForgotten : Type 0
TheOldestChangeIsForgotten =
    counted_answers (with_history 2)
    (three_areas ++ Back 3 ∷ Back 2 ∷ storage_obtain 8 1 ∷ Back 1 ∷ Back 1 ∷ Forward 1 ∷ Forward 1 ∷ [])
    ≡ (granted (address 6 0) 8, (1, 0))
    ∷ (granted (address 6 8) 8, (2, 0))
    ∷ (granted (address 6 16) 8, (2, 0))
    ∷ (TooFar 2, (2, 0))
    ∷ (Moved, (0, 2))
    ∷ (granted (address 6 8) 8, (1, 0))
    ∷ (Moved, (0, 1))
    ∷ (TooFar 0, (0, 1))
    ∷ (Moved, (1, 0))
    ∷ (TooFar 0, (1, 0))
    ∷ []

-- A history of one change takes one step back. An answer 4 is a change like any other: what was undone is then gone. A
-- step over none is always made.
abbrev pub AHistoryOfOneChange : Type 0
AHistoryOfOneChange =
    counted_answers (with_history 1)
    (storage_obtain 8 1
    ∷ storage_obtain 8 1
    ∷ Back 2
    ∷ Back 1
    ∷ Forward 1
    ∷ Back 1
    ∷ conditional_obtain 0x7fffffff 0
    ∷ Forward 1
    ∷ Back 0
    ∷ [])
    ≡ (granted (address 6 0) 8, (1, 0))
    ∷ (granted (address 6 8) 8, (1, 0))
    ∷ (TooFar 1, (1, 0))
    ∷ (Moved, (0, 1))
    ∷ (Moved, (1, 0))
    ∷ (Moved, (0, 1))
    ∷ (returned 4, (1, 0))
    ∷ (TooFar 0, (1, 0))
    ∷ (Moved, (1, 0))
    ∷ []

abbrev pub calls_that_fill_the_region : List (Call FormedService)
calls_that_fill_the_region = storage_obtain 65536 0 ∷ conditional_obtain 8 0 ∷ []

-- An answer 4 is kept, and sets only register 15; a step back undoes that, and the next area sets it to 0.
abbrev pub AnAnswerOf4IsKept : Type 0
AnAnswerOf4IsKept =
    (counted_answers standard (calls_that_fill_the_region ++ Back 1 ∷ [])
    ≡ (granted (address 6 0) 65536, (1, 0)) ∷ (returned 4, (2, 0)) ∷ (Moved, (1, 1)) ∷ [])
    × (register_after standard calls_that_fill_the_region 15 ≡ 4)
    × (register_after standard calls_that_fill_the_region 1 ≡ address 6 0)
    × (register_after standard (calls_that_fill_the_region ++ Back 1 ∷ []) 15 ≡ 0)
    × (register_after (pages 1 1) (conditional_obtain 8192 0 ∷ storage_obtain 8 0 ∷ []) 15 ≡ 0)

abbrev pub calls_around_a_page : List (Call FormedService)
calls_around_a_page = storage_obtain 8 1 ∷ Back 1 ∷ storage_release 8 (address 6 0) 1 ∷ []

-- A page that a step back takes away exists again after the step forward; an answer 4 discards what was undone.
abbrev pub AnAnswerOf4DiscardsWhatWasUndone : Type 0
AnAnswerOf4DiscardsWhatWasUndone =
    (counted_answers (pages 1 1)
    (calls_around_a_page ++ Forward 1 ∷ Back 1 ∷ conditional_obtain 8192 0 ∷ Forward 1 ∷ [])
    ≡ (granted (address 6 0) 8, (1, 0))
    ∷ (Moved, (0, 1))
    ∷ (user_abend 3003, (0, 1))
    ∷ (Moved, (1, 0))
    ∷ (Moved, (0, 1))
    ∷ (returned 4, (1, 0))
    ∷ (TooFar 0, (1, 0))
    ∷ [])
    × (peeked (pages 1 1) calls_around_a_page (address 6 0) 1 ≡ None)
    × (peeked (pages 1 1) (calls_around_a_page ++ Forward 1 ∷ []) (address 6 0) 1 ≡ Some (0 ∷ []))

abbrev pub calls_on_one_page : List (Call FormedService)
calls_on_one_page =
    attach_task (Number 5) Nothing
    ∷ run_task 2
    ∷ storage_obtain 8 5
    ∷ poke (address 6 0) (0xc1 ∷ [])
    ∷ end_of_task
    ∷ storage_obtain 8 5
    ∷ poke (address 6 0) (0xc2 ∷ [])
    ∷ []

-- A page that was given and was gone with its owner is restored by steps, with its byte; the last step gives the first
-- state.
abbrev pub ThereAndBack : Type 0
ThereAndBack =
    (answers standard (calls_on_one_page ++ Back 3 ∷ release_whole 5 ∷ [])
    ≡ new_task 2
    ∷ turn 2
    ∷ granted (address 6 0) 8
    ∷ Replied Stored
    ∷ turn 1
    ∷ granted (address 6 0) 8
    ∷ Replied Stored
    ∷ Moved
    ∷ returned 0
    ∷ [])
    × (peeked standard (calls_on_one_page ++ Back 3 ∷ []) (address 6 0) 1 ≡ Some (0xc1 ∷ []))
    × (after standard (calls_on_one_page ++ Back 3 ∷ release_whole 5 ∷ Back 5 ∷ []) ≡ first_named_state)
