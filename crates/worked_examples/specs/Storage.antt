-- Areas that are obtained and released, bytes, registers and names.
use Rattle.std.specs.Prelude.{◌≡◌, ℕ, true, Some, None, List, [], ◌∷◌, ◌++◌, codes, replicate}
use Rattle.vsm_model.specs.declared.causes.Family.TheVariants.{E, R, S}
use Rattle.vsm_model.specs.declared.replies.Reply.TheVariants.{Stored}
use Rattle.vsm_model.specs.declared.limits.Residence.TheVariants.{Above}
use Rattle.vsm_model.specs.declared.services.Boundary.TheVariants.{Page}
use Rattle.vsm_model.specs.declared.services.Location.TheVariants.{Low, Either, Caller}
use Rattle.vsm_model.specs.declared.services.Passed.TheVariants.{Nothing, Number}
use Rattle.vsm_model.specs.declared.services.Obtain.{Obtain}
use Rattle.vsm_model.specs.Services.{obtain, release, whole}
use Rattle.vsm_model.specs.Bytes.{fullword}
use Rattle.vsm_model.specs.Standing.{Call, Back, Replied, Moved}
use Rattle.vsm_model.specs.Forms.{FormedService}
use Rattle.worked_examples.specs.Calls.{pages, standard, answers, address, high, asks, asks_with_name, area, variable}
use Rattle.worked_examples.specs.Calls.{storage_obtain, conditional_obtain, getmain, given_back, storage_release}
use Rattle.worked_examples.specs.Calls.{conditional_release, release_whole, poke, attach_task, run_task, granted}
use Rattle.worked_examples.specs.Calls.{returned, new_task, turn, system_abend, user_abend, peeked, register_after}
use Rattle.worked_examples.specs.Calls.{name_after, owner_after}

-- One byte takes a doubleword, at the first address of the region.
abbrev pub OneByteTakesADoubleword : Type 0
OneByteTakesADoubleword = answers standard (storage_obtain 1 0 ∷ []) ≡ granted (address 6 0) 8 ∷ []

-- Two areas of two subpools are in two pages.
abbrev pub TwoSubpoolsNeverShareAPage : Type 0
TwoSubpoolsNeverShareAPage =
    answers standard (storage_obtain 8 1 ∷ storage_obtain 8 2 ∷ [])
    ≡ granted (address 6 0) 8 ∷ granted (address 7 0) 8 ∷ []

-- An area is released in parts, also all but the last doubleword of a page; what is free can't be released.
abbrev pub AnAreaReleasedInParts : Type 0
AnAreaReleasedInParts =
    answers standard
    (storage_obtain 64 1
    ∷ storage_release 16 (address 6 16) 1
    ∷ storage_release 16 (address 6 0) 1
    ∷ storage_release 32 (address 6 32) 1
    ∷ storage_release 8 (address 6 0) 1
    ∷ storage_obtain 4096 1
    ∷ storage_release 4088 (address 6 0) 1
    ∷ storage_release 8 (address 6 4088) 1
    ∷ [])
    ≡ granted (address 6 0) 64
    ∷ returned 0
    ∷ returned 0
    ∷ returned 0
    ∷ system_abend 0xa78
    ∷ granted (address 6 0) 4096
    ∷ returned 0
    ∷ returned 0
    ∷ []

-- more bytes than a region has
abbrev pub large : Obtain
large = area 0x7fffffff 0

abbrev pub calls_for_too_much : List (Call FormedService)
calls_for_too_much =
    conditional_obtain 0x7fffffff 0
    ∷ asks S (obtain large)
    ∷ asks R (obtain (record (area 0xfffff8 0) { location = Low }))
    ∷ asks_with_name E (codes "P") (obtain (record large { location = Low }))
    ∷ asks_with_name E (codes "P") (obtain (record large { location = Low; conditional = true }))
    ∷ []

-- Running out of storage has the code of the form; a conditional form returns 4, and defines no name.
abbrev pub WantOfStorage : Type 0
WantOfStorage =
    (answers standard calls_for_too_much
    ≡ returned 4 ∷ system_abend 0x878 ∷ system_abend 0x80a ∷ system_abend 0x804 ∷ returned 4 ∷ [])
    × (name_after standard calls_for_too_much (codes "P") ≡ None)

abbrev pub calls_in_subpool_5 : List (Call FormedService)
calls_in_subpool_5 = storage_obtain 4096 0 ∷ conditional_obtain 8 5 ∷ []

-- An obtain that returns 4 makes no subpool, so that a release from that number finds none.
abbrev pub AnAnswerOf4MakesNoSubpool : Type 0
AnAnswerOf4MakesNoSubpool =
    (owner_after (pages 1 1) calls_in_subpool_5 1 5 ≡ None)
    × (answers (pages 1 1) (calls_in_subpool_5 ++ storage_release 8 (address 6 0) 5 ∷ [])
    ≡ granted (address 6 0) 4096 ∷ returned 4 ∷ user_abend 3003 ∷ [])

-- An area on a page boundary doesn't fit into the subpool's page, which stays in use.
abbrev pub AnAreaOnAPage : Type 0
AnAreaOnAPage =
    answers standard (storage_obtain 8 2 ∷ asks S (obtain (record (area 8 2) { boundary = Page }))
    ∷ storage_obtain 8 2 ∷ [])
    ≡ granted (address 6 0) 8 ∷ granted (address 7 0) 8 ∷ granted (address 6 8) 8 ∷ []

abbrev pub calls_for_variable_lengths : List (Call FormedService)
calls_for_variable_lengths =
    storage_obtain 3072 0
    ∷ asks S (obtain (variable 8200 8000))
    ∷ asks S (obtain (record (variable 1032 1025) { conditional = true }))
    ∷ asks S (obtain (variable 1032 1017))
    ∷ []

-- A variable request gets the longest area between its bounds that has a place, and its length in register 0. The least
-- length may not be above the greatest, nor be zero.
abbrev pub VariableLengths : Type 0
VariableLengths =
    (answers (pages 3 1) calls_for_variable_lengths
    ≡ granted (address 6 0) 3072 ∷ granted (address 7 0) 8192 ∷ returned 4 ∷ granted (address 6 3072) 1024 ∷ [])
    × (register_after (pages 3 1) calls_for_variable_lengths 0 ≡ 1024)
    × (answers (pages 1 1) (asks S (obtain (variable 4089 4090)) ∷ asks S (obtain (variable 8 0)) ∷ [])
    ≡ user_abend 3001 ∷ user_abend 3001 ∷ [])

abbrev pub located : ℕ → Obtain → Call FormedService
located number o = asks S (obtain (record o { number = number; location = Either }))

-- A longer area below the line wins over a shorter one above it; a fixed length goes above it if it fits.
abbrev pub ALongerAreaBelowWins : Type 0
ALongerAreaBelowWins =
    answers (pages 2 1)
    (located 1 (area 8 1)
    ∷ located 0 (variable 9000 8)
    ∷ located 0 (record (variable 4096 4090) { conditional = true })
    ∷ located 1 (variable 4096 16)
    ∷ [])
    ≡ granted (address high 0) 8 ∷ granted (address 6 0) 8192 ∷ returned 4 ∷ granted (address high 8) 4088 ∷ []

abbrev pub two_areas : List (Call FormedService)
two_areas = storage_obtain 8 1 ∷ storage_obtain 8 2 ∷ []

-- Releases that are refused or return 4, in the order of their causes.
abbrev pub ReleasesThatFreeNothing : Type 0
ReleasesThatFreeNothing =
    (answers standard
    (two_areas
    ++ storage_release 8 (address 6 4) 1
    ∷ storage_release 8 (address 6 8) 1
    ∷ storage_release 8 (address 6 0) 2
    ∷ conditional_release 16 (address 6 0) 1
    ∷ conditional_release 8 (address 6 0) 2
    ∷ conditional_release 8 (address 6 4) 1
    ∷ asks R (release (given_back 8 (address 6 4) 1))
    ∷ [])
    ≡ granted (address 6 0) 8
    ∷ granted (address 7 0) 8
    ∷ system_abend 0x978
    ∷ system_abend 0xa78
    ∷ user_abend 3003
    ∷ returned 4
    ∷ returned 4
    ∷ system_abend 0x978
    ∷ system_abend 0x90a
    ∷ [])
    × (peeked standard (two_areas ++ conditional_release 16 (address 6 0) 1 ∷ []) (address 6 0) 1 ≡ Some (0 ∷ []))

abbrev pub calls_answered_4 : List (Call FormedService)
calls_answered_4 =
    two_areas
    ++ conditional_release 16 (address 6 0) 1
    ∷ conditional_release 8 (address 8 0) 1
    ∷ conditional_release 8 (address 6 0) 2
    ∷ conditional_release 16 (address 5 4088) 1
    ∷ conditional_release 8 (address 6 0) 3
    ∷ []

abbrev pub calls_not_answered_4 : List (Call FormedService)
calls_not_answered_4 =
    conditional_release 8 (address 6 0) 131
    ∷ conditional_release 8 (address 6 0) 200
    ∷ conditional_release 0 (address 6 0) 1
    ∷ conditional_release 8 (address 6 4) 3
    ∷ conditional_release 8 (address 6 0) 1
    ∷ []

-- A conditional release returns 4, and frees nothing, if a doubleword of the area is free storage or lies in an
-- unassigned page, if one lies in a page of another subpool or outside the region, or if the subpool isn't seen; in
-- all other cases it is what it is without COND=YES.
abbrev pub ConditionalReleases : Type 0
ConditionalReleases =
    (answers standard (calls_answered_4 ++ calls_not_answered_4)
    ≡ granted (address 6 0) 8
    ∷ granted (address 7 0) 8
    ∷ replicate 5 (returned 4)
    ++ user_abend 3007
    ∷ system_abend 0xb78
    ∷ user_abend 3001
    ∷ system_abend 0x978
    ∷ returned 0
    ∷ [])
    × (register_after standard calls_answered_4 15 ≡ 4)
    × (peeked standard calls_answered_4 (address 6 0) 1 ≡ Some (0 ∷ []))
    × (owner_after standard calls_answered_4 1 3 ≡ None)

-- Storage on either side of the line is above it if there is room, and so is that of a caller above it.
abbrev pub BothSidesOfTheLine : Type 0
BothSidesOfTheLine =
    (answers (pages 3 3)
    (getmain 12288 Either
    ∷ getmain 8 Either
    ∷ getmain 8 Caller
    ∷ storage_release 12288 (address high 0) 0
    ∷ getmain 8 Low
    ∷ getmain 8 Either
    ∷ [])
    ≡ granted (address high 0) 12288
    ∷ granted (address 6 0) 8
    ∷ granted (address 6 8) 8
    ∷ returned 0
    ∷ granted (address 6 16) 8
    ∷ granted (address high 0) 8
    ∷ [])
    × (answers (record (pages 1 1) { residence = Above }) (getmain 8 Caller ∷ []) ≡ granted (address high 0) 8 ∷ [])

-- An area doesn't go from one region to the other, nor past the end of one, nor does a length wrap.
abbrev pub EndsOfTheRegions : Type 0
EndsOfTheRegions =
    answers (pages 3 3)
    (getmain 12288 Either
    ∷ getmain 8 Either
    ∷ getmain 8 Low
    ∷ storage_release 12288 (address high 0) 0
    ∷ getmain 8 Either
    ∷ getmain 12288 Either
    ∷ storage_release 16 (address 8 4088) 0
    ∷ storage_release 16 0xfffffff8 0
    ∷ storage_release 0xffffffff (address 6 0) 0
    ∷ [])
    ≡ granted (address high 0) 12288
    ∷ granted (address 6 0) 8
    ∷ granted (address 6 8) 8
    ∷ returned 0
    ∷ granted (address high 0) 8
    ∷ system_abend 0x878
    ∷ user_abend 3003
    ∷ user_abend 3003
    ∷ user_abend 3003
    ∷ []

-- Whole releases, which only their owner can make, and never of subpool 0, and which leave another owner's subpool of
-- the number; and numbers that aren't those of private storage.
abbrev pub WholeReleasesAndNumbers : Type 0
WholeReleasesAndNumbers =
    answers standard
    (storage_obtain 8 7
    ∷ release_whole 7
    ∷ release_whole 0
    ∷ asks R (obtain (record (area 8 131) { location = Low }))
    ∷ asks R (obtain (record (area 8 200) { location = Low }))
    ∷ asks_with_name E (codes "P") (obtain (record (area 8 200) { location = Low }))
    ∷ asks_with_name E (codes "P") (obtain (record (area 8 0) { location = Low }))
    ∷ asks E (release (given_back 8 (address 6 0) 200))
    ∷ storage_obtain 8 200
    ∷ attach_task Nothing (Number 7)
    ∷ run_task 2
    ∷ asks R (whole 7)
    ∷ attach_task (Number 7) (Number 7)
    ∷ attach_task Nothing Nothing
    ∷ run_task 3
    ∷ storage_obtain 8 7
    ∷ run_task 1
    ∷ storage_obtain 8 7
    ∷ release_whole 7
    ∷ run_task 3
    ∷ storage_release 8 (address 7 0) 7
    ∷ [])
    ≡ granted (address 6 0) 8
    ∷ returned 0
    ∷ user_abend 3004
    ∷ user_abend 3007
    ∷ system_abend 0xb0a
    ∷ system_abend 0xb04
    ∷ granted (address 6 0) 8
    ∷ system_abend 0xb05
    ∷ system_abend 0xb78
    ∷ new_task 2
    ∷ turn 2
    ∷ user_abend 3005
    ∷ user_abend 3014
    ∷ new_task 3
    ∷ turn 3
    ∷ granted (address 7 0) 8
    ∷ turn 1
    ∷ granted (address 8 0) 8
    ∷ returned 0
    ∷ turn 3
    ∷ returned 0
    ∷ []

abbrev pub calls_on_a_page : List (Call FormedService)
calls_on_a_page =
    storage_obtain 8 1 ∷ poke (address 6 0) (0xaa ∷ []) ∷ storage_release 8 (address 6 0) 1 ∷ storage_obtain 8 2 ∷ []

-- A page that is emptied loses its bytes; as a page of another subpool it holds zeros, and the steps back give it its
-- byte again.
abbrev pub BytesLeaveWithTheirPage : Type 0
BytesLeaveWithTheirPage =
    (peeked standard calls_on_a_page (address 6 0) 1 ≡ Some (0 ∷ []))
    × (peeked standard (calls_on_a_page ++ poke (address 6 0) (0xbb ∷ []) ∷ Back 3 ∷ []) (address 6 0) 1
    ≡ Some (0xaa ∷ []))

abbrev pub calls_with_a_register : List (Call FormedService)
calls_with_a_register =
    asks S (obtain (record (area 8 0) { register = Some 5 })) ∷ poke (address 6 0) (fullword (address 6 0)) ∷ []

abbrev pub and_one_byte_too_far : List (Call FormedService)
and_one_byte_too_far = calls_with_a_register ++ poke (address 6 4095) (1 ∷ 2 ∷ []) ∷ []

-- The address is in register 1 and in the register that is named, and is stored as a fullword, its most significant
-- byte first. Bytes of which one isn't in an assigned page are neither stored nor read.
abbrev pub AnAddressIsStoredAsAFullword : Type 0
AnAddressIsStoredAsAFullword =
    (answers standard (and_one_byte_too_far ++ Back 1 ∷ [])
    ≡ granted (address 6 0) 8 ∷ Replied Stored ∷ system_abend 0x0c4 ∷ Moved ∷ [])
    × (register_after standard calls_with_a_register 5 ≡ address 6 0)
    × (register_after standard calls_with_a_register 1 ≡ address 6 0)
    × (peeked standard calls_with_a_register (address 6 0) 4 ≡ Some (0 ∷ 0 ∷ 96 ∷ 0 ∷ []))
    × (peeked standard and_one_byte_too_far (address 6 4095) 1 ≡ Some (0 ∷ []))
    × (peeked standard calls_with_a_register 4294967295 2 ≡ None)
    × (peeked standard (calls_with_a_register ++ Back 1 ∷ []) (address 6 0) 4 ≡ Some (0 ∷ 0 ∷ 0 ∷ 0 ∷ []))

abbrev pub calls_over_two_pages : List (Call FormedService)
calls_over_two_pages = two_areas ++ poke (address 6 4094) (1 ∷ 2 ∷ 3 ∷ 4 ∷ []) ∷ []

abbrev pub and_past_them : List (Call FormedService)
and_past_them = calls_over_two_pages ++ poke 4294967295 (5 ∷ 6 ∷ []) ∷ poke (address 7 4095) (5 ∷ 6 ∷ []) ∷ []

abbrev pub and_the_second_released : List (Call FormedService)
and_the_second_released = and_past_them ++ storage_release 8 (address 7 0) 2 ∷ []

-- A store goes over the border of two pages, whichever subpools they are of, as long as both are assigned; one that
-- passes the last address, or goes over into a page that isn't assigned, stores nothing.
abbrev pub AStoreGoesOverPages : Type 0
AStoreGoesOverPages =
    (answers standard (and_the_second_released ++ poke (address 6 4094) (5 ∷ 6 ∷ 7 ∷ []) ∷ [])
    ≡ granted (address 6 0) 8
    ∷ granted (address 7 0) 8
    ∷ Replied Stored
    ∷ system_abend 0x0c4
    ∷ system_abend 0x0c4
    ∷ returned 0
    ∷ system_abend 0x0c4
    ∷ [])
    × (peeked standard and_past_them (address 6 4094) 4 ≡ Some (1 ∷ 2 ∷ 3 ∷ 4 ∷ []))
    × (peeked standard and_past_them (address 7 4095) 1 ≡ Some (0 ∷ []))
    × (peeked standard and_the_second_released (address 6 4094) 4 ≡ None)
    × (peeked standard and_the_second_released (address 6 4094) 2 ≡ Some (1 ∷ 2 ∷ []))

abbrev pub obtain_with_name : Call FormedService
obtain_with_name = asks_with_name S (codes "P") (obtain (area 8 0))

abbrev pub too_much_with_name : Call FormedService
too_much_with_name = asks_with_name S (codes "P") (obtain (record (area 8192 0) { conditional = true }))

-- An accepted obtain gives its address to its name, and the next one gives the name another; an answer 4 defines none,
-- and a step back removes a definition.
abbrev pub ANameStandsForAnAddress : Type 0
ANameStandsForAnAddress =
    (name_after standard (obtain_with_name ∷ []) (codes "P") ≡ Some (address 6 0))
    × (name_after standard (obtain_with_name ∷ obtain_with_name ∷ []) (codes "P") ≡ Some (address 6 8))
    × (name_after (pages 1 1) (too_much_with_name ∷ []) (codes "P") ≡ None)
    × (name_after standard (obtain_with_name ∷ Back 1 ∷ []) (codes "P") ≡ None)
