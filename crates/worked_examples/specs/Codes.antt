-- Causes in their order, completion codes, texts and limits.
use Rattle.std.specs.Prelude.{◌≡◌, ℕ, Bool, true, false, Some, None, List, [], ◌∷◌, map, codes, replicate}
use Rattle.vsm_model.specs.declared.causes.Cause.{Cause}
use Rattle.vsm_model.specs.declared.causes.Cause.TheVariants.{UnsupportedSubpool, SubpoolNotAllowed, BadLength}
use Rattle.vsm_model.specs.declared.causes.Cause.TheVariants.{TooManyNames, NoStorage, Misaligned, NotInSubpool}
use Rattle.vsm_model.specs.declared.causes.Cause.TheVariants.{OverlapsFree, OverlapsCells, WholeOfZero, NotOwner}
use Rattle.vsm_model.specs.declared.causes.Cause.TheVariants.{BadCells, CellPoolExists, TooManyCellPools, NoCellPool}
use Rattle.vsm_model.specs.declared.causes.Cause.TheVariants.{NotInUse, BadList, TooManyTasks, NoTask, NotParent}
use Rattle.vsm_model.specs.declared.causes.Cause.TheVariants.{HasSubtask, NotAssigned}
use Rattle.vsm_model.specs.declared.causes.Code.{Code}
use Rattle.vsm_model.specs.declared.causes.Family.{Family}
use Rattle.vsm_model.specs.declared.causes.Family.TheVariants.{E, R, S}
use Rattle.vsm_model.specs.declared.replies.Reply.{Reply}
use Rattle.vsm_model.specs.declared.replies.Reply.TheVariants.{Obtained, Returned, Cell, Attached, Turn, Stored}
use Rattle.vsm_model.specs.declared.services.Lengths.TheVariants.{Variable}
use Rattle.vsm_model.specs.declared.services.Location.TheVariants.{Low}
use Rattle.vsm_model.specs.declared.services.Passed.{Passed}
use Rattle.vsm_model.specs.declared.services.Passed.TheVariants.{Number, Listed}
use Rattle.vsm_model.specs.Services.{Service, obtain, release, whole, attach, build, get}
use Rattle.vsm_model.specs.State.{State, first_state}
use Rattle.vsm_model.specs.Cells.{no_pool}
use Rattle.vsm_model.specs.Codes.{completion_code}
use Rattle.vsm_model.specs.Step.{step}
use Rattle.vsm_model.specs.Texts.{reply_text, code_text}
use Rattle.vsm_model.specs.Standing.{Answer, Replied, RefusedFor, outcome_answer}
use Rattle.vsm_model.specs.Names.{NamedState, is_one_too_many}
use Rattle.vsm_model.specs.Forms.{formed_step}
use Rattle.vsm_model.specs.Map.{numbers}
use Rattle.vsm_model.specs.Regions.{settings_valid}
use Rattle.worked_examples.specs.Calls.{standard, with_history}
use Rattle.worked_examples.specs.Calls.{pages, answers, after, address, asks, area, storage_obtain, given_back}
use Rattle.worked_examples.specs.Calls.{release_whole, pool_name, build_cells, cells, get_operands, get_cell, granted}
use Rattle.worked_examples.specs.Calls.{returned, system_abend, user_abend}

-- the answers to these services in a state
abbrev pub first_answers : State → Bool → List Service → List (Answer Reply Cause)
first_answers s names_full = map (λ x. outcome_answer (step (pages 1 1) names_full s x))

-- 256 cell pools, whose names are one byte
abbrev pub full_of_pools : State
full_of_pools = record first_state { cell_pools = map (λ n. (n ∷ [], no_pool)) (numbers 0 256) }

abbrev pub bad_build : List ℕ → ℕ → ℕ → Service
bad_build name number size =
    build name None (record { primary = 512; secondary = Some 1; size = size; number = number; location = Low })

abbrev pub attaches : Passed → Passed → Service
attaches given shared = attach (record { given = given; shared = shared; shares_zero = true })

-- The first cause that holds is the answer. Each list goes down the causes of a service in their order, and most
-- services in it also have later causes.
abbrev pub CausesComeInOrder : Type 0
CausesComeInOrder =
    (first_answers first_state true
    (obtain (area 0 131)
    ∷ obtain (area 0 200)
    ∷ obtain (record (area 8192 1) { lengths = Variable 8192 8193 })
    ∷ obtain (area 8192 1)
    ∷ get pool_name (get_operands true)
    ∷ [])
    ≡ RefusedFor UnsupportedSubpool
    ∷ RefusedFor SubpoolNotAllowed
    ∷ RefusedFor BadLength
    ∷ RefusedFor TooManyNames
    ∷ RefusedFor NoCellPool
    ∷ [])
    × (first_answers first_state false
    (obtain (area 8192 1)
    ∷ obtain (record (area 8192 1) { conditional = true })
    ∷ release (given_back 0 4 132)
    ∷ release (given_back 0 4 200)
    ∷ release (given_back 0 4 1)
    ∷ release (given_back 8 4 1)
    ∷ release (given_back 8 (address 6 0) 1)
    ∷ release (given_back 8 (address 7 0) 0)
    ∷ release (given_back 8 (address 6 0) 0)
    ∷ [])
    ≡ RefusedFor NoStorage
    ∷ Replied (Returned 4)
    ∷ RefusedFor UnsupportedSubpool
    ∷ RefusedFor SubpoolNotAllowed
    ∷ RefusedFor BadLength
    ∷ RefusedFor Misaligned
    ∷ RefusedFor NotInSubpool
    ∷ RefusedFor NotInSubpool
    ∷ RefusedFor OverlapsFree
    ∷ [])
    × (first_answers first_state false (whole 132 ∷ whole 200 ∷ whole 0 ∷ whole 1 ∷ [])
    ≡ RefusedFor UnsupportedSubpool ∷ RefusedFor SubpoolNotAllowed ∷ RefusedFor WholeOfZero ∷ RefusedFor NotInSubpool
    ∷ [])
    × (first_answers full_of_pools false
    (bad_build (codes "C") 131 5
    ∷ bad_build (codes "C") 128 5
    ∷ bad_build (codes "C") 1 5
    ∷ bad_build (codes "C") 1 12
    ∷ bad_build (codes "CP") 1 12
    ∷ [])
    ≡ RefusedFor UnsupportedSubpool
    ∷ RefusedFor SubpoolNotAllowed
    ∷ RefusedFor BadCells
    ∷ RefusedFor CellPoolExists
    ∷ RefusedFor TooManyCellPools
    ∷ [])
    × (first_answers first_state false
    (bad_build pool_name 1 12
    ∷ attaches (Number 0) (Listed (address 9 0))
    ∷ attaches (Number 0) (Number 5)
    ∷ [])
    ≡ RefusedFor NoStorage ∷ RefusedFor NotAssigned ∷ RefusedFor BadList ∷ [])

-- The same release is refused with another code in each family of forms, and returns 4 if it is conditional. Cells are
-- not released as an area; free storage after them is found first, and the area before them is released.
abbrev pub FormsAndTheirCodes : Type 0
FormsAndTheirCodes =
    answers (pages 2 1)
    (storage_obtain 24 1
    ∷ asks E (release (given_back 8 (address 6 4) 1))
    ∷ asks E (release (given_back 8 (address 6 24) 1))
    ∷ asks R (release (given_back 8 (address 6 24) 1))
    ∷ asks E (release (record (given_back 8 (address 6 24) 1) { conditional = true }))
    ∷ build_cells (cells 1 8 1)
    ∷ asks E (release (given_back 8 (address 6 24) 1))
    ∷ asks E (release (record (given_back 8 (address 6 24) 1) { conditional = true }))
    ∷ asks E (release (given_back 16 (address 6 24) 1))
    ∷ asks E (release (given_back 24 (address 6 0) 1))
    ∷ asks R (whole 200)
    ∷ asks R (whole 131)
    ∷ release_whole 9
    ∷ [])
    ≡ granted (address 6 0) 24
    ∷ system_abend 0x905
    ∷ system_abend 0xa05
    ∷ system_abend 0xa0a
    ∷ returned 4
    ∷ granted (address 6 24) 8
    ∷ user_abend 3006
    ∷ returned 4
    ∷ system_abend 0xa05
    ∷ returned 0
    ∷ system_abend 0xb0a
    ∷ user_abend 3007
    ∷ user_abend 3003
    ∷ []

-- the texts of the completion codes of these causes, for a service in a form of a family
abbrev pub code_texts : Family → Service → List Cause → List (List ℕ)
code_texts family x = map (λ cause. code_text (completion_code family x cause))

abbrev pub an_obtain : Service
an_obtain = obtain (area 8 0)

abbrev pub a_release : Service
a_release = release (given_back 8 (address 6 0) 0)

-- The codes of all causes as they are printed for STORAGE; and those whose last two digits differ in other forms: of an
-- E form that obtains, of one that releases, and of an R form.
abbrev pub CompletionCodesAsTexts : Type 0
CompletionCodesAsTexts =
    (code_texts S a_release
    (UnsupportedSubpool
    ∷ SubpoolNotAllowed
    ∷ BadLength
    ∷ TooManyNames
    ∷ NoStorage
    ∷ Misaligned
    ∷ NotInSubpool
    ∷ OverlapsFree
    ∷ OverlapsCells
    ∷ WholeOfZero
    ∷ NotOwner
    ∷ BadCells
    ∷ CellPoolExists
    ∷ TooManyCellPools
    ∷ NoCellPool
    ∷ NotInUse
    ∷ BadList
    ∷ TooManyTasks
    ∷ NoTask
    ∷ NotParent
    ∷ HasSubtask
    ∷ NotAssigned
    ∷ [])
    ≡ codes "U3007"
    ∷ codes "SB78"
    ∷ codes "U3001"
    ∷ codes "U3013"
    ∷ codes "S878"
    ∷ codes "S978"
    ∷ codes "U3003"
    ∷ codes "SA78"
    ∷ codes "U3006"
    ∷ codes "U3004"
    ∷ codes "U3005"
    ∷ codes "U3012"
    ∷ codes "U3009"
    ∷ codes "U3013"
    ∷ codes "U3010"
    ∷ codes "U3011"
    ∷ codes "U3014"
    ∷ codes "U3013"
    ∷ codes "U3008"
    ∷ codes "U3008"
    ∷ codes "SA03"
    ∷ codes "S0C4"
    ∷ [])
    × (code_texts S an_obtain (SubpoolNotAllowed ∷ NoStorage ∷ []) ≡ codes "SB78" ∷ codes "S878" ∷ [])
    × (code_texts E an_obtain (SubpoolNotAllowed ∷ NoStorage ∷ BadLength ∷ [])
    ≡ codes "SB04" ∷ codes "S804" ∷ codes "U3001" ∷ [])
    × (code_texts E a_release (SubpoolNotAllowed ∷ Misaligned ∷ OverlapsFree ∷ [])
    ≡ codes "SB05" ∷ codes "S905" ∷ codes "SA05" ∷ [])
    × (code_texts R an_obtain (SubpoolNotAllowed ∷ NoStorage ∷ []) ≡ codes "SB0A" ∷ codes "S80A" ∷ [])
    × (code_texts R a_release (SubpoolNotAllowed ∷ Misaligned ∷ OverlapsFree ∷ NotInSubpool ∷ [])
    ≡ codes "SB0A" ∷ codes "S90A" ∷ codes "SA0A" ∷ codes "U3003" ∷ [])

-- Replies as they are printed: an address and a length have eight upper case hexadecimal digits.
abbrev pub RepliesAsTexts : Type 0
RepliesAsTexts =
    map reply_text
    (Obtained (address 6 0) 8
    ∷ Obtained (address 15 4088) 61440
    ∷ Returned 0
    ∷ Returned 4
    ∷ Cell (address 6 0)
    ∷ Attached 2
    ∷ Turn 64
    ∷ Stored
    ∷ [])
    ≡ codes "RC=0 A=00006000 L=00000008"
    ∷ codes "RC=0 A=0000FFF8 L=0000F000"
    ∷ codes "RC=0"
    ∷ codes "RC=4"
    ∷ codes "RC=0 A=00006000"
    ∷ codes "RC=0 T=2"
    ∷ codes "T=64"
    ∷ codes "OK"
    ∷ []

-- 1,024 names of two bytes
abbrev pub many_names : List (List ℕ × ℕ)
many_names = map (λ n. (n ∷ n ∷ [], 0)) (numbers 0 1024)

-- There are at most 256 cell pools and 1,024 names; a name that is defined can be given another word. The regions have
-- whole pages, at most 16,360K below the line and 1,572,864K above it, and a history has 1 to 65,536 changes.
abbrev pub Limits : Type 0
Limits =
    (first_answers full_of_pools false (build pool_name None (cells 1 4 0) ∷ []) ≡ RefusedFor TooManyCellPools ∷ [])
    × (is_one_too_many many_names (Some (codes "P")) ≡ true)
    × (is_one_too_many many_names (Some (codes "PP")) ≡ false)
    × (is_one_too_many many_names None ≡ false)
    × (map settings_valid
    (pages 4090 393216
    ∷ with_history 65536
    ∷ pages 4091 1
    ∷ pages 1 393217
    ∷ pages 0 1
    ∷ record standard { low_k = 66 }
    ∷ with_history 65537
    ∷ with_history 0
    ∷ [])
    ≡ true ∷ true ∷ replicate 6 false)

-- a cell pool whose one cell is in use, and 1,024 names without P
abbrev pub full_of_names : NamedState
full_of_names = record (after (pages 1 1) (build_cells (cells 1 8 0) ∷ get_cell ∷ [])) { names = many_names }

abbrev pub answer_to : List ℕ → Service → Answer Reply Code
answer_to name x =
    outcome_answer (formed_step (pages 1 1) full_of_names
    (record { family = S; asked = record { service = x; name = Some name } }))

-- A statement whose name is one too many is refused, also in a conditional form for which there is no storage; but a
-- bad length and a missing cell pool are found before that.
abbrev pub NamesAreFull : Type 0
NamesAreFull =
    (answer_to (codes "P") (obtain (area 8 0)) ≡ user_abend 3013)
    × (answer_to (codes "PP") (obtain (area 8 0)) ≡ granted (address 6 8) 8)
    × (answer_to (codes "P") (obtain (record (area 8192 0) { conditional = true })) ≡ user_abend 3013)
    × (answer_to (codes "P") (obtain (area 0 0)) ≡ user_abend 3001)
    × (answer_to (codes "P") (get pool_name (get_operands true)) ≡ user_abend 3013)
    × (answer_to (codes "P") (get (codes "CQ") (get_operands true)) ≡ user_abend 3010)
