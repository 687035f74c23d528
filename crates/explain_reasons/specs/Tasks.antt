-- Why a request on tasks is refused, as text.
use Rattle.std.specs.Prelude.{ℕ, ◌==◌, nat_lt, Bool, true, false, not, ◌&&◌, List, [], ◌∷◌, ◌++◌, length}
use Rattle.std.specs.Prelude.{codes, if◌then◌else◌, unwrap_or}
use Rattle.std.specs.Fmt.{decimal}
use Rattle.vsm_model.specs.declared.services.Attach.{Attach}
use Rattle.vsm_model.specs.Ending.{is_child}
use Rattle.vsm_model.specs.Passing.{numbers_in}
use Rattle.vsm_model.specs.Search.{holds, is_in, least, passing}
use Rattle.vsm_model.specs.State.{State, is_task}
use Rattle.explain_text.specs.Pieces.{line}
use Rattle.explain_reasons.specs.Sights.{seen_subpool}
use Rattle.explain_reasons.specs.SightTexts.{seen_text}

-- ---- tasks and their parents

abbrev pub no_task_text : ℕ → List ℕ
no_task_text task = line (codes "no task has the number " ∷ decimal task ∷ [])

-- which task is the parent of a task, and which one is current; or that there is none
abbrev pub parent_text : ℕ → ℕ → ℕ → List ℕ
parent_text task parent current =
    if parent == 0
    then line (codes "task 1 has no parent" ∷ [])
    else line
    (codes "the parent of task " ∷ decimal task ∷ codes " is task " ∷ decimal parent ∷ codes "; the current task is "
    ∷ decimal current ∷ [])

abbrev pub not_parent_text : State → ℕ → List ℕ
not_parent_text s task = parent_text task (unwrap_or (s.parents task) 0) s.current

-- the first subtask of the current task, by its number: closed, as the next, since it's long
unfoldable pub first_subtask : State → ℕ
first_subtask s = unwrap_or (least (is_child s s.current) 1 64) 0

abbrev pub subtask_text : State → List ℕ
subtask_text s =
    line
    (codes "task " ∷ decimal s.current ∷ codes " has a subtask: task " ∷ decimal (first_subtask s) ∷ [])

-- how many tasks there are
unfoldable pub task_count : State → ℕ
task_count s = passing (is_task s) 1 64

abbrev pub task_count_text : State → List ℕ
task_count_text s = line (decimal (task_count s) ∷ codes " of 64 tasks exist" ∷ [])

-- ---- lists of subpools

abbrev pub no_list_text : List ℕ
no_list_text = line (codes "a byte of a list isn't assigned" ∷ [])

-- what is wrong with a number, by itself or because it was named before
abbrev pub wrong_text : ℕ → Bool → List ℕ
wrong_text number again =
    if number == 0
    then codes ": subpool 0 goes by SZERO"
    else if nat_lt 127 number then codes ": it's above 127" else if again then codes ": it's named twice" else []

-- whether the current task sees another's subpool at a number
abbrev pub is_anothers : State → ℕ → Bool
is_anothers s number = holds (λ p. not (p.owner == s.current)) (seen_subpool s number)

-- and that it does, if only its owner may give it
abbrev pub giver_note : State → Bool → ℕ → List ℕ
giver_note s by_owner number =
    if by_owner && is_anothers s number then codes ": only its owner gives it away" else []

-- a number of a list, and what is wrong with it, or whose subpool it is
abbrev pub number_text : State → List ℕ → ℕ → List ℕ → List ℕ → List ℕ
number_text s word number wrong note =
    line (word ∷ codes ": " ∷ decimal number ∷ wrong ∷ note ∷ [])
    ++ (if length wrong == 0 then seen_text s number [] else [])

-- the numbers of which something is said come first, the others then
abbrev pub is_turn : List ℕ → List ℕ → Bool → Bool
is_turn wrong note true = not ((length wrong == 0) && (length note == 0))
is_turn wrong note false = (length wrong == 0) && (length note == 0)

abbrev pub turn_text : State → List ℕ → ℕ → List ℕ → List ℕ → Bool → List ℕ
turn_text s word number wrong note first =
    if is_turn wrong note first then number_text s word number wrong note else []

-- the numbers of a list whose turn it is, after those that were named before
abbrev pub numbers_text : State → List ℕ → Bool → Bool → List ℕ → List ℕ → List ℕ
numbers_text s word by_owner first before [] = []
numbers_text s word by_owner first before (number ∷ numbers) =
    turn_text s word number (wrong_text number (is_in before number)) (giver_note s by_owner number) first
    ++ numbers_text s word by_owner first (before ++ number ∷ []) numbers

-- the subpools that are given, and those that are shared
abbrev pub turns_text : State → Bool → Bool → List ℕ → List ℕ → List ℕ
turns_text s by_owner first given shared =
    numbers_text s (codes "given") by_owner first [] given ++ numbers_text s (codes "shared") false first given shared

abbrev pub lists_text : State → Bool → List ℕ → List ℕ → List ℕ
lists_text s by_owner given shared =
    turns_text s by_owner true given shared ++ turns_text s by_owner false given shared

-- that one of them is bad, or that another task's is given
abbrev pub passed_text : State → Bool → Attach → List ℕ
passed_text s by_owner a =
    lists_text s by_owner (unwrap_or (numbers_in s a.given) []) (unwrap_or (numbers_in s a.shared) [])
