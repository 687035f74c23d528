-- Why a service on tasks is refused: for the first cause, in their order, whose condition holds, by the state before.
-- Assembler Services Reference, ATTACH and DETACH.
use Rattle.std.specs.Prelude.{◌≡◌, ◌≢◌, ◌⊎◌, ℕ, suc, ◌<◌, ◌≤◌, Bool, true, Some, None, List, ◌++◌, slice_get}
use Rattle.vsm_model.specs.declared.causes.Cause.{Cause}
use Rattle.vsm_model.specs.declared.causes.Cause.TheVariants.{NotAssigned, BadList, NotOwner, TooManyTasks, NoTask}
use Rattle.vsm_model.specs.declared.causes.Cause.TheVariants.{NotParent, HasSubtask}
use Rattle.vsm_model.specs.declared.limits.Settings.{Settings}
use Rattle.vsm_model.specs.declared.services.Attach.{Attach}
use Rattle.vsm_model.specs.declared.services.Passed.{Passed}
use Rattle.vsm_model.specs.declared.services.Passed.TheVariants.{Nothing, Number, Listed}
use Rattle.vsm_model.specs.Search.{is_in}
use Rattle.vsm_model.specs.Regions.{among}
use Rattle.vsm_model.specs.State.{State, is_task}
use Rattle.vsm_model.specs.Services.{attach, detach, end_task, run}
use Rattle.vsm_model.specs.Standing.{Refused}
use Rattle.vsm_model.specs.Passing.{numbers_in}
use Rattle.vsm_model.specs.Step.{step}
use Rattle.vsm_model.specs.WellFormed.{TasksAreSound}
use Rattle.service_laws.specs.Attached.{AreNumbers}

-- Part of a list is missing: the byte that counts its numbers, or that of one of them, isn't in an assigned page.
abbrev pub IsNotAssigned : State → Passed → Type 0
IsNotAssigned s Nothing = ⊥
IsNotAssigned s (Number number) = ⊥
IsNotAssigned s (Listed address) =
    (s.bytes address ≡ None)
    ⊎ ((count : ℕ) × (a : ℕ) × (s.bytes address ≡ Some count) × (among (suc address) count a ≡ true)
    × (s.bytes a ≡ None))

-- A number is 0 or above 127, or appears twice.
abbrev pub HasBadNumber : List ℕ → Type 0
HasBadNumber numbers =
    ((n : ℕ) × (is_in numbers n ≡ true) × ((n ≡ 0) ⊎ (127 < n)))
    ⊎ ((i : ℕ) × (j : ℕ) × (n : ℕ) × (i < j) × (slice_get numbers i ≡ Some n) × (slice_get numbers j ≡ Some n))

-- What an ATTACH names is present: these numbers are given, and these are shared.
pub record AreNamed (s : State) (a : Attach) (given shared : List ℕ) : Type 0 where
  pub are_given : numbers_in s a.given ≡ Some given
  pub are_shared : numbers_in s a.shared ≡ Some shared

-- They are also subpool numbers, each named once.
pub record AreNamedWell (s : State) (a : Attach) (given shared : List ℕ) : Type 0 where
  pub named : AreNamed s a given shared
  pub are_numbers : AreNumbers (given ++ shared)

-- Why an ATTACH is refused: part of a list is missing; or none is, and the numbers are bad; or they aren't, and the
-- current task sees another's subpool at one that it gives; or at none of them, and each number from 1 to 64 has a
-- task.
abbrev pub IsFirstOfAttach : State → Attach → Cause → Type 0
IsFirstOfAttach s a NotAssigned = IsNotAssigned s a.given ⊎ IsNotAssigned s a.shared
IsFirstOfAttach s a BadList =
    (given : List ℕ) × (shared : List ℕ) × AreNamed s a given shared × HasBadNumber (given ++ shared)
IsFirstOfAttach s a NotOwner =
    (given : List ℕ) × (shared : List ℕ) × AreNamedWell s a given shared
    × ((number : ℕ) × (owner : ℕ) × (is_in given number ≡ true) × (s.sight s.current number ≡ Some owner)
    × (owner ≢ s.current))
IsFirstOfAttach s a TooManyTasks =
    (given : List ℕ) × (shared : List ℕ) × AreNamedWell s a given shared
    × ((number owner : ℕ) → is_in given number ≡ true → s.sight s.current number ≡ Some owner → owner ≡ s.current)
    × ((task : ℕ) → 1 ≤ task → task ≤ 64 → is_task s task ≡ true)
IsFirstOfAttach s a _ = ⊥

abbrev pub AttachIsRefusedForTheFirst : Type 0
AttachIsRefusedForTheFirst =
    (settings : Settings) (names_full : Bool) (s : State) (a : Attach) (cause : Cause) →
    step settings names_full s (attach a) ≡ Refused cause → IsFirstOfAttach s a cause

-- Why a DETACH is refused: there is no such task, or there is one, and the current task isn't its parent.
abbrev pub IsFirstOfDetach : State → ℕ → Cause → Type 0
IsFirstOfDetach s task NoTask = s.parents task ≡ None
IsFirstOfDetach s task NotParent = (is_task s task ≡ true) × (s.parents task ≢ Some s.current)
IsFirstOfDetach s task _ = ⊥

abbrev pub DetachIsRefusedForTheFirst : Type 0
DetachIsRefusedForTheFirst =
    (settings : Settings) (names_full : Bool) (s : State) (task : ℕ) (cause : Cause) →
    step settings names_full s (detach task) ≡ Refused cause → IsFirstOfDetach s task cause

-- Why an ENDTASK is refused: the current task has a subtask, or it has none, and is task 1.
abbrev pub IsFirstOfEndTask : State → Cause → Type 0
IsFirstOfEndTask s HasSubtask = (task : ℕ) × (s.parents task ≡ Some s.current)
IsFirstOfEndTask s NotParent = ((task : ℕ) → s.parents task ≢ Some s.current) × (s.current ≡ 1)
IsFirstOfEndTask s _ = ⊥

abbrev pub EndTaskIsRefusedForTheFirst : Type 0
EndTaskIsRefusedForTheFirst =
    (settings : Settings) (names_full : Bool) (s : State) (cause : Cause) → TasksAreSound s →
    step settings names_full s end_task ≡ Refused cause → IsFirstOfEndTask s cause

-- Why a RUN is refused: there is no such task.
abbrev pub IsFirstOfRun : State → ℕ → Cause → Type 0
IsFirstOfRun s task NoTask = s.parents task ≡ None
IsFirstOfRun s task _ = ⊥

abbrev pub RunIsRefusedForTheFirst : Type 0
RunIsRefusedForTheFirst =
    (settings : Settings) (names_full : Bool) (s : State) (task : ℕ) (cause : Cause) →
    step settings names_full s (run task) ≡ Refused cause → IsFirstOfRun s task cause
