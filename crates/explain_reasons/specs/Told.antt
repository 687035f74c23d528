-- What is said of the first cause of a service.
use Rattle.std.specs.Prelude.{◌≡◌, ℕ, min, Bool, true, false, List, [], ◌∷◌, ◌++◌, length, Option, Some, None, codes}
use Rattle.vsm_model.specs.declared.causes.Cause.{Cause}
use Rattle.vsm_model.specs.declared.causes.Cause.TheVariants.{UnsupportedSubpool, SubpoolNotAllowed, BadLength}
use Rattle.vsm_model.specs.declared.causes.Cause.TheVariants.{TooManyNames, NoStorage, Misaligned, NotInSubpool}
use Rattle.vsm_model.specs.declared.causes.Cause.TheVariants.{OverlapsFree, OverlapsCells, WholeOfZero, NotOwner}
use Rattle.vsm_model.specs.declared.causes.Cause.TheVariants.{BadCells, CellPoolExists, TooManyCellPools, NoCellPool}
use Rattle.vsm_model.specs.declared.causes.Cause.TheVariants.{NotInUse, TooManyTasks, NoTask, NotParent, HasSubtask}
use Rattle.vsm_model.specs.declared.causes.Cause.TheVariants.{BadList, NotAssigned}
use Rattle.vsm_model.specs.declared.limits.Settings.{Settings}
use Rattle.vsm_model.specs.declared.services.Attach.{Attach}
use Rattle.vsm_model.specs.declared.services.Build.{Build}
use Rattle.vsm_model.specs.declared.services.Get.{Get}
use Rattle.vsm_model.specs.declared.services.Obtain.{Obtain}
use Rattle.vsm_model.specs.declared.services.Release.{Release}
use Rattle.vsm_model.specs.Causes.{Causes, first_cause}
use Rattle.vsm_model.specs.CellPools.{CellPool, cell_pool_in}
use Rattle.vsm_model.specs.Services.{Service, obtain, release, whole, attach, detach, end_task, run, store, build, get}
use Rattle.vsm_model.specs.Services.{free, delete}
use Rattle.vsm_model.specs.State.{State}
use Rattle.vsm_model.specs.Step.{causes}
use Rattle.storage_core.specs.Meaning.{settings_of, state_of}
use Rattle.storage_core.specs.declared.storage.Storage.{Storage}
use Rattle.text_output.specs.Writing.{Puts}
use Rattle.text_output.specs.declared.writing.Gathered.{Gathered}
use Rattle.explain_text.specs.Pieces.{line}
use Rattle.explain_reasons.specs.ToldPlaces.{TellsArea, TellsPlace, area_text, no_room_text, room_text}
use Rattle.explain_reasons.specs.declared.places.LengthSides.{LengthSides}
use Rattle.explain_reasons.specs.Cells.{no_pool_text, not_in_use_text, overlaps_cells_text}
use Rattle.explain_reasons.specs.Pages.{pages_text}
use Rattle.explain_reasons.specs.Releases.{not_in_subpool_text, overlaps_free_text}
use Rattle.explain_reasons.specs.SightTexts.{seen_text, unseen_text}
use Rattle.explain_reasons.specs.Tasks.{no_list_text, no_task_text, not_parent_text, passed_text, subtask_text}
use Rattle.explain_reasons.specs.Tasks.{task_count_text}
use Rattle.explain_text.specs.Asked.{bad_cells_text, empty_text, left_out_text, lengths_text}
use Rattle.explain_reasons.specs.Texts.{further_text}
use Rattle.explain_text.specs.Asked.{misaligned_text, names_full_text, owner_note}
use Rattle.explain_reasons.specs.Texts.{no_cell_text, no_extent_text}
use Rattle.explain_text.specs.Asked.{pool_exists_text, pools_full_text, too_high_text, zero_text}

-- ---- the text of a cause, by service: none of a pair that doesn't go together

abbrev pub obtain_text : Obtain → Cause → List ℕ
obtain_text o UnsupportedSubpool = left_out_text o.number
obtain_text o SubpoolNotAllowed = too_high_text o.number
obtain_text o BadLength = lengths_text o.lengths
obtain_text o TooManyNames = names_full_text
obtain_text o _ = []

abbrev pub release_text : Settings → State → Release → Cause → List ℕ
release_text settings s r UnsupportedSubpool = left_out_text r.number
release_text settings s r SubpoolNotAllowed = too_high_text r.number
release_text settings s r BadLength = empty_text
release_text settings s r Misaligned = misaligned_text r.address
release_text settings s r NotInSubpool = not_in_subpool_text settings s r
release_text settings s r OverlapsFree = overlaps_free_text s r
release_text settings s r OverlapsCells = overlaps_cells_text s r
release_text settings s r _ = []

abbrev pub whole_text : State → ℕ → Cause → List ℕ
whole_text s number UnsupportedSubpool = left_out_text number
whole_text s number SubpoolNotAllowed = too_high_text number
whole_text s number WholeOfZero = zero_text
whole_text s number NotInSubpool = unseen_text s.current number
whole_text s number NotOwner = seen_text s number owner_note
whole_text s number _ = []

abbrev pub attach_text : State → Attach → Cause → List ℕ
attach_text s a NotAssigned = no_list_text
attach_text s a BadList = passed_text s false a
attach_text s a NotOwner = passed_text s true a
attach_text s a TooManyTasks = task_count_text s
attach_text s a _ = []

abbrev pub detach_text : State → ℕ → Cause → List ℕ
detach_text s task NoTask = no_task_text task
detach_text s task NotParent = not_parent_text s task
detach_text s task _ = []

abbrev pub end_text : State → Cause → List ℕ
end_text s HasSubtask = subtask_text s
end_text s NotParent = not_parent_text s s.current
end_text s _ = []

abbrev pub build_text : List ℕ → Build → Cause → List ℕ
build_text name b UnsupportedSubpool = left_out_text b.number
build_text name b SubpoolNotAllowed = too_high_text b.number
build_text name b BadCells = bad_cells_text b
build_text name b CellPoolExists = pool_exists_text name
build_text name b TooManyCellPools = pools_full_text
build_text name b _ = []

abbrev pub get_text : State → List ℕ → Cause → List ℕ
get_text s name NoCellPool = no_pool_text s name
get_text s name TooManyNames = names_full_text
get_text s name _ = []

abbrev pub free_cell_text : State → List ℕ → ℕ → Cause → List ℕ
free_cell_text s name cell NoCellPool = no_pool_text s name
free_cell_text s name cell NotInUse = not_in_use_text s name cell
free_cell_text s name cell _ = []

-- ---- lack of storage: the last lines say what the sides of the line have

-- how much room each side has, and which subpool the current task sees at the number
abbrev pub IsNoRoom : State → ℕ → List ℕ → Type 0
IsNoRoom s number text =
    (sides : LengthSides) × (searched : List ℕ)
    × (text ≡ no_room_text sides ++ (seen_text s number [] ++ searched))

-- the same of a cell pool's extent
abbrev pub IsNoExtent : State → ℕ → List ℕ → Type 0
IsNoExtent s number text =
    (sides : Option LengthSides) × (searched : List ℕ) × (text ≡ area_text s number sides None searched)

-- A cell pool has no free cell, and a conditional request asks for no further extent; or the same of a further extent.
abbrev pub IsNoCell : State → Option CellPool → Bool → List ℕ → Type 0
IsNoCell s pool true text = text ≡ no_cell_text ++ no_extent_text
IsNoCell s None false text = text ≡ no_cell_text
IsNoCell s (Some pool) false text =
    (sides : Option LengthSides) × (searched : List ℕ)
    × (text ≡ room_text sides ++ ((no_cell_text ++ further_text pool.secondary pool.size)
    ++ (seen_text s pool.subpool.number [] ++ searched)))

-- ---- the text of a cause

abbrev pub IsObtainTold : State → Obtain → Cause → List ℕ → Type 0
IsObtainTold s o NoStorage text = IsNoRoom s o.number text
IsObtainTold s o cause text = text ≡ obtain_text o cause

abbrev pub IsBuildTold : State → List ℕ → Build → Cause → List ℕ → Type 0
IsBuildTold s name b NoStorage text = IsNoExtent s b.number text
IsBuildTold s name b cause text = text ≡ build_text name b cause

abbrev pub IsGetTold : State → List ℕ → Get → Cause → List ℕ → Type 0
IsGetTold s name g NoStorage text = IsNoCell s (cell_pool_in s.cell_pools name) g.conditional text
IsGetTold s name g cause text = text ≡ get_text s name cause

-- This text says why a service is refused for a cause, with the numbers that decide.
abbrev pub IsTold : Settings → State → Service → Cause → List ℕ → Type 0
IsTold settings s (obtain o) cause text = IsObtainTold s o cause text
IsTold settings s (release r) cause text = text ≡ release_text settings s r cause
IsTold settings s (whole number) cause text = text ≡ whole_text s number cause
IsTold settings s (attach a) cause text = text ≡ attach_text s a cause
IsTold settings s (detach task) cause text = text ≡ detach_text s task cause
IsTold settings s end_task cause text = text ≡ end_text s cause
IsTold settings s (run task) cause text = text ≡ no_task_text task
IsTold settings s (store address bytes) cause text = text ≡ pages_text s address (min (length bytes) 256)
IsTold settings s (build name header b) cause text = IsBuildTold s name b cause text
IsTold settings s (get name g) cause text = IsGetTold s name g cause text
IsTold settings s (free name cell) cause text = text ≡ free_cell_text s name cell cause
IsTold settings s (delete name) cause text = text ≡ no_pool_text s name

-- ---- what is put

-- Such a text follows all text before it.
abbrev pub PutsOne : (List ℕ → Type 0) → Option (List ℕ) → Option (List ℕ) → Gathered → Gathered → Type 0
PutsOne is old new before after = (text : List ℕ) × is text × Puts old new before after text

-- If this is the first cause of these, it's a text that says so.
abbrev pub TellsCause : Causes → (List ℕ → Type 0) → Cause → Option (List ℕ) → Option (List ℕ) → Gathered → Gathered
    → Type 0
TellsCause rows told cause old new before after =
    first_cause rows ≡ Some cause → PutsOne told old new before after

-- Of a service on a storage what is put says this cause, if it's the first, whether or not the room for names is full.
abbrev pub TellsService : Storage → Service → Cause → Option (List ℕ) → Option (List ℕ) → Gathered → Gathered → Type 0
TellsService s service cause old new before after =
    (full : Bool)
    → TellsCause (causes (settings_of s) full (state_of s) service) (IsTold (settings_of s) (state_of s) service cause)
    cause old new before after

-- the area of a release is the subpool's that the current task sees
abbrev pub released_text : State → ℕ → List ℕ
released_text s number =
    seen_text s number [] ++ line (codes "each doubleword of the area is taken, and no cell pool's" ∷ [])

-- Of a service without a cause what is put says what it comes to: for an obtain it ends in where the area goes. Of
-- bytes that are stored, a cell that is handed out, and tasks that end or run nothing is said here.
abbrev pub TellsEffect : Storage → Service → Option (List ℕ) → Option (List ℕ) → Gathered → Gathered → Type 0
TellsEffect s (obtain o) old new before after = TellsPlace s o None old new before after
TellsEffect s (release r) old new before after = Puts old new before after (released_text (state_of s) r.number)
TellsEffect s (whole number) old new before after = Puts old new before after (seen_text (state_of s) number [])
TellsEffect s (attach a) old new before after = Puts old new before after (task_count_text (state_of s))
TellsEffect s (build name header b) old new before after = TellsArea s b.number None old new before after
TellsEffect s (free name cell) old new before after =
    Puts old new before after (line (codes "the cell is in use" ∷ []))
TellsEffect s (delete name) old new before after = Puts old new before after (no_pool_text (state_of s) name)
TellsEffect s (detach task) old new before after = Unit {0}
TellsEffect s end_task old new before after = Unit {0}
TellsEffect s (run task) old new before after = Unit {0}
TellsEffect s (store address bytes) old new before after = Unit {0}
TellsEffect s (get name g) old new before after = Unit {0}
