-- Laws of changes, and of what a state of the storage is on the plain machine.
use Rattle.std.specs.Prelude.{◌≡◌, ℕ, ◌*◌, ◌/◌, ◌≤◌, true, false, not, if◌then◌else◌, Some, None, is_some, IsSome}
use Rattle.run_set.specs.Runs.{Run, inside}
use Rattle.vsm_model.specs.declared.Subpool.{Subpool}
use Rattle.vsm_model.specs.declared.limits.Settings.{Settings}
use Rattle.vsm_model.specs.Regions.{in_a_region}
use Rattle.vsm_model.specs.Areas.{is_free}
use Rattle.vsm_model.specs.Obtaining.{with_taken}
use Rattle.vsm_model.specs.Releasing.{without_taken}
use Rattle.subpool_storage.specs.Subpools.{Subpools, with_pages, with_free}
use Rattle.storage_changes.specs.State.{StorageState}
use Rattle.storage_changes.specs.Changes.{Change, Fit, overlay, inverse}
use Rattle.storage_changes.specs.Meaning.{subpool_of, model_of, IsSound}

-- The exchanged change fits, leads back, and its exchange is the change.
abbrev pub ChangesLeadBack : Type 0
ChangesLeadBack = (m : StorageState) (d : Change) → Fit m d
    → Fit (overlay m d) (inverse m d) × (overlay (overlay m d) (inverse m d) ≡ m)
    × (inverse (overlay m d) (inverse m d) ≡ d)

-- the number and the owner are ones that a subpool can have
abbrev pub CanBe : Subpool → Type 0
CanBe p = (p.number ≤ 127) × (1 ≤ p.owner) × (p.owner ≤ 64)

-- no page belongs to two subpools
abbrev pub PagesAreApart : Subpools → Type 0
PagesAreApart m = (p q : Subpool) (page : ℕ) → m.pages p page ≡ true → m.pages q page ≡ true → p ≡ q

-- The subpool that has a page is the one that the search returns,
abbrev pub PagesAreNamed : Type 0
PagesAreNamed = (m : Subpools) → PagesAreApart m → (p : Subpool) (page : ℕ) → CanBe p → m.pages p page ≡ true
    → subpool_of m page ≡ Some p

-- a subpool that it returns has the page, and if it returns none no subpool has it.
abbrev pub NamedPagesAreThere : Type 0
NamedPagesAreThere =
    (m : Subpools) (page : ℕ)
    → ((p : Subpool) → subpool_of m page ≡ Some p → m.pages p page ≡ true)
    × ((p : Subpool) → subpool_of m page ≡ None → CanBe p → m.pages p page ≡ false)

-- Pages that belonged to nobody and join a subpool are named by it, and the others as before;
abbrev pub JoinedPagesAreNamed : Type 0
JoinedPagesAreNamed = (m : Subpools) (p : Subpool) (run : Run) → CanBe p
    → ((q : Subpool) (page : ℕ) → inside page run ≡ true → m.pages q page ≡ false)
    → (page : ℕ) → subpool_of (with_pages m p run true) page ≡ (if inside page run then Some p else subpool_of m page)

-- pages that leave their subpool belong to nobody, and the others stay named as before.
abbrev pub LeftPagesAreNobodys : Type 0
LeftPagesAreNobodys = (m : Subpools) (p : Subpool) (run : Run) → PagesAreApart m
    → ((page : ℕ) → inside page run ≡ true → m.pages p page ≡ true)
    → (page : ℕ) → subpool_of (with_pages m p run false) page ≡ (if inside page run then None else subpool_of m page)

-- An area of a subpool's pages that leaves its free storage is taken on the plain machine,
abbrev pub AreasAreTaken : Type 0
AreasAreTaken = (m : StorageState) (p : Subpool) (area : Run)
    → ((d : ℕ) → inside d area ≡ true → subpool_of m.subpools (d / 512) ≡ Some p)
    → model_of (record m { subpools = with_free m.subpools p area false })
    ≡ with_taken (model_of m) area.start area.len

-- and one that joins it is no longer taken.
abbrev pub AreasAreFreed : Type 0
AreasAreFreed = (m : StorageState) (p : Subpool) (area : Run)
    → ((d : ℕ) → inside d area ≡ true → subpool_of m.subpools (d / 512) ≡ Some p)
    → model_of (record m { subpools = with_free m.subpools p area true })
    ≡ without_taken (model_of m) area.start area.len

-- In a sound state the doublewords that are free on the plain machine are those of the subpool's free storage,
abbrev pub FreeStorageIsFree : Type 0
FreeStorageIsFree = (settings : Settings) (m : StorageState) → IsSound settings m
    → (p : Subpool) (d : ℕ) → is_free (model_of m) p d ≡ m.subpools.free p d

-- and the pages of the regions that it assigns to nobody are the unassigned ones.
abbrev pub UnassignedPagesAreNobodys : Type 0
UnassignedPagesAreNobodys = (settings : Settings) (m : StorageState) → IsSound settings m
    → (page : ℕ) → in_a_region settings page ≡ true → m.unassigned page ≡ not (is_some ((model_of m).pages page))

-- each page that a change assigns has a frame that the change brings
abbrev pub AssignedPagesAreBrought : Type 0
AssignedPagesAreBrought = (m : StorageState) (d : Change) (page : ℕ) → Fit m d
    → m.unassigned page ≡ true → (overlay m d).unassigned page ≡ false → IsSome (d.frames (4096 * page))
