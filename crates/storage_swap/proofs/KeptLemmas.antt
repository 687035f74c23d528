-- A storage whose elements are as they were is as it was, and so are parked subpools.
use Rattle.std.proofs.Common.{◌≡◌, ℕ, ◌+◌, ◌<◌, ◌≤◌, Bool, if◌then◌else◌, None, IsSome, inl, inr, ap, arith}
use Rattle.std.specs.Prelude.{◌/◌, nat_lt}
use Rattle.vsm_elements.specs.Store.{Store, at}
use Rattle.vsm_elements.specs.Owners.{times, Moves}
use Rattle.vsm_elements.proofs.TimesLemmas.{times-some, some-from}
use Rattle.vsm_elements.proofs.MoveLemmas.{none-or-some, rest-same}
use Rattle.run_set.specs.Runs.{contains}
use Rattle.run_set.proofs.SetLemmas.{sets_kept}
use Rattle.descriptor_queue.specs.Pages.{page_runs, is_unassigned, IsPages}
use Rattle.descriptor_queue.specs.Pages
use Rattle.descriptor_queue.proofs.PageLemmas.{pages_stand}
use Rattle.raw_region.specs.Pages.{Pages as Tables, byte_at}
use Rattle.task_tree.specs.TaskTree.{current, parent, word, IsTaskTree}
use Rattle.task_tree.specs.TaskTree
use Rattle.task_tree.proofs.LawLemmas.{trees_stand}
use Rattle.subpool_storage.specs.declared.storage.SubpoolStorage.{SubpoolStorage as TheParked}
use Rattle.subpool_storage.specs.SubpoolStorage.{subpools_of, Stands}
use Rattle.subpool_storage.specs.SubpoolStorage
use Rattle.storage_changes.proofs.Cases.{state-same}
use Rattle.storage_swap.specs.declared.storage.Parts.{Parts}
use Rattle.storage_swap.specs.Storage.{hold, hold_with, tasks_of, state_of, Stand, StandsWith}
use Rattle.storage_swap.specs.StructureKept.{TasksStay}
use Rattle.storage_swap.proofs.Below.{trees-kept, storage-owns, storage-stays}

-- over other elements
abbrev pub over : Parts → Store → Parts
over p e = record p { elements = e }

-- what the storage holds is live
pub holds-live : (p : Parts) → Stand p → (i : ℕ) → 0 < hold p i → IsSome (at p.elements i)
holds-live p k i h = elim (none-or-some (times i (Pages.owned p.elements p.unassigned))) [
  | inr z ↦ (pages_stand p.elements p.unassigned k.unassigned).1.live i (some-from i (Pages.owned p.elements p.unassigned) z)
  | inl z ↦ elim (none-or-some (SubpoolStorage.hold p.elements p.subpools i)) [
    | inr y ↦ (storage-owns p.elements p.subpools k.subpools).1 i y
    | inl y ↦ (trees_stand p.elements p.tasks k.tasks).0.live i (some-from i (TaskTree.owned p.elements p.tasks) (omega (arith, h, z, y)))
  ]
]

-- and what it holds with parked subpools
pub with-live : (p : Parts) (q : TheParked) → StandsWith p q → (i : ℕ) → 0 < hold_with p q i → IsSome (at p.elements i)
with-live p q k i h = elim (none-or-some (hold p i)) [
  | inr z ↦ holds-live p k.storage i z
  | inl z ↦ (storage-owns p.elements q k.parked).1 i (omega (arith, h, z))
]

-- over another region
pub region-stands : (p : Parts) (region : Tables) → Stand p → Stand (record p { region = region })
region-stands p region k = record { unassigned = k.unassigned; subpools = k.subpools; tasks = k.tasks }

pub region-stands-with : (p : Parts) (q : TheParked) (region : Tables) → StandsWith p q → StandsWith (record p { region = region }) q
region-stands-with p q region k = record { storage = region-stands p region k.storage; parked = k.parked; once = k.once }

module _ (p : Parts) (e : Store) (k : Stand p) (same : (i : ℕ) → 0 < hold p i → at e i ≡ at p.elements i) where
  pages : IsPages e p.unassigned × (page_runs e p.unassigned ≡ page_runs p.elements p.unassigned) × (Pages.owned e p.unassigned ≡ Pages.owned p.elements p.unassigned)
  pages = sets_kept p.elements e p.unassigned.set k.unassigned (λ i n. same i (omega (arith, times-some i (Pages.owned p.elements p.unassigned) n)))

  subpools : Stands e p.subpools × (subpools_of e p.subpools ≡ subpools_of p.elements p.subpools) × ((i : ℕ) → SubpoolStorage.hold e p.subpools i ≡ SubpoolStorage.hold p.elements p.subpools i)
  subpools = storage-stays p.elements e p.subpools k.subpools (λ i n. same i (omega (arith, n)))

  tasks : TasksStay p.elements e p.tasks
  tasks = trees-kept p.elements e p.tasks k.tasks (λ i n. same i (omega (arith, n)))

  pub same-hold : (i : ℕ) → hold (over p e) i ≡ hold p i
  same-hold i = omega (arith, ap (times i) pages.2, subpools.2 i, tasks.held i)

  pub same-stands : Stand (over p e)
  same-stands = record { unassigned = pages.0; subpools = subpools.0; tasks = tasks.stand }

  pub same-unassigned : (page : ℕ) → (state_of (over p e)).unassigned page ≡ (state_of p).unassigned page
  same-unassigned page = ap (contains page) pages.1

  same-tasks : tasks_of (over p e) ≡ tasks_of p
  same-tasks = λ i. record {
    current = current p.tasks;
    parents = λ task. tasks.parents task i;
    words = λ task r. if nat_lt r 16 then tasks.words task r i else 0;
  }

  pub same-state : state_of (over p e) ≡ state_of p
  same-state = state-same (state_of (over p e)) (state_of p) same-tasks subpools.1 same-unassigned
      (λ a. ap (λ (b : Bool). if b then None else byte_at p.region a) (same-unassigned (a / 4096)))

-- next to parked subpools, if a call on something else leaves both
module _ (p : Parts) (q : TheParked) (e : Store) (k : StandsWith p q) (f g : ℕ → ℕ) (m : Moves p.elements e f g) (once : (i : ℕ) → f i + hold_with p q i ≤ 1) where
  same : (i : ℕ) → 0 < hold_with p q i → at e i ≡ at p.elements i
  same = rest-same p.elements e f g m (hold_with p q) once (with-live p q k)

  own : (i : ℕ) → 0 < hold p i → at e i ≡ at p.elements i
  own i h = same i (omega (arith, h))

  parked : Stands e q × (subpools_of e q ≡ subpools_of p.elements q) × ((i : ℕ) → SubpoolStorage.hold e q i ≡ SubpoolStorage.hold p.elements q i)
  parked = storage-stays p.elements e q k.parked (λ i h. same i (omega (arith, h)))

  pub kept-hold : (i : ℕ) → hold (over p e) i ≡ hold p i
  kept-hold = same-hold p e k.storage own

  pub kept-parked-hold : (i : ℕ) → SubpoolStorage.hold e q i ≡ SubpoolStorage.hold p.elements q i
  kept-parked-hold = parked.2

  pub kept-hold-with : (i : ℕ) → hold_with (over p e) q i ≡ hold_with p q i
  kept-hold-with i = omega (arith, kept-hold i, parked.2 i)

  pub kept-stands : StandsWith (over p e) q
  kept-stands = record { storage = same-stands p e k.storage own; parked = parked.0; once = λ i. omega (arith, kept-hold-with i, k.once i) }

  pub kept-state : state_of (over p e) ≡ state_of p
  kept-state = same-state p e k.storage own

  pub kept-unassigned : (page : ℕ) → (state_of (over p e)).unassigned page ≡ (state_of p).unassigned page
  kept-unassigned = same-unassigned p e k.storage own

  pub kept-parked : subpools_of e q ≡ subpools_of p.elements q
  kept-parked = parked.1
