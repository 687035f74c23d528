-- A call on one structure leaves the other ones and the parked subpools as they were.
use Rattle.std.proofs.Common.{◌≡◌, ℕ, ◌+◌, ◌<◌, ◌≤◌, IsSome, arith}
use Rattle.vsm_elements.specs.Store.{Store, at}
use Rattle.vsm_elements.specs.Owners.{times, Moves}
use Rattle.vsm_elements.proofs.MoveLemmas.{moves-by, others-kept}
use Rattle.descriptor_queue.specs.declared.pages.Pages.{Pages as PageSet}
use Rattle.descriptor_queue.specs.Pages.{IsPages}
use Rattle.descriptor_queue.specs.Pages
use Rattle.raw_region.specs.Pages.{Pages as Tables}
use Rattle.task_tree.specs.declared.tree.TaskTree.{TaskTree as Tree}
use Rattle.task_tree.specs.TaskTree.{IsTaskTree}
use Rattle.task_tree.specs.TaskTree
use Rattle.subpool_storage.specs.declared.storage.SubpoolStorage.{SubpoolStorage as Subpools}
use Rattle.subpool_storage.specs.SubpoolStorage
use Rattle.subpool_storage.proofs.LawLemmas.{storage_owns}
use Rattle.storage_swap.specs.declared.storage.Parts.{Parts}
use Rattle.storage_swap.specs.Storage.{hold_with, StandsWith}
use Rattle.storage_swap.specs.StructureKept.{PagesStay, SubpoolsStay, TasksStay, pages-stay, subpools-stay, tasks-stay, pages-live, pages-once, tasks-live, tasks-once, two-live, three-live}

module _ (p : Parts) (parked : Subpools) (k : StandsWith p parked) (e : Store) where
  -- who owned an element

  abbrev in_pages : ℕ → ℕ
  in_pages i = times i (Pages.owned p.elements p.unassigned)

  abbrev in_subpools : ℕ → ℕ
  in_subpools i = SubpoolStorage.hold p.elements p.subpools i

  abbrev in_tasks : ℕ → ℕ
  in_tasks i = times i (TaskTree.owned p.elements p.tasks)

  abbrev in_parked : ℕ → ℕ
  in_parked i = SubpoolStorage.hold p.elements parked i

  live-in-pages : (i : ℕ) → 0 < in_pages i → IsSome (at p.elements i)
  live-in-pages = pages-live p.elements p.unassigned k.storage.unassigned

  live-in-subpools : (i : ℕ) → 0 < in_subpools i → IsSome (at p.elements i)
  live-in-subpools = (storage_owns p.elements p.subpools k.storage.subpools).1

  live-in-tasks : (i : ℕ) → 0 < in_tasks i → IsSome (at p.elements i)
  live-in-tasks = tasks-live p.elements p.tasks k.storage.tasks

  live-in-parked : (i : ℕ) → 0 < in_parked i → IsSome (at p.elements i)
  live-in-parked = (storage_owns p.elements parked k.parked).1

  -- a call on the subpools
  module _ (q : Subpools) (m : Moves p.elements e in_subpools (SubpoolStorage.hold e q)) (new : SubpoolStorage.Stands e q) where
    abbrev pub with-subpools : Parts
    with-subpools = record { elements = e; region = p.region; unassigned = p.unassigned; subpools = q; tasks = p.tasks }

    beside-subpools : ((i : ℕ) → 0 < in_pages i + in_tasks i + in_parked i → at e i ≡ at p.elements i) × ((i : ℕ) → SubpoolStorage.hold e q i + (in_pages i + in_tasks i + in_parked i) ≤ 1)
    beside-subpools = others-kept p.elements e in_subpools (SubpoolStorage.hold e q) (λ i. in_pages i + in_tasks i + in_parked i) m (λ i. omega (arith, k.once i))
        (three-live p.elements in_pages in_tasks in_parked live-in-pages live-in-tasks live-in-parked) (storage_owns e q new).0

    pub subpools-pages : PagesStay p.elements e p.unassigned
    subpools-pages = pages-stay p.elements e p.unassigned k.storage.unassigned (λ i n. beside-subpools.0 i (omega (arith, n)))

    pub subpools-tasks : TasksStay p.elements e p.tasks
    subpools-tasks = tasks-stay p.elements e p.tasks k.storage.tasks (λ i n. beside-subpools.0 i (omega (arith, n)))

    pub subpools-parked : SubpoolsStay p.elements e parked
    subpools-parked = subpools-stay p.elements e parked k.parked (λ i n. beside-subpools.0 i (omega (arith, n)))

    pub subpools-stand : StandsWith with-subpools parked
    subpools-stand = record {
      storage = record { unassigned = subpools-pages.stand; subpools = new; tasks = subpools-tasks.stand };
      parked = subpools-parked.stand;
      once = λ i. omega (arith, beside-subpools.1 i, subpools-pages.held i, subpools-tasks.held i, subpools-parked.held i);
    }

    pub subpools-move : Moves p.elements e (hold_with p parked) (hold_with with-subpools parked)
    subpools-move = moves-by p.elements e in_subpools (SubpoolStorage.hold e q) (hold_with p parked) (hold_with with-subpools parked) m (λ i. omega arith)
        (λ i. omega (arith, subpools-pages.held i, subpools-tasks.held i, subpools-parked.held i))

  -- a call on the unassigned pages
  module _ (q : PageSet) (region : Tables) (m : Moves p.elements e in_pages (λ i. times i (Pages.owned e q))) (new : IsPages e q) where
    abbrev pub with-pages : Parts
    with-pages = record { elements = e; region = region; unassigned = q; subpools = p.subpools; tasks = p.tasks }

    beside-pages : ((i : ℕ) → 0 < in_subpools i + in_tasks i + in_parked i → at e i ≡ at p.elements i) × ((i : ℕ) → times i (Pages.owned e q) + (in_subpools i + in_tasks i + in_parked i) ≤ 1)
    beside-pages = others-kept p.elements e in_pages (λ i. times i (Pages.owned e q)) (λ i. in_subpools i + in_tasks i + in_parked i) m (λ i. omega (arith, k.once i))
        (three-live p.elements in_subpools in_tasks in_parked live-in-subpools live-in-tasks live-in-parked) (pages-once e q new)

    pub pages-subpools : SubpoolsStay p.elements e p.subpools
    pages-subpools = subpools-stay p.elements e p.subpools k.storage.subpools (λ i n. beside-pages.0 i (omega (arith, n)))

    pub pages-tasks : TasksStay p.elements e p.tasks
    pages-tasks = tasks-stay p.elements e p.tasks k.storage.tasks (λ i n. beside-pages.0 i (omega (arith, n)))

    pub pages-parked : SubpoolsStay p.elements e parked
    pages-parked = subpools-stay p.elements e parked k.parked (λ i n. beside-pages.0 i (omega (arith, n)))

    pub pages-stand : StandsWith with-pages parked
    pages-stand = record {
      storage = record { unassigned = new; subpools = pages-subpools.stand; tasks = pages-tasks.stand };
      parked = pages-parked.stand;
      once = λ i. omega (arith, beside-pages.1 i, pages-subpools.held i, pages-tasks.held i, pages-parked.held i);
    }

    pub pages-move : Moves p.elements e (hold_with p parked) (hold_with with-pages parked)
    pages-move = moves-by p.elements e in_pages (λ i. times i (Pages.owned e q)) (hold_with p parked) (hold_with with-pages parked) m (λ i. omega arith)
        (λ i. omega (arith, pages-subpools.held i, pages-tasks.held i, pages-parked.held i))

  -- a call on the tasks
  module _ (q : Tree) (m : Moves p.elements e in_tasks (λ i. times i (TaskTree.owned e q))) (new : IsTaskTree e q) where
    abbrev pub with-tasks : Parts
    with-tasks = record { elements = e; region = p.region; unassigned = p.unassigned; subpools = p.subpools; tasks = q }

    beside-tasks : ((i : ℕ) → 0 < in_pages i + in_subpools i + in_parked i → at e i ≡ at p.elements i) × ((i : ℕ) → times i (TaskTree.owned e q) + (in_pages i + in_subpools i + in_parked i) ≤ 1)
    beside-tasks = others-kept p.elements e in_tasks (λ i. times i (TaskTree.owned e q)) (λ i. in_pages i + in_subpools i + in_parked i) m (λ i. omega (arith, k.once i))
        (three-live p.elements in_pages in_subpools in_parked live-in-pages live-in-subpools live-in-parked) (tasks-once e q new)

    pub tasks-pages : PagesStay p.elements e p.unassigned
    tasks-pages = pages-stay p.elements e p.unassigned k.storage.unassigned (λ i n. beside-tasks.0 i (omega (arith, n)))

    pub tasks-subpools : SubpoolsStay p.elements e p.subpools
    tasks-subpools = subpools-stay p.elements e p.subpools k.storage.subpools (λ i n. beside-tasks.0 i (omega (arith, n)))

    pub tasks-parked : SubpoolsStay p.elements e parked
    tasks-parked = subpools-stay p.elements e parked k.parked (λ i n. beside-tasks.0 i (omega (arith, n)))

    pub tasks-stand : StandsWith with-tasks parked
    tasks-stand = record {
      storage = record { unassigned = tasks-pages.stand; subpools = tasks-subpools.stand; tasks = new };
      parked = tasks-parked.stand;
      once = λ i. omega (arith, beside-tasks.1 i, tasks-pages.held i, tasks-subpools.held i, tasks-parked.held i);
    }

    pub tasks-move : Moves p.elements e (hold_with p parked) (hold_with with-tasks parked)
    tasks-move = moves-by p.elements e in_tasks (λ i. times i (TaskTree.owned e q)) (hold_with p parked) (hold_with with-tasks parked) m (λ i. omega arith)
        (λ i. omega (arith, tasks-pages.held i, tasks-subpools.held i, tasks-parked.held i))

  -- what one subpool has, or one cell pool, changes places with what is parked
  module _ (q others : Subpools) (m : Moves p.elements e (λ i. in_subpools i + in_parked i) (λ i. SubpoolStorage.hold e q i + SubpoolStorage.hold e others i)) (new : SubpoolStorage.Stands e q) (new-parked : SubpoolStorage.Stands e others)
      (apart : (i : ℕ) → SubpoolStorage.hold e q i + SubpoolStorage.hold e others i ≤ 1) where
    abbrev pub with-exchanged : Parts
    with-exchanged = record { elements = e; region = p.region; unassigned = p.unassigned; subpools = q; tasks = p.tasks }

    beside-exchanged : ((i : ℕ) → 0 < in_pages i + in_tasks i → at e i ≡ at p.elements i) × ((i : ℕ) → (SubpoolStorage.hold e q i + SubpoolStorage.hold e others i) + (in_pages i + in_tasks i) ≤ 1)
    beside-exchanged = others-kept p.elements e (λ i. in_subpools i + in_parked i) (λ i. SubpoolStorage.hold e q i + SubpoolStorage.hold e others i) (λ i. in_pages i + in_tasks i) m (λ i. omega (arith, k.once i))
        (two-live p.elements in_pages in_tasks live-in-pages live-in-tasks) apart

    pub exchanged-pages : PagesStay p.elements e p.unassigned
    exchanged-pages = pages-stay p.elements e p.unassigned k.storage.unassigned (λ i n. beside-exchanged.0 i (omega (arith, n)))

    pub exchanged-tasks : TasksStay p.elements e p.tasks
    exchanged-tasks = tasks-stay p.elements e p.tasks k.storage.tasks (λ i n. beside-exchanged.0 i (omega (arith, n)))

    pub exchanged-stand : StandsWith with-exchanged others
    exchanged-stand = record {
      storage = record { unassigned = exchanged-pages.stand; subpools = new; tasks = exchanged-tasks.stand };
      parked = new-parked;
      once = λ i. omega (arith, beside-exchanged.1 i, exchanged-pages.held i, exchanged-tasks.held i);
    }

    pub exchanged-move : Moves p.elements e (hold_with p parked) (hold_with with-exchanged others)
    exchanged-move = moves-by p.elements e (λ i. in_subpools i + in_parked i) (λ i. SubpoolStorage.hold e q i + SubpoolStorage.hold e others i) (hold_with p parked) (hold_with with-exchanged others) m (λ i. omega arith)
        (λ i. omega (arith, exchanged-pages.held i, exchanged-tasks.held i))
