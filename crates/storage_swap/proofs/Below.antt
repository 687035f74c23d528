-- Laws of the crates below, under one roof.
use Rattle.std.proofs.Common.{◌≡◌, ℕ, ◌<◌}
use Rattle.vsm_elements.specs.Store.{Store, at}
use Rattle.vsm_elements.specs.Owners.{times}
use Rattle.task_tree.specs.declared.tree.TaskTree.{TaskTree}
use Rattle.task_tree.specs.TaskTree.{owned, IsTaskTree}
use Rattle.subpool_storage.specs.Laws.{StorageOwns, StorageStays}
use Rattle.subpool_storage.proofs.LawLemmas.{storage_owns, storage_stays}
use Rattle.storage_swap.specs.StructureKept.{TasksStay, tasks-stay}

pub trees-kept : (s t : Store) (q : TaskTree) → IsTaskTree s q → ((i : ℕ) → 0 < times i (owned s q) → at t i ≡ at s i) → TasksStay s t q
trees-kept = tasks-stay

pub storage-owns : StorageOwns
storage-owns = storage_owns

pub storage-stays : StorageStays
storage-stays = storage_stays
