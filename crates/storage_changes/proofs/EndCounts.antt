-- How many records tasks that end take.
use Rattle.std.proofs.Common.{◌≡◌, ℕ, ◌+◌, ◌*◌, List, [], ◌∷◌, ◌++◌, length, refl, arith}
use Rattle.std.specs.List.{flat_map}
use Rattle.std.proofs.lemmas.List.{length-append, length-map}
use Rattle.run_set.specs.Runs.{Run}
use Rattle.vsm_model.specs.declared.Subpool.{Subpool}
use Rattle.subpool_storage.specs.Extents.{extents}
use Rattle.subpool_storage.specs.Subpools.{Subpools}
use Rattle.storage_changes.specs.declared.record.Record.{Record}
use Rattle.storage_changes.specs.declared.record.Record.TheVariants.{Turn}
use Rattle.storage_changes.specs.Changes.{unassigned_records}
use Rattle.storage_changes.specs.State.{StorageState}
use Rattle.storage_changes.specs.Ending.{owned_by_these, emptying_records, released_records, rows_unseen, unshared, unshared_records, removed, removed_records, ended_records}
use Rattle.storage_changes.specs.Ending.{end_records, extents_ended, sights_ended}
use Rattle.storage_changes.specs.TaskLaws.{EndsAreShort}

unassigned-length : (rs : List Run) → length (unassigned_records rs) ≡ length rs
unassigned-length [] = refl
unassigned-length (r ∷ rs) = omega (arith, unassigned-length rs)

module _ (m : Subpools) where
  released-length : (ps : List Subpool) → length (flat_map (emptying_records m) ps) ≡ length ps + length (flat_map (extents m) ps)
  released-length [] = refl
  released-length (p ∷ ps) = omega (
    arith,
    length-append (emptying_records m p) (flat_map (emptying_records m) ps),
    length-append (extents m p) (flat_map (extents m) ps),
    unassigned-length (extents m p),
    released-length ps,
  )

ended-length : (m : StorageState) (tasks : List ℕ) → length (flat_map (ended_records m) tasks) ≡ 5 * length tasks
ended-length m [] = refl
ended-length m (task ∷ tasks) = omega (arith, length-append (ended_records m task) (flat_map (ended_records m) tasks), ended-length m tasks)

module _ (m : StorageState) (ended : List ℕ) (next : ℕ) where
  abbrev owned : List Subpool
  owned = owned_by_these m.subpools ended

  abbrev seen_no_more : List Record
  seen_no_more = released_records m.subpools ended ++ (Turn (record { task = next }) ∷ unshared_records m.subpools ended)

  all-length : length (end_records m ended next) ≡ 1 + 5 * length ended + 2 * length owned + extents_ended m.subpools ended + sights_ended m.subpools ended
  all-length = omega (
    arith,
    length-append (seen_no_more ++ removed_records m.subpools ended) (flat_map (ended_records m) ended),
    length-append seen_no_more (removed_records m.subpools ended),
    length-append (released_records m.subpools ended) (Turn (record { task = next }) ∷ unshared_records m.subpools ended),
    released-length m.subpools owned,
    length-map (rows_unseen m.subpools ended) unshared,
    length-map owned removed,
    ended-length m ended,
  )

pub ends_are_short : EndsAreShort
ends_are_short m ended next =
    let records = all-length m ended next in
    let released = released-length m.subpools (owned_by_these m.subpools ended) in
    (records, omega (arith, released), omega (arith, records, released))
