-- The id of a cell pool that is created is none's of the storage.
use Rattle.std.proofs.Common.{◌≡◌, ◌<◌, ◌==◌, Option, Some, None, refl, ap, ◌∙◌, arith}
use Rattle.std.proofs.lemmas.Bool.{eq-eqb}
use Rattle.cell_pool.specs.Pools.{Pool}
use Rattle.subpool_storage.specs.Laws.{PoolsAreHeld}
use Rattle.subpool_storage.specs.SubpoolStorage.{subpools_of}
use Rattle.subpool_storage.specs.SubpoolStorage
use Rattle.storage_changes.specs.State.{StorageState}
use Rattle.storage_changes.specs.Changes.{Change, change_building}
use Rattle.storage_changes.proofs.Cases.{cond-in}
use Rattle.storage_swap.specs.declared.storage.Parts.{Parts}
use Rattle.storage_swap.specs.Storage.{state_of}
use Rattle.storage_swap.specs.declared.change.Change.{Change as TheChange}
use Rattle.storage_swap.specs.Reserve.{Reserves}

-- Otherwise both held its element.
pub id-is-new : PoolsAreHeld → (p t : Parts) (d : Change) (c : TheChange) (pool : Pool) → Reserves p (change_building pool d) c t → (state_of p).subpools.cells pool.id ≡ None
id-is-new held p t d c pool r = go ((state_of p).subpools.cells pool.id) refl where
  parked : (subpools_of t.elements c.parked).cells pool.id ≡ Some pool
  parked = ap (λ (z : Change). z.parked.cells pool.id) r.meaning ∙ cond-in (pool.id == pool.id) (Some pool) (d.parked.cells pool.id) (eq-eqb pool.id pool.id refl)

  go : (o : Option Pool) → (state_of p).subpools.cells pool.id ≡ o → (state_of p).subpools.cells pool.id ≡ None
  go None e = e
  go (Some q) e =
      let here : (subpools_of t.elements t.subpools).cells pool.id ≡ Some q = ap (λ (z : StorageState). z.subpools.cells pool.id) r.shows ∙ e in
      let a : 0 < SubpoolStorage.hold t.elements t.subpools pool.id = held t.elements t.subpools pool.id q r.ready.stands.storage.subpools here in
      let b : 0 < SubpoolStorage.hold t.elements c.parked pool.id = held t.elements c.parked pool.id pool r.ready.stands.parked parked in
      absurd (omega (arith, a, b, r.ready.stands.once pool.id))
