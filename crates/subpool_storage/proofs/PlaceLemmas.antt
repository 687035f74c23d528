-- The subpool before a place, and the subpool of an index.
use Rattle.std.proofs.Common.{◌≡◌, ℕ, List, Option, Some, sym, ap, ◌∙◌}
use Rattle.std.specs.Prelude.{option_map, slice_get}
use Rattle.std.proofs.lemmas.Option.{slice_get-map}
use Rattle.vsm_elements.specs.Store.{Store}
use Rattle.subpool_set.specs.declared.places.SubpoolPlace.{SubpoolPlace}
use Rattle.subpool_set.specs.declared.queues.Queues.{Queues}
use Rattle.subpool_set.specs.Pools.{Pool, in_order, ids_in_order}
use Rattle.subpool_set.specs.SubpoolSet.{pool, pool_before, number_of, owner_of}
use Rattle.vsm_model.specs.declared.Subpool.{Subpool}
use Rattle.subpool_storage.specs.declared.storage.SubpoolStorage.{SubpoolStorage}
use Rattle.subpool_storage.specs.Order.{subpools_in_order}
use Rattle.subpool_storage.specs.SubpoolStorage.{subpools_of, named, subpool_before, Stands}
use Rattle.subpool_storage.proofs.OrderLemmas.{all_named}
use Rattle.subpool_storage.proofs.PutLemmas.{pool_there}

-- the subpool of the id before a place exists with its queues
pub before_there : (s : Store) (q : SubpoolStorage) (place : SubpoolPlace) (id : ℕ) (queues : Queues) → id ≡ pool_before place
    → pool s q.set (number_of s id) (owner_of s id) ≡ Some (record { id = id; queues = queues })
    → pool s q.set (subpool_before s place).number (subpool_before s place).owner ≡ Some (record { id = id; queues = queues })
unfolding subpool_before
before_there s q place id queues e there = pool_there s q.set (number_of s (pool_before place)) (owner_of s (pool_before place)) id queues (ap (number_of s) e) (ap (owner_of s) e) there

module _ (s : Store) (q : SubpoolStorage) (h : Stands s q) where
  -- the subpool of an index is that of the id of this index
  pub at_named : (i : ℕ) (o : Option ℕ) → o ≡ option_map (λ (p : Pool). p.id) (slice_get (in_order (pool s q.set)) i)
      → option_map (named s) o ≡ slice_get (subpools_in_order (subpools_of s q)) i
  at_named i o e =
      ap (option_map (named s)) (e ∙ sym (slice_get-map (λ (p : Pool). p.id) (in_order (pool s q.set)) i))
      ∙ sym (slice_get-map (named s) (ids_in_order (pool s q.set)) i)
      ∙ ap (λ (xs : List Subpool). slice_get xs i) (all_named s q h)
