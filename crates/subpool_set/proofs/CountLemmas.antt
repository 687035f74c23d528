-- How often the queues of all subpools have an id.
use Rattle.std.proofs.Common.{◌≡◌, ℕ, ◌+◌, ◌≤◌, Bool, true, false, ◌==◌, inl, inr, List, [], ◌∷◌, refl, ap, arith}
use Rattle.std.proofs.lemmas.Bool.{cond-false, cond-true}
use Rattle.vsm_elements.specs.Store.{Store}
use Rattle.vsm_elements.specs.Ownership.{Apart}
use Rattle.vsm_elements.specs.Owners.{times}
use Rattle.vsm_elements.proofs.TimesLemmas.{times-append, times-none, some-from, times-once}
use Rattle.vsm_elements.proofs.MoveLemmas.{none-or-some}
use Rattle.row_table.specs.declared.row.Row.{Row}
use Rattle.row_table.specs.Rows.{word}
use Rattle.row_table.specs.RowTable.{rows}
use Rattle.row_table.proofs.TableLemmas.{tables_stand}
use Rattle.descriptor_queue.specs.Extents
use Rattle.descriptor_queue.proofs.PageLemmas.{extents_stand}
use Rattle.free_queue.specs.FreeQueue
use Rattle.free_queue.proofs.QueueLemmas.{queues_stand}
use Rattle.subpool_set.specs.declared.queues.Queues.{Queues}
use Rattle.subpool_set.specs.Kept.{queues_of}
use Rattle.subpool_set.specs.Heads.{ids_in, ids_in_all, AllStand}
use Rattle.subpool_set.specs.QueueElements.{ids_of, StandApart}
use Rattle.subpool_set.specs.SubpoolSet.{pool, owned, queue_ids, IsSubpoolSet}
use Rattle.subpool_set.specs.Laws.{QueueIdsAreOnce}
use Rattle.subpool_set.proofs.HeadLemmas.{all_live}
use Rattle.subpool_set.proofs.StandLemmas.{table_stands}

-- two lists that have no id in common
join_once : (i : ℕ) (xs ys : List ℕ) → times i xs ≤ 1 → times i ys ≤ 1 → Apart xs ys → times i xs + times i ys ≤ 1
join_once i xs ys h k apart = elim (none-or-some (times i xs)) [
  | inl z ↦ omega (arith, z, k)
  | inr z ↦ omega (arith, h, times-none i ys (apart i (some-from i xs z)))
]

pub both_once : (s : Store) (q : Queues) → StandApart s q → (i : ℕ) → times i (ids_of s q) ≤ 1
both_once s q h i =
    let k : times i (Extents.owned s q.extents) + times i (FreeQueue.owned s q.free) ≤ 1 = join_once i (Extents.owned s q.extents) (FreeQueue.owned s q.free) (times-once i (Extents.owned s q.extents) (extents_stand s q.extents h.extents).1.distinct) (times-once i (FreeQueue.owned s q.free) (queues_stand s q.free h.free).1.distinct) h.apart in
    omega (arith, k, times-append i (Extents.owned s q.extents) (FreeQueue.owned s q.free))

abbrev is_own : Row → Bool
is_own r = word r.words 0 == word r.words 2

one_once : (s : Store) (r : Row) → (is_own r ≡ true → StandApart s (queues_of r.words)) → (i : ℕ) → times i (ids_in s r) ≤ 1
one_once s r stand i = go (is_own r) refl where
  go : (b : Bool) → is_own r ≡ b → times i (ids_in s r) ≤ 1
  go true e = omega (arith, ap (times i) (cond-true (is_own r) (ids_of s (queues_of r.words)) [] e), both_once s (queues_of r.words) (stand e) i)
  go false e = omega (arith, ap (times i) (cond-false (is_own r) (ids_of s (queues_of r.words)) [] e))

all_once : (s : Store) (rs : List Row) → AllStand s rs → (i : ℕ) → times i (ids_in_all s rs) ≤ 1
all_once s [] h i = omega arith
all_once s (r ∷ rs) h i = omega (arith, join_once i (ids_in s r) (ids_in_all s rs) (one_once s r h.0 i) (all_once s rs h.2 i) h.1, times-append i (ids_in s r) (ids_in_all s rs))

pub ids_once : QueueIdsAreOnce
unfolding pool owned queue_ids IsSubpoolSet
ids_once s q h was =
    let k : AllStand s (rows s q.rows) × Apart (owned s q) (ids_in_all s (rows s q.rows)) = table_stands s q.rows (owned s q) h.table was in
    ((λ i. join_once i (owned s q) (queue_ids s q) (times-once i (owned s q) (tables_stand s q.rows h.table).0.distinct) (all_once s (rows s q.rows) k.0 i) k.1), all_live s (rows s q.rows) k.0)
