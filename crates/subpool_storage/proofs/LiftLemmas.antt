-- What a call on the set and its queues leaves of the whole, and what one on cell pools does.
use Rattle.std.proofs.Common.{◌≡◌, ℕ, ◌+◌, ◌<◌, ◌≤◌, true, [], ◌++◌, Option, IsSome, Some, refl, sym, ap, ◌∙◌, arith, subst}
use Rattle.vsm_elements.specs.Store.{Store, at, among, made_and_aside}
use Rattle.vsm_elements.specs.Ownership.{Leaves}
use Rattle.vsm_elements.specs.Owners.{times, Moves}
use Rattle.vsm_elements.proofs.TimesLemmas.{times-append, times-some, some-from, times-once}
use Rattle.vsm_elements.proofs.MoveLemmas.{none-or-some, others-kept, moves-of, moves-by, moves-like, moves-follow}
use Rattle.vsm_model.specs.declared.Subpool.{Subpool}
use Rattle.subpool_set.specs.Pools.{Pool}
use Rattle.subpool_set.specs.QueueElements.{ids_of}
use Rattle.subpool_set.specs.SubpoolSet.{sight, pool, owned, queue_ids, IsSubpoolSet, QueuesStand}
use Rattle.subpool_set.proofs.LawLemmas.{queue_ids_are, sets_stand, sets_kept, queues_kept}
use Rattle.subpool_set.proofs.CountLemmas.{ids_once}
use Rattle.cell_pool.specs.declared.pools.CellPools.{CellPools}
use Rattle.cell_pool.specs.CellPools.{by_id, IsCellPools}
use Rattle.cell_pool.specs.CellPools
use Rattle.cell_pool.specs.Laws.{AreSame}
use Rattle.cell_pool.proofs.LawLemmas.{pools_own}
use Rattle.subpool_storage.specs.declared.storage.SubpoolStorage.{SubpoolStorage}
use Rattle.subpool_storage.specs.Subpools.{Subpools}
use Rattle.subpool_storage.specs.SubpoolStorage.{page_in, free_in, subpools_of, hold_queues, hold, Stands, Becomes}
use Rattle.subpool_storage.proofs.SubpoolLemmas.{same_subpools}
use Rattle.subpool_storage.proofs.ViewLemmas.{page_kept, free_kept}
use Rattle.subpool_storage.proofs.KeptLemmas.{pools_kept}
use Rattle.std.proofs.Common.{inl, inr}

-- the set and its queues are intact, whatever the cell pools
pub record SetStands (s : Store) (q : SubpoolStorage) : Type 0 where
  pub set : IsSubpoolSet s q.set
  pub queues : QueuesStand s q.set

-- the set and its queues are what they were
pub record SetSame (s t : Store) (q : SubpoolStorage) : Type 0 where
  pub stands : SetStands t q
  pub sights : (a b : ℕ) → sight t q.set a b ≡ sight s q.set a b
  pub pages : (p : Subpool) (x : ℕ) → page_in t (pool t q.set p.number p.owner) x ≡ page_in s (pool s q.set p.number p.owner) x
  pub free : (p : Subpool) (d : ℕ) → free_in t (pool t q.set p.number p.owner) d ≡ free_in s (pool s q.set p.number p.owner) d
  pub count : (i : ℕ) → hold_queues t q i ≡ hold_queues s q i

-- they are those of m, and only their elements changed
pub record SetBecomes (s t : Store) (q r : SubpoolStorage) (m : Subpools) : Type 0 where
  pub stands : SetStands t r
  pub moves : Moves s t (hold_queues s q) (hold_queues t r)
  pub as_many : made_and_aside t ≡ made_and_aside s
  pub sights : (a b : ℕ) → sight t r.set a b ≡ m.sight a b
  pub pages : (p : Subpool) (x : ℕ) → page_in t (pool t r.set p.number p.owner) x ≡ m.pages p x
  pub free : (p : Subpool) (d : ℕ) → free_in t (pool t r.set p.number p.owner) d ≡ m.free p d

abbrev pub hold_cells : Store → SubpoolStorage → ℕ → ℕ
hold_cells s q i = times i (CellPools.owned s q.cells)

pub set_of : (s : Store) (q : SubpoolStorage) → Stands s q → SetStands s q
unfolding Stands
set_of s q h = record { set = h.set; queues = h.queues }

pub cells_of : (s : Store) (q : SubpoolStorage) → Stands s q → IsCellPools s q.cells
unfolding Stands
cells_of s q h = h.cells

pub sets_apart : (s : Store) (q r : SubpoolStorage) → ((i : ℕ) → hold s q i + hold s r i ≤ 1) → (i : ℕ) → hold_queues s q i + hold_queues s r i ≤ 1
unfolding hold
sets_apart s q r once i = omega (arith, once i)

pub set_once : (s : Store) (q : SubpoolStorage) → SetStands s q → (i : ℕ) → hold_queues s q i ≤ 1
set_once s q h i = (ids_once s q.set h.set h.queues).0 i

pub set_live : (s : Store) (q : SubpoolStorage) → SetStands s q → (i : ℕ) → 0 < hold_queues s q i → IsSome (at s i)
set_live s q h i p = elim (none-or-some (times i (owned s q.set))) [
  | inl z ↦ (ids_once s q.set h.set h.queues).1 i (some-from i (queue_ids s q.set) (omega (arith, p, z)))
  | inr z ↦ (sets_stand s q.set h.set).0.live i (some-from i (owned s q.set) z)
]

pub cells_live : (s : Store) (c : CellPools) → IsCellPools s c → (i : ℕ) → 0 < times i (CellPools.owned s c) → IsSome (at s i)
cells_live s c h i p = (pools_own s c h).live i (some-from i (CellPools.owned s c) p)

pub cells_once : (s : Store) (c : CellPools) → IsCellPools s c → (i : ℕ) → times i (CellPools.owned s c) ≤ 1
cells_once s c h i = times-once i (CellPools.owned s c) (pools_own s c h).distinct

pub set_same : (s t : Store) (q : SubpoolStorage) → SetStands s q → ((i : ℕ) → 0 < hold_queues s q i → at t i ≡ at s i) → SetSame s t q
set_same s t q h same =
    let own : (i : ℕ) → among i (owned s q.set) ≡ true → at t i ≡ at s i = λ i m. same i (omega (arith, times-some i (owned s q.set) m)) in
    let ids : (i : ℕ) → among i (queue_ids s q.set) ≡ true → at t i ≡ at s i = λ i m. same i (omega (arith, times-some i (queue_ids s q.set) m)) in
    let r = sets_kept s t q.set h.set own in
    let k = queues_kept s t q.set h.set h.queues own ids in
    let still : (m l : ℕ) (p : Pool) → pool s q.set m l ≡ Some p → (i : ℕ) → among i (ids_of s p.queues) ≡ true → at t i ≡ at s i = λ m l p e i z. ids i ((queue_ids_are s q.set i h.set).1 m l p e z) in
    record {
      stands = record { set = r.0; queues = k.0 };
      sights = r.1;
      pages = λ p x. ap (λ (z : Option Pool). page_in t z x) (r.2 p.number p.owner) ∙ page_kept s t (pool s q.set p.number p.owner) (h.queues.stand p.number p.owner) (still p.number p.owner) x;
      free = λ p d. ap (λ (z : Option Pool). free_in t z d) (r.2 p.number p.owner) ∙ free_kept s t (pool s q.set p.number p.owner) (h.queues.stand p.number p.owner) (still p.number p.owner) d;
      count = λ i. omega (arith, ap (times i) r.3, ap (times i) k.1);
    }

-- a call on the set and its queues is one on the whole, and leaves the cell pools unchanged
pub lifted : (s t : Store) (q r : SubpoolStorage) (m : Subpools) → Stands s q → r.cells ≡ q.cells → ((id : ℕ) → (subpools_of s q).cells id ≡ m.cells id) → SetBecomes s t q r m → Becomes s t q r m
unfolding Stands hold subpools_of
lifted s t q r m h e cells b =
    let k = others-kept s t (hold_queues s q) (hold_queues t r) (hold_cells s q) b.moves h.apart (cells_live s q.cells h.cells) (set_once t r b.stands) in
    let a : AreSame s t q.cells = pools_kept s t q.cells h.cells k.0 in
    let own : (i : ℕ) → hold_cells t r i ≡ hold_cells s q i = λ i. ap (λ (z : CellPools). times i (CellPools.owned t z)) e ∙ ap (times i) a.elements in
    let P : CellPools → Type 0 = λ z. IsCellPools t z in
    record {
      stands = record {
        set = b.stands.set;
        queues = b.stands.queues;
        cells = subst P (sym e) a.stand;
        apart = λ i. omega (arith, k.1 i, own i);
      };
      moves = moves-by s t (hold_queues s q) (hold_queues t r) (hold s q) (hold t r) b.moves (λ i. omega arith) (λ i. omega (arith, own i));
      as_many = b.as_many;
      subpools = same_subpools (subpools_of t r) m b.sights b.pages b.free (λ id. ap (λ (z : CellPools). by_id t z id) e ∙ a.ids id ∙ cells id);
    }

-- a call on the cell pools is one on the whole, and leaves the set and its queues unchanged
pub cells_become : (s t : Store) (q : SubpoolStorage) (c : CellPools) (m : Subpools) → Stands s q → IsCellPools t c → Leaves s t (CellPools.owned s q.cells) (CellPools.owned t c)
    → ((id : ℕ) → by_id t c id ≡ m.cells id) → m ≡ record (subpools_of s q) { cells = m.cells } → Becomes s t q (record { set = q.set; cells = c }) m
unfolding Stands hold subpools_of
cells_become s t q c m h stand leaves cells whole =
    let moves : Moves s t (λ i. times i (CellPools.owned s q.cells)) (λ i. times i (CellPools.owned t c)) = moves-of s t (CellPools.owned s q.cells) (CellPools.owned t c) leaves in
    let k = others-kept s t (λ i. times i (CellPools.owned s q.cells)) (λ i. times i (CellPools.owned t c)) (hold_queues s q) moves (λ i. omega (arith, h.apart i)) (set_live s q (record { set = h.set; queues = h.queues })) (cells_once t c stand) in
    let a : SetSame s t q = set_same s t q (record { set = h.set; queues = h.queues }) k.0 in
    record {
      stands = record { set = a.stands.set; queues = a.stands.queues; cells = stand; apart = λ i. omega (arith, k.1 i, a.count i) };
      moves = moves-by s t (λ i. times i (CellPools.owned s q.cells)) (λ i. times i (CellPools.owned t c)) (hold s q) (hold t (record { set = q.set; cells = c })) moves (λ i. omega arith) (λ i. omega (arith, a.count i));
      as_many = leaves.as_many;
      subpools = same_subpools (subpools_of t (record { set = q.set; cells = c })) (record (subpools_of s q) { cells = m.cells }) a.sights a.pages a.free cells ∙ sym whole;
    }

-- one call, and then another
pub follow : (s r t : Store) (a b c : SubpoolStorage) (m n : Subpools) → Becomes s r a b m → Becomes r t b c n → Becomes s t a c n
follow s r t a b c m n first second = record {
  stands = second.stands;
  moves = moves-follow s r t (hold s a) (hold r b) (hold t c) first.moves second.moves;
  as_many = second.as_many ∙ first.as_many;
  subpools = second.subpools;
}

-- the set and its queues are discarded first, and the cell pools are still intact then
module _ (s t : Store) (q : SubpoolStorage) (h : Stands s q) (leaves : Leaves s t (owned s q.set ++ queue_ids s q.set) []) where
  gone_moves : Moves s t (hold_queues s q) (λ i. 0)
  gone_moves = moves-like s t (λ i. times i (owned s q.set ++ queue_ids s q.set)) (λ i. 0) (hold_queues s q) (λ i. 0) (moves-of s t (owned s q.set ++ queue_ids s q.set) [] leaves) (λ i. sym (times-append i (owned s q.set) (queue_ids s q.set))) (λ i. refl)

  pub set_gone : AreSame s t q.cells
  unfolding Stands
  set_gone = pools_kept s t q.cells h.cells (others-kept s t (hold_queues s q) (λ i. 0) (hold_cells s q) gone_moves h.apart (cells_live s q.cells h.cells) (λ i. omega arith)).0

  pub set_gone_moves : (u : Store) → Leaves t u (CellPools.owned t q.cells) [] → Moves s u (hold s q) (λ i. 0)
  unfolding hold
  set_gone_moves u last = moves-follow s t u (hold s q) (hold_cells t q) (λ i. 0)
      (moves-by s t (hold_queues s q) (λ i. 0) (hold s q) (hold_cells t q) gone_moves (λ i. omega arith) (λ i. omega (arith, ap (times i) set_gone.elements)))
      (moves-of t u (CellPools.owned t q.cells) [] last)
