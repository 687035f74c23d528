-- Laws of subpools with their storage.
use Rattle.std.proofs.Common.{◌≡◌, ℕ, ◌+◌, ◌<◌, ◌≤◌, true, false, ◌==◌, ◌⊎◌, inl, inr, Option, Some, None, IsSome, refl, ap, ◌∙◌, arith}
use Rattle.vsm_elements.specs.Store.{Store, at, among}
use Rattle.vsm_elements.specs.Owners.{times}
use Rattle.vsm_elements.proofs.ChainFrame.{false_if}
use Rattle.vsm_elements.proofs.TimesLemmas.{times-none}
use Rattle.subpool_set.proofs.KeyLemmas.{not_both}
use Rattle.subpool_set.specs.declared.set.SubpoolSet.{SubpoolSet}
use Rattle.subpool_set.specs.Pools.{Pool}
use Rattle.subpool_set.specs.QueueElements.{ids_of}
use Rattle.subpool_set.specs.SubpoolSet.{sight, pool, queue_ids, IsSubpoolSet}
use Rattle.subpool_set.proofs.LawLemmas.{pools_are_named, queue_ids_are}
use Rattle.subpool_storage.specs.declared.storage.SubpoolStorage.{SubpoolStorage}
use Rattle.subpool_storage.specs.SubpoolStorage.{page_in, free_in, subpools_of, hold_queues, hold, Stands, Becomes}
use Rattle.subpool_storage.proofs.SubpoolLemmas.{same_subpools}
use Rattle.vsm_elements.proofs.MoveLemmas.{none-or-some, others-kept}
use Rattle.vsm_model.specs.Search.{holds}
use Rattle.subpool_set.proofs.KeyLemmas.{eqb_refl, none_some}
use Rattle.subpool_set.proofs.LawLemmas.{sets_stand, sights_are_in_range}
use Rattle.subpool_storage.specs.Subpools.{Subpools}
use Rattle.cell_pool.specs.Laws.{AreSame}
use Rattle.cell_pool.proofs.LawLemmas.{pools_are_one, pools_have_cells, ids_are_small, names_are_single}
use Rattle.subpool_storage.specs.Laws.{StorageOwns, SubpoolsAreThere, StorageStays, CellPoolsAreNamed, PoolsAreHeld}
use Rattle.subpool_storage.proofs.KeptLemmas.{pools_kept, ids_are_owned}
use Rattle.subpool_storage.proofs.LiftLemmas.{SetSame, hold_cells, set_live, cells_live, set_same}

pub hold_once : (s : Store) (q : SubpoolStorage) → Stands s q → (i : ℕ) → hold s q i ≤ 1
unfolding Stands hold
hold_once s q h i = h.apart i

pub hold_live : (s : Store) (q : SubpoolStorage) → Stands s q → (i : ℕ) → 0 < hold s q i → IsSome (at s i)
unfolding Stands hold
hold_live s q h i p = elim (none-or-some (hold_queues s q i)) [
  | inl z ↦ cells_live s q.cells h.cells i (omega (arith, p, z))
  | inr z ↦ set_live s q (record { set = h.set; queues = h.queues }) i z
]

pub storage_owns : StorageOwns
storage_owns s q h = (hold_once s q h, hold_live s q h)

page_some : (s : Store) (y : Option Pool) (x : ℕ) → page_in s y x ≡ true → IsSome y
page_some s None x e = absurd (not_both false e refl)
page_some s (Some p) x e = refl

free_some : (s : Store) (y : Option Pool) (d : ℕ) → free_in s y d ≡ true → IsSome y
free_some s None d e = absurd (not_both false e refl)
free_some s (Some p) d e = refl

own_seen : (s : Store) (q : SubpoolSet) (n o : ℕ) → IsSubpoolSet s q → (y : Option Pool) → pool s q n o ≡ y → IsSome y → holds (λ owner. owner == o) (sight s q o n) ≡ true
own_seen s q n o h None e some = absurd (not_both false some refl)
own_seen s q n o h (Some p) e some = ap (holds (λ owner. owner == o)) (pools_are_named s q n o p h e).3 ∙ eqb_refl o

pub subpools_are_there : SubpoolsAreThere
unfolding Stands subpools_of
subpools_are_there s q h = (
  (λ t n k. sights_are_in_range s q.set t n h.set k),
  (sets_stand s q.set h.set).1,
  (λ p x e. own_seen s q.set p.number p.owner h.set (pool s q.set p.number p.owner) refl (page_some s (pool s q.set p.number p.owner) x e)),
  (λ p d e. own_seen s q.set p.number p.owner h.set (pool s q.set p.number p.owner) refl (free_some s (pool s q.set p.number p.owner) d e)),
)

pub storage_stays : StorageStays
unfolding Stands hold subpools_of
storage_stays s t q h same =
    let r : SetSame s t q = set_same s t q (record { set = h.set; queues = h.queues }) (λ i p. same i (omega (arith, p))) in
    let k : AreSame s t q.cells = pools_kept s t q.cells h.cells (λ i p. same i (omega (arith, p))) in
    let own : (i : ℕ) → hold_cells t q i ≡ hold_cells s q i = λ i. ap (times i) k.elements in (
      record { set = r.stands.set; queues = r.stands.queues; cells = k.stand; apart = λ i. omega (arith, h.apart i, r.count i, own i) },
      same_subpools (subpools_of t q) (subpools_of s q) r.sights r.pages r.free k.ids,
      λ i. omega (arith, r.count i, own i),
    )

-- a cell pool is found under its id, a number of 32 bits, and no other one has its name
pub cell_pools_are_named : CellPoolsAreNamed
unfolding Stands subpools_of
cell_pools_are_named s q h = record {
  ids = λ i p e. ((pools_are_one s q.cells h.cells).ids i p e).0;
  high = λ i p e. ids_are_small s q.cells i p h.cells e;
  once = λ i j p r e w. names_are_single s q.cells i j p r h.cells e w;
  cells = λ i p e. pools_have_cells s q.cells i p h.cells e;
}

-- a cell pool's id is that of an element of its own
pub pools_are_held : PoolsAreHeld
unfolding subpools_of hold
pools_are_held s q id p h e = omega (arith, ids_are_owned s q.cells id p e)

-- a set without subpools has no queues
pub none_held : (s : Store) (q : SubpoolSet) → IsSubpoolSet s q → ((n o : ℕ) → pool s q n o ≡ None) → (i : ℕ) → times i (queue_ids s q) ≡ 0
none_held s q h none i = times-none i (queue_ids s q) (false_if (among i (queue_ids s q)) (λ m. bare ((queue_ids_are s q i h).0 m))) where
  bare : (n : ℕ) × (o : ℕ) × (p : Pool) × ((pool s q n o ≡ Some p) × (among i (ids_of s p.queues) ≡ true)) → ⊥
  bare w = none_some (pool s q w.0 w.1) w.2 (none w.0 w.1) w.3.0

-- a call on one storage leaves another that holds none of its elements
pub beside_after : (s t : Store) (q r other : SubpoolStorage) (m : Subpools) → Stands s other → ((i : ℕ) → hold s q i + hold s other i ≤ 1) → Becomes s t q r m → Stands t other × ((i : ℕ) → hold t r i + hold t other i ≤ 1)
beside_after s t q r other m h once b =
    let k = others-kept s t (hold s q) (hold t r) (hold s other) b.moves once (hold_live s other h) (hold_once t r b.stands) in
    let stay = storage_stays s t other h k.0 in
    (stay.0, λ i. omega (arith, k.1 i, stay.2 i))

-- a subpool that no task can see has no page
pub out_of_range : (s : Store) (q : SubpoolStorage) (n o x : ℕ) → Stands s q → (128 ≤ n) ⊎ (65 ≤ o) → (subpools_of s q).pages (record { number = n; owner = o }) x ≡ false
out_of_range s q n o x h far = false_if ((subpools_of s q).pages (record { number = n; owner = o }) x) (λ e.
    (let k = subpools_are_there s q h in
    let r : (1 ≤ o) × (o ≤ 64) × (n ≤ 127) = k.0 o n (seen ((subpools_of s q).sight o n) (k.2 (record { number = n; owner = o }) x e)) in
    elim far [ inl w ↦ absurd (omega (arith, w, r.2)) | inr w ↦ absurd (omega (arith, w, r.1)) ])) where
      seen : (y : Option ℕ) → holds (λ owner. owner == o) y ≡ true → IsSome y
      seen None e = absurd (not_both false e refl)
      seen (Some z) e = refl
