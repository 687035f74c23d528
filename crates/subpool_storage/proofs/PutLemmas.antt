-- The queues of one subpool are turned, and their heads are written.
use Rattle.std.proofs.Common.{◌≡◌, ℕ, ◌+◌, ◌<◌, ◌≤◌, Bool, true, false, ◌&&◌, ◌==◌, inl, inr, Option, Some, IsSome, refl, sym, ap, ◌∙◌, arith, subst}
use Rattle.std.proofs.lemmas.Bool.{cond-true}
use Rattle.std.specs.Prelude.{if◌then◌else◌}
use Rattle.vsm_elements.specs.declared.element.Element.{Element}
use Rattle.vsm_elements.specs.Store.{Store, at, among}
use Rattle.vsm_elements.specs.Ownership.{Leaves}
use Rattle.vsm_elements.specs.Owners.{times, Moves}
use Rattle.vsm_elements.proofs.ChainFrame.{stays, false_if}
use Rattle.vsm_elements.proofs.TimesLemmas.{times-none, times-some}
use Rattle.vsm_elements.proofs.MoveLemmas.{moves-of, moves-by, moves-follow}
use Rattle.run_set.specs.Runs.{Run, inside}
use Rattle.descriptor_queue.specs.declared.extents.Extents.{Extents}
use Rattle.free_queue.specs.declared.queue.FreeQueue.{FreeQueue}
use Rattle.descriptor_queue.specs.Extents.{has_page, IsExtents}
use Rattle.descriptor_queue.specs.Extents
use Rattle.free_queue.specs.FreeQueue.{is_free, IsFreeQueue}
use Rattle.free_queue.specs.FreeQueue
use Rattle.subpool_set.proofs.KeyLemmas.{same_key}
use Rattle.subpool_set.proofs.KeyLemmas.{either, not_both, same_self}
use Rattle.vsm_model.specs.declared.Subpool.{Subpool}
use Rattle.vsm_model.specs.Subpools.{same_subpool}
use Rattle.subpool_set.specs.declared.queues.Queues.{Queues}
use Rattle.subpool_set.specs.declared.set.SubpoolSet.{SubpoolSet}
use Rattle.subpool_set.specs.Pools.{Pool, pools_with}
use Rattle.subpool_set.specs.QueueElements.{ids_of, StandApart, AreApart}
use Rattle.subpool_set.specs.SubpoolSet.{sight, pool, owned, queue_ids, number_of, owner_of, IsSubpoolSet, IsSubpool, QueuesStand}
use Rattle.subpool_set.proofs.HeadLemmas.{Apart-swap, both_live}
use Rattle.subpool_set.proofs.LawLemmas.{sets_stay, queue_calls_keep, pools_are_named, queue_ids_are}
use Rattle.subpool_set.proofs.CountLemmas.{both_once}
use Rattle.subpool_storage.specs.declared.storage.SubpoolStorage.{SubpoolStorage}
use Rattle.subpool_storage.specs.Subpools.{Subpools}
use Rattle.subpool_storage.specs.SubpoolStorage.{page_in, free_in, subpools_of, Stands, Becomes}
use Rattle.subpool_storage.proofs.SubpoolLemmas.{with_queues}
use Rattle.subpool_storage.proofs.LiftLemmas.{SetBecomes, lifted}
use Rattle.subpool_storage.proofs.ViewLemmas.{counts, pages_at, free_at}
use Rattle.subpool_storage.proofs.QueueLemmas.{Turned, free_turned, extents_turned}

-- a subpool holds no more than all
pub part_of : (s : Store) (q : SubpoolSet) (n o : ℕ) (p : Pool) → IsSubpoolSet s q → StandApart s p.queues → pool s q n o ≡ Some p → (i : ℕ) → times i (ids_of s p.queues) ≤ times i (queue_ids s q)
part_of s q n o p h stand e i = elim (either (among i (ids_of s p.queues))) [
  | inl m ↦ (let k : 0 < times i (queue_ids s q) = times-some i (queue_ids s q) ((queue_ids_are s q i h).1 n o p e m) in omega (arith, k, both_once s p.queues stand i))
  | inr m ↦ omega (arith, times-none i (ids_of s p.queues) m)
]

still_live : (x y : Option Element) → x ≡ y → IsSome y → IsSome x
still_live x y e h = let P : Option Element → Type 0 = λ z. IsSome z in subst P (sym e) h

-- between the two calls
module _ (s r : Store) (q : SubpoolSet) (n o id : ℕ) (old new : Queues) (h : IsSubpoolSet s q) (was : QueuesStand s q) (there : pool s q n o ≡ Some (record { id = id; queues = old }))
    (leaves : Leaves s r (ids_of s old) (ids_of r new)) (stand : StandApart r new) where
  abbrev before : Pool
  before = record { id = id; queues = old }

  abbrev after : Pool
  after = record { id = id; queues = new }

  pub stay : IsSubpoolSet r q × ((a b : ℕ) → sight r q a b ≡ sight s q a b) × ((m l : ℕ) → pool r q m l ≡ pool s q m l) × (owned r q ≡ owned s q)
  stay = sets_stay s r (ids_of s old) (ids_of r new) q leaves h (Apart-swap (owned s q) (ids_of s old) (was.beside n o before there))

  pub mid_there : pool r q n o ≡ Some before
  mid_there = stay.2 n o ∙ there

  pub named : IsSubpool r q id × (number_of r id ≡ n) × (owner_of r id ≡ o) × (sight r q o n ≡ Some o)
  named = pools_are_named r q n o before stay.0 mid_there

  mid : AreApart r (pools_with (pool r q) n o (Some after)) (owned r q)
  mid = queue_calls_keep s r q n o before new h was there leaves stand

  -- once the heads are written
  module _ (t : Store) (k : IsSubpoolSet t q) (sights : (a b : ℕ) → sight t q a b ≡ sight r q a b) (pools : (m l : ℕ) → pool t q m l ≡ pools_with (pool r q) (number_of r id) (owner_of r id) (Some after) m l)
      (own : Leaves r t (owned r q) (owned t q)) (put : AreApart r (pools_with (pool r q) (number_of r id) (owner_of r id) (Some after)) (owned r q) → QueuesStand t q) where
    with_here : (m l : ℕ) → pools_with (pool r q) (number_of r id) (owner_of r id) (Some after) m l ≡ pools_with (pool r q) n o (Some after) m l
    with_here m l = ap (λ (z : ℕ). pools_with (pool r q) z (owner_of r id) (Some after) m l) named.1 ∙ ap (λ (z : ℕ). pools_with (pool r q) n z (Some after) m l) named.2

    pub now : QueuesStand t q
    now = put (let P : ℕ → Type 0 = λ z. AreApart r (pools_with (pool r q) z (owner_of r id) (Some after)) (owned r q) in let Q : ℕ → Type 0 = λ z. AreApart r (pools_with (pool r q) n z (Some after)) (owned r q) in subst P (sym named.1) (subst Q (sym named.2) mid))

    pub seen : (a b : ℕ) → sight t q a b ≡ sight s q a b
    seen a b = sights a b ∙ stay.1 a b

    pub pools_are : (m l : ℕ) → pool t q m l ≡ pools_with (pool s q) n o (Some after) m l
    pools_are m l = pools m l ∙ with_here m l ∙ ap (λ (z : Option Pool). if same_key o n l m then Some after else z) (stay.2 m l)

    -- the elements of other subpools' queues, and of the new ones
    other_same : (m l : ℕ) (x : Pool) → pool s q m l ≡ Some x → same_key n o m l ≡ false → (i : ℕ) → among i (ids_of s x.queues) ≡ true → at t i ≡ at s i
    other_same m l x e d i z =
        let live : IsSome (at s i) = both_live s x.queues (was.stand m l x e) i z in
        let first : at r i ≡ at s i = (stays s r (ids_of s old) (ids_of r new) leaves i live (false_if (among i (ids_of s old)) (λ w. not_both (among i (ids_of s x.queues)) z (was.apart n o m l before x there e d i w)))).1 in
        (stays r t (owned r q) (owned t q) own i (still_live (at r i) (at s i) first live) (ap (among i) stay.3 ∙ false_if (among i (owned s q)) (λ w. not_both (among i (ids_of s x.queues)) z (was.beside m l x e i w)))).1 ∙ first

    new_same : (i : ℕ) → among i (ids_of r new) ≡ true → at t i ≡ at r i
    new_same i z = (stays r t (owned r q) (owned t q) own i (both_live r new stand i z) (false_if (among i (owned r q)) (λ w. not_both (among i (ids_of r new)) z (mid.beside n o after (cond-true (same_key o n o n) (Some after) (pool r q n o) (same_self o n)) i w)))).1

    pub counted : (i : ℕ) → times i (queue_ids t q) + times i (ids_of s old) ≡ times i (queue_ids s q) + times i (ids_of r new)
    counted = counts s r t q n o id old new h was there stand k now pools_are other_same new_same

    pub moves : Moves s t (λ i. times i (owned s q) + times i (queue_ids s q)) (λ i. times i (owned t q) + times i (queue_ids t q))
    moves = moves-follow s r t (λ i. times i (owned s q) + times i (queue_ids s q)) (λ i. times i (owned s q) + times i (queue_ids t q)) (λ i. times i (owned t q) + times i (queue_ids t q))
        (moves-by s r (λ i. times i (ids_of s old)) (λ i. times i (ids_of r new)) (λ i. times i (owned s q) + times i (queue_ids s q)) (λ i. times i (owned s q) + times i (queue_ids t q))
        (moves-of s r (ids_of s old) (ids_of r new) leaves) (λ i. omega (arith, part_of s q n o before h (was.stand n o before there) there i)) (λ i. omega (arith, counted i)))
        (moves-by r t (λ i. times i (owned r q)) (λ i. times i (owned t q)) (λ i. times i (owned s q) + times i (queue_ids t q)) (λ i. times i (owned t q) + times i (queue_ids t q))
        (moves-of r t (owned r q) (owned t q) own) (λ i. omega (arith, ap (times i) stay.3)) (λ i. omega (arith, ap (times i) stay.3)))

    pub pages_now : (m l x : ℕ) → page_in t (pool t q m l) x ≡ (if (m == n) && (l == o) then has_page r new.extents x else page_in s (pool s q m l) x)
    pages_now = pages_at s r t q n o id old new h was there stand k now pools_are other_same new_same

    pub free_now : (m l x : ℕ) → free_in t (pool t q m l) x ≡ (if (m == n) && (l == o) then is_free r new.free x else free_in s (pool s q m l) x)
    free_now = free_at s r t q n o id old new h was there stand k now pools_are other_same new_same

-- what becomes of the subpools
module _ (s r : Store) (q : SubpoolStorage) (p : Subpool) (id : ℕ) (old new : Queues) (pages free : ℕ → Bool) (h : Stands s q) (there : pool s q.set p.number p.owner ≡ Some (record { id = id; queues = old })) (call : Turned s r old new pages free) where
  pub turned_set : IsSubpoolSet r q.set
  unfolding Stands
  turned_set = (stay s r q.set p.number p.owner id old new h.set h.queues there call.leaves call.stand).0

  pub turned_pool : IsSubpool r q.set id
  unfolding Stands
  turned_pool = (named s r q.set p.number p.owner id old new h.set h.queues there call.leaves call.stand).0

  module _ (t : Store) (k : IsSubpoolSet t q.set) (sights : (a b : ℕ) → sight t q.set a b ≡ sight r q.set a b) (pools : (m l : ℕ) → pool t q.set m l ≡ pools_with (pool r q.set) (number_of r id) (owner_of r id) (Some (record { id = id; queues = new })) m l)
      (own : Leaves r t (owned r q.set) (owned t q.set)) (put : AreApart r (pools_with (pool r q.set) (number_of r id) (owner_of r id) (Some (record { id = id; queues = new }))) (owned r q.set) → QueuesStand t q.set) where
    set_becomes : SetBecomes s t q q (with_queues (subpools_of s q) p pages free)
    unfolding Stands subpools_of
    set_becomes = record {
      stands = record { set = k; queues = now s r q.set p.number p.owner id old new h.set h.queues there call.leaves call.stand t k sights pools own put };
      moves = moves s r q.set p.number p.owner id old new h.set h.queues there call.leaves call.stand t k sights pools own put;
      as_many = own.as_many ∙ call.leaves.as_many;
      sights = seen s r q.set p.number p.owner id old new h.set h.queues there call.leaves call.stand t k sights pools own put;
      pages = λ m x. pages_now s r q.set p.number p.owner id old new h.set h.queues there call.leaves call.stand t k sights pools own put m.number m.owner x ∙ ap (λ (z : Bool). if same_subpool m p then z else page_in s (pool s q.set m.number m.owner) x) (call.pages_are x);
      free = λ m d. free_now s r q.set p.number p.owner id old new h.set h.queues there call.leaves call.stand t k sights pools own put m.number m.owner d ∙ ap (λ (z : Bool). if same_subpool m p then z else free_in s (pool s q.set m.number m.owner) d) (call.free_is d);
    }

    pub becomes : (subpools : Subpools) → with_queues (subpools_of s q) p pages free ≡ subpools → Becomes s t q q subpools
    becomes subpools e = let P : Subpools → Type 0 = λ z. Becomes s t q q z in subst P e (lifted s t q q (with_queues (subpools_of s q) p pages free) h refl (λ id. refl) set_becomes)

-- the subpool that exists, by its name
pub pool_there : (s : Store) (q : SubpoolSet) (n o id : ℕ) (queues : Queues) → number_of s id ≡ n → owner_of s id ≡ o → pool s q (number_of s id) (owner_of s id) ≡ Some (record { id = id; queues = queues }) → pool s q n o ≡ Some (record { id = id; queues = queues })
pool_there s q n o id queues a b e = ap (λ (z : ℕ). pool s q n z) (sym b) ∙ ap (λ (z : ℕ). pool s q z (owner_of s id)) (sym a) ∙ e

module _ (s r : Store) (q : SubpoolStorage) (p : Subpool) (id : ℕ) (old : Queues) (h : Stands s q) (there : pool s q.set p.number p.owner ≡ Some (record { id = id; queues = old })) where
  pub both_stand : StandApart s old
  unfolding Stands
  both_stand = h.queues.stand p.number p.owner (record { id = id; queues = old }) there

  pub pages_there : (x : ℕ) → (subpools_of s q).pages p x ≡ has_page s old.extents x
  unfolding subpools_of
  pages_there x = ap (λ (z : Option Pool). page_in s z x) there

  pub free_there : (d : ℕ) → (subpools_of s q).free p d ≡ is_free s old.free d
  unfolding subpools_of
  free_there d = ap (λ (z : Option Pool). free_in s z d) there

  -- a call on its free storage
  pub free_call : (new : FreeQueue) (area : Run) (v : Bool) → Leaves s r (FreeQueue.owned s old.free) (FreeQueue.owned r new) → IsFreeQueue r new
      → ((d : ℕ) → is_free r new d ≡ (if inside d area then v else is_free s old.free d))
      → Turned s r old (record { extents = old.extents; free = new }) ((subpools_of s q).pages p) (λ d. if inside d area then v else (subpools_of s q).free p d)
  free_call new area v leaves is e =
      let k = free_turned s r old new both_stand leaves is (λ d. if inside d area then v else is_free s old.free d) e in
      record {
        stand = k.stand;
        leaves = k.leaves;
        pages_are = λ x. k.pages_are x ∙ sym (pages_there x);
        free_is = λ d. e d ∙ ap (λ (z : Bool). if inside d area then v else z) (sym (free_there d));
      }

  -- a call on its pages
  pub pages_call : (new : Extents) (run : Run) (v : Bool) → Leaves s r (Extents.owned s old.extents) (Extents.owned r new) → IsExtents r new
      → ((x : ℕ) → has_page r new x ≡ (if inside x run then v else has_page s old.extents x))
      → Turned s r old (record { extents = new; free = old.free }) (λ x. if inside x run then v else (subpools_of s q).pages p x) ((subpools_of s q).free p)
  pages_call new run v leaves is e =
      let k = extents_turned s r old new both_stand leaves is (λ x. if inside x run then v else has_page s old.extents x) e in
      record {
        stand = k.stand;
        leaves = k.leaves;
        pages_are = λ x. e x ∙ ap (λ (z : Bool). if inside x run then v else z) (sym (pages_there x));
        free_is = λ d. k.free_is d ∙ sym (free_there d);
      }
