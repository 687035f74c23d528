-- An empty subpool is created or removed.
use Rattle.std.proofs.Common.{◌≡◌, ℕ, ◌+◌, Bool, true, false, inl, inr, List, [], ◌++◌, Option, Some, None, refl, sym, ap, ◌∙◌, arith}
use Rattle.std.specs.Prelude.{if◌then◌else◌}
use Rattle.vsm_elements.specs.Store.{Store, at, among}
use Rattle.vsm_elements.specs.Ownership.{Leaves}
use Rattle.vsm_elements.specs.Owners.{times, Moves}
use Rattle.vsm_elements.proofs.ChainFrame.{stays, false_if}
use Rattle.vsm_elements.proofs.MoveLemmas.{moves-of, moves-by}
use Rattle.descriptor_queue.specs.Extents.{has_page, IsExtents}
use Rattle.descriptor_queue.specs.Extents
use Rattle.free_queue.specs.FreeQueue.{is_free, IsFreeQueue}
use Rattle.free_queue.specs.FreeQueue
use Rattle.subpool_set.proofs.KeyLemmas.{same_key}
use Rattle.subpool_set.proofs.KeyLemmas.{either, not_both, same_parts, same_sym}
use Rattle.std.proofs.lemmas.Bool.{cond-false, cond-true}
use Rattle.vsm_model.specs.declared.Subpool.{Subpool}
use Rattle.subpool_set.specs.declared.queues.Queues.{Queues}
use Rattle.subpool_set.specs.declared.set.SubpoolSet.{SubpoolSet}
use Rattle.subpool_set.specs.Pools.{Pool, pools_with}
use Rattle.subpool_set.specs.QueueElements.{ids_of, StandApart}
use Rattle.subpool_set.specs.SubpoolSet.{sight, pool, owned, queue_ids, IsSubpoolSet, QueuesStand}
use Rattle.subpool_set.specs.Laws.{ids_at}
use Rattle.subpool_set.proofs.HeadLemmas.{both_live, both_kept}
use Rattle.subpool_set.proofs.LawLemmas.{pools_are_named}
use Rattle.subpool_set.proofs.FollowLemmas.{ids_follow}
use Rattle.subpool_storage.specs.declared.storage.SubpoolStorage.{SubpoolStorage}
use Rattle.subpool_storage.specs.SubpoolStorage.{page_in, free_in, subpools_of, Stands, Becomes}
use Rattle.subpool_storage.proofs.LiftLemmas.{SetBecomes, lifted}
use Rattle.std.proofs.Common.{◌∷◌, length}
use Rattle.run_set.specs.Runs.{Run}
use Rattle.run_set.specs.Runs.{Run, contains, AreRunsOf}
use Rattle.run_set.proofs.SetLemmas.{runs_are_one}
use Rattle.descriptor_queue.specs.Extents.{extents, IsExtents}
use Rattle.descriptor_queue.proofs.PageLemmas.{extents_stand}
use Rattle.free_queue.specs.FreeQueue.{areas, IsFreeQueue}
use Rattle.free_queue.proofs.QueueLemmas.{queues_stand}
use Rattle.subpool_set.specs.Pools.{no_queues, sight_with}
use Rattle.subpool_set.specs.Laws.{NewQueuesAreEmpty}
use Rattle.subpool_set.proofs.KeyLemmas.{none_some}
use Rattle.subpool_storage.specs.Subpools.{with_own}
use Rattle.subpool_storage.proofs.ViewLemmas.{page_kept, free_kept}

module _ (s t : Store) (q r : SubpoolSet) (n o : ℕ) (x : Option Pool) (h : IsSubpoolSet s q) (was : QueuesStand s q) (k : IsSubpoolSet t r) (now : QueuesStand t r)
    (own : Leaves s t (owned s q) (owned t r)) (with : (m l : ℕ) → pool t r m l ≡ pools_with (pool s q) n o x m l) where
  kept : (m l : ℕ) (p : Pool) → pool s q m l ≡ Some p → (i : ℕ) → among i (ids_of s p.queues) ≡ true → at t i ≡ at s i
  kept m l p e i z = (stays s t (owned s q) (owned t r) own i (both_live s p.queues (was.stand m l p e) i z) (false_if (among i (owned s q)) (λ w. not_both (among i (ids_of s p.queues)) z (was.beside m l p e i w)))).1

  -- neither what existed before nor what exists now has elements
  module _ (bare : ids_at s (pool s q n o) ≡ []) (bare_now : ids_at t x ≡ []) where
    count : (i : ℕ) → times i (queue_ids t r) ≡ times i (queue_ids s q)
    count i = omega (arith, ids_follow s t q r n o x h was k now with (λ m l p e d. (both_kept s t p.queues (was.stand m l p e) (kept m l p e)).1) i, ap (times i) bare, ap (times i) bare_now)

    pub set_moves : Moves s t (λ i. times i (owned s q) + times i (queue_ids s q)) (λ i. times i (owned t r) + times i (queue_ids t r))
    set_moves = moves-by s t (λ i. times i (owned s q)) (λ i. times i (owned t r)) (λ i. times i (owned s q) + times i (queue_ids s q)) (λ i. times i (owned t r) + times i (queue_ids t r))
        (moves-of s t (owned s q) (owned t r) own) (λ i. omega arith) (λ i. omega (arith, count i))

  here : (m l : ℕ) → same_key o n l m ≡ true → pool s q m l ≡ pool s q n o
  here m l e = let u : (o ≡ l) × (n ≡ m) = same_parts o n l m e in ap (λ (z : ℕ). pool s q z l) (sym u.1) ∙ ap (pool s q n) (sym u.0)

  pub set_pages : ((y : ℕ) → page_in s (pool s q n o) y ≡ false) → ((y : ℕ) → page_in t x y ≡ false) → (m l y : ℕ) → page_in t (pool t r m l) y ≡ page_in s (pool s q m l) y
  set_pages none none_now m l y = elim (either (same_key o n l m)) [
    | inl e ↦ ap (λ (z : Option Pool). page_in t z y) (with m l ∙ cond-true (same_key o n l m) x (pool s q m l) e) ∙ none_now y ∙ sym (ap (λ (z : Option Pool). page_in s z y) (here m l e) ∙ none y)
    | inr e ↦ ap (λ (z : Option Pool). page_in t z y) (with m l ∙ cond-false (same_key o n l m) x (pool s q m l) e) ∙ page_kept s t (pool s q m l) (was.stand m l) (kept m l) y
  ]

  pub set_free : ((y : ℕ) → free_in s (pool s q n o) y ≡ false) → ((y : ℕ) → free_in t x y ≡ false) → (m l y : ℕ) → free_in t (pool t r m l) y ≡ free_in s (pool s q m l) y
  set_free none none_now m l y = elim (either (same_key o n l m)) [
    | inl e ↦ ap (λ (z : Option Pool). free_in t z y) (with m l ∙ cond-true (same_key o n l m) x (pool s q m l) e) ∙ none_now y ∙ sym (ap (λ (z : Option Pool). free_in s z y) (here m l e) ∙ none y)
    | inr e ↦ ap (λ (z : Option Pool). free_in t z y) (with m l ∙ cond-false (same_key o n l m) x (pool s q m l) e) ∙ free_kept s t (pool s q m l) (was.stand m l) (kept m l) y
  ]

-- of subpools with their storage
module _ (s t : Store) (q r : SubpoolStorage) (p : Subpool) (present : Bool) (x : Option Pool) (h : Stands s q) (k : IsSubpoolSet t r.set) (now : QueuesStand s q.set → QueuesStand t r.set)
    (own : Leaves s t (owned s q.set) (owned t r.set)) (with : (m l : ℕ) → pool t r.set m l ≡ pools_with (pool s q.set) p.number p.owner x m l)
    (sights : (a b : ℕ) → sight t r.set a b ≡ sight_with (sight s q.set) p.owner p.number (if present then Some p.owner else None) a b)
    (bare : ids_at s (pool s q.set p.number p.owner) ≡ []) (bare_now : ids_at t x ≡ [])
    (no_page : (y : ℕ) → page_in s (pool s q.set p.number p.owner) y ≡ false) (no_page_now : (y : ℕ) → page_in t x y ≡ false)
    (none_free : (y : ℕ) → free_in s (pool s q.set p.number p.owner) y ≡ false) (none_free_now : (y : ℕ) → free_in t x y ≡ false) where
  set_becomes : SetBecomes s t q r (with_own (subpools_of s q) p present)
  unfolding Stands subpools_of
  set_becomes = record {
    stands = record { set = k; queues = now h.queues };
    moves = set_moves s t q.set r.set p.number p.owner x h.set h.queues k (now h.queues) own with bare bare_now;
    as_many = own.as_many;
    sights = λ a b. sights a b ∙ ap (λ (z : Bool). if z then (if present then Some p.owner else None) else sight s q.set a b) (same_sym p.owner p.number a b);
    pages = λ m y. set_pages s t q.set r.set p.number p.owner x h.set h.queues k (now h.queues) own with no_page no_page_now m.number m.owner y;
    free = λ m y. set_free s t q.set r.set p.number p.owner x h.set h.queues k (now h.queues) own with none_free none_free_now m.number m.owner y;
  }

  pub becomes_own : r.cells ≡ q.cells → Becomes s t q r (with_own (subpools_of s q) p present)
  becomes_own e = lifted s t q r (with_own (subpools_of s q) p present) h e (λ id. refl) set_becomes

-- an owner that sees none of the number has none
pub unseen_pool : (s : Store) (q : SubpoolSet) (n o : ℕ) → IsSubpoolSet s q → sight s q o n ≡ None → pool s q n o ≡ None
unseen_pool s q n o h unseen = go (pool s q n o) refl where
  go : (y : Option Pool) → pool s q n o ≡ y → pool s q n o ≡ None
  go None e = e
  go (Some p) e = absurd (none_some (sight s q o n) o unseen (pools_are_named s q n o p h e).3)

pub create_becomes : (s t : Store) (q r : SubpoolStorage) (p : Subpool) (id : ℕ) → r.cells ≡ q.cells → Stands s q → IsSubpoolSet t r.set → (QueuesStand s q.set → QueuesStand t r.set) → Leaves s t (owned s q.set) (owned t r.set)
    → ((m l : ℕ) → pool t r.set m l ≡ pools_with (pool s q.set) p.number p.owner (Some (record { id = id; queues = no_queues })) m l)
    → ((a b : ℕ) → sight t r.set a b ≡ sight_with (sight s q.set) p.owner p.number (Some p.owner) a b)
    → sight s q.set p.owner p.number ≡ None → NewQueuesAreEmpty → Becomes s t q r (with_own (subpools_of s q) p true)
unfolding Stands
create_becomes s t q r p id e h k now own with sights unseen empty =
    let none : pool s q.set p.number p.owner ≡ None = unseen_pool s q.set p.number p.owner h.set unseen in
    becomes_own s t q r p true (Some (record { id = id; queues = no_queues })) h k now own with sights
    (ap (ids_at s) none) (ap (λ (z : List ℕ). z ++ FreeQueue.owned t no_queues.free) (empty t).2 ∙ (empty t).5)
    (λ y. ap (λ (z : Option Pool). page_in s z y) none) (λ y. ap (contains y) (empty t).1)
    (λ y. ap (λ (z : Option Pool). free_in s z y) none) (λ y. ap (contains y) (empty t).4) e

-- queues without pages and free storage have no elements
runs_none : (rs : List Run) (set : ℕ → Bool) → AreRunsOf rs set → ((n : ℕ) → set n ≡ false) → rs ≡ []
runs_none rs set h none = runs_are_one set (λ n. false) rs [] h (record { spaced = tt; holds = λ n. refl }) none

length_none : (xs : List ℕ) → length xs ≡ 0 → xs ≡ []
length_none [] e = refl
length_none (x ∷ xs) e = absurd (omega (arith, e))

bare_ids : (s : Store) (q : Queues) → StandApart s q → ((x : ℕ) → has_page s q.extents x ≡ false) → ((d : ℕ) → is_free s q.free d ≡ false) → ids_of s q ≡ []
bare_ids s q h no_page none_free =
    let e = extents_stand s q.extents h.extents in
    let f = queues_stand s q.free h.free in
    let first : Extents.owned s q.extents ≡ [] = length_none (Extents.owned s q.extents) (e.2 ∙ ap length (runs_none (extents s q.extents) (λ x. has_page s q.extents x) e.0 no_page)) in
    let second : FreeQueue.owned s q.free ≡ [] = length_none (FreeQueue.owned s q.free) (f.2 ∙ ap length (runs_none (areas s q.free) (λ d. is_free s q.free d) f.0 none_free)) in
    ap (λ (z : List ℕ). z ++ FreeQueue.owned s q.free) first ∙ second

pub bare_at : (s : Store) (q : SubpoolSet) (n o : ℕ) → QueuesStand s q → ((x : ℕ) → page_in s (pool s q n o) x ≡ false) → ((d : ℕ) → free_in s (pool s q n o) d ≡ false) → ids_at s (pool s q n o) ≡ []
bare_at s q n o was no_page none_free = go (pool s q n o) refl where
  go : (y : Option Pool) → pool s q n o ≡ y → ids_at s (pool s q n o) ≡ []
  go None e = ap (ids_at s) e
  go (Some p) e = ap (ids_at s) e ∙ bare_ids s p.queues (was.stand n o p e) (λ x. sym (ap (λ (z : Option Pool). page_in s z x) e) ∙ no_page x) (λ d. sym (ap (λ (z : Option Pool). free_in s z d) e) ∙ none_free d)

pub remove_becomes : (s t : Store) (q r : SubpoolStorage) (p : Subpool) → r.cells ≡ q.cells → Stands s q → IsSubpoolSet t r.set → (QueuesStand s q.set → QueuesStand t r.set) → Leaves s t (owned s q.set) (owned t r.set)
    → ((m l : ℕ) → pool t r.set m l ≡ pools_with (pool s q.set) p.number p.owner None m l)
    → ((a b : ℕ) → sight t r.set a b ≡ sight_with (sight s q.set) p.owner p.number None a b)
    → ((x : ℕ) → (subpools_of s q).pages p x ≡ false) → ((d : ℕ) → (subpools_of s q).free p d ≡ false) → Becomes s t q r (with_own (subpools_of s q) p false)
unfolding Stands subpools_of
remove_becomes s t q r p e h k now own with sights no_page none_free =
    becomes_own s t q r p false None h k now own with sights (bare_at s q.set p.number p.owner h.queues no_page none_free) refl no_page (λ y. refl) none_free (λ y. refl) e
