-- The set once one subpool has other queues: its counts, its pages and its free storage.
use Rattle.std.proofs.Common.{◌≡◌, ℕ, ◌+◌, true, false, ◌&&◌, ◌==◌, inl, inr, Option, Some, None, refl, sym, ap, ◌∙◌, arith}
use Rattle.std.proofs.lemmas.Bool.{cond-false, cond-true}
use Rattle.std.specs.Prelude.{if◌then◌else◌}
use Rattle.vsm_elements.specs.Store.{Store, at, among}
use Rattle.vsm_elements.specs.Owners.{times}
use Rattle.descriptor_queue.specs.Extents.{has_page, IsExtents}
use Rattle.descriptor_queue.specs.Extents
use Rattle.descriptor_queue.proofs.PageLemmas.{extents_kept}
use Rattle.free_queue.specs.FreeQueue.{is_free, IsFreeQueue}
use Rattle.free_queue.specs.FreeQueue
use Rattle.free_queue.proofs.QueueLemmas.{queues_kept}
use Rattle.subpool_set.proofs.KeyLemmas.{same_key}
use Rattle.subpool_set.proofs.KeyLemmas.{either, not_both, same_parts, same_by, same_self, same_sym}
use Rattle.subpool_set.specs.declared.queues.Queues.{Queues}
use Rattle.subpool_set.specs.declared.set.SubpoolSet.{SubpoolSet}
use Rattle.subpool_set.specs.Pools.{Pool, pools_with}
use Rattle.subpool_set.specs.QueueElements.{ids_of, StandApart}
use Rattle.subpool_set.specs.SubpoolSet.{pool, queue_ids, IsSubpoolSet, QueuesStand}
use Rattle.subpool_set.specs.Laws.{ids_at}
use Rattle.subpool_set.proofs.HeadLemmas.{both_kept, in_left, in_right}
use Rattle.subpool_set.proofs.FollowLemmas.{ids_follow}
use Rattle.subpool_storage.specs.SubpoolStorage.{page_in, free_in}

-- what a subpool has is kept if the elements of its queues are as they were
pub page_kept : (s t : Store) (y : Option Pool) → ((p : Pool) → y ≡ Some p → StandApart s p.queues) → ((p : Pool) → y ≡ Some p → (i : ℕ) → among i (ids_of s p.queues) ≡ true → at t i ≡ at s i) → (x : ℕ) → page_in t y x ≡ page_in s y x
page_kept s t None stand same x = refl
page_kept s t (Some p) stand same x = (extents_kept s t p.queues.extents (stand p refl).extents (λ i z. same p refl i (in_left i (Extents.owned s p.queues.extents) (FreeQueue.owned s p.queues.free) z))).2 x

pub free_kept : (s t : Store) (y : Option Pool) → ((p : Pool) → y ≡ Some p → StandApart s p.queues) → ((p : Pool) → y ≡ Some p → (i : ℕ) → among i (ids_of s p.queues) ≡ true → at t i ≡ at s i) → (d : ℕ) → free_in t y d ≡ free_in s y d
free_kept s t None stand same d = refl
free_kept s t (Some p) stand same d = (queues_kept s t p.queues.free (stand p refl).free (λ i z. same p refl i (in_right i (Extents.owned s p.queues.extents) (FreeQueue.owned s p.queues.free) z))).2 d

-- one subpool has new queues, which were in r, and all others have what they had in s
module _ (s r t : Store) (q : SubpoolSet) (n o id : ℕ) (old new : Queues) (h : IsSubpoolSet s q) (was : QueuesStand s q) (there : pool s q n o ≡ Some (record { id = id; queues = old })) (stand : StandApart r new)
    (k : IsSubpoolSet t q) (now : QueuesStand t q) (pools_are : (m l : ℕ) → pool t q m l ≡ pools_with (pool s q) n o (Some (record { id = id; queues = new })) m l)
    (other_same : (m l : ℕ) (x : Pool) → pool s q m l ≡ Some x → same_key n o m l ≡ false → (i : ℕ) → among i (ids_of s x.queues) ≡ true → at t i ≡ at s i)
    (new_same : (i : ℕ) → among i (ids_of r new) ≡ true → at t i ≡ at r i) where
  abbrev after : Pool
  after = record { id = id; queues = new }

  this : pool t q n o ≡ Some after
  this = pools_are n o ∙ cond-true (same_key o n o n) (Some after) (pool s q n o) (same_self o n)

  turned : (m l : ℕ) → same_key n o m l ≡ false → same_key o n l m ≡ false
  turned m l d = elim (either (same_key o n l m)) [
    | inl e ↦ (let w : (o ≡ l) × (n ≡ m) = same_parts o n l m e in absurd (not_both (same_key n o m l) (same_by n o m l w.1 w.0) d))
    | inr e ↦ e
  ]

  another : (m l : ℕ) → same_key n o m l ≡ false → pool t q m l ≡ pool s q m l
  another m l d = pools_are m l ∙ cond-false (same_key o n l m) (Some after) (pool s q m l) (turned m l d)

  other_kept : (m l : ℕ) (x : Pool) → pool s q m l ≡ Some x → same_key n o m l ≡ false → ids_of t x.queues ≡ ids_of s x.queues
  other_kept m l x e d = (both_kept s t x.queues (was.stand m l x e) (other_same m l x e d)).1

  new_kept : ids_of t new ≡ ids_of r new
  new_kept = (both_kept r t new stand new_same).1

  pub counts : (i : ℕ) → times i (queue_ids t q) + times i (ids_of s old) ≡ times i (queue_ids s q) + times i (ids_of r new)
  counts i = omega (arith, ids_follow s t q q n o (Some after) h was k now pools_are other_kept i, ap (λ (z : Option Pool). times i (ids_at s z)) there, ap (times i) new_kept)

  -- pages and free storage
  pub pages_at : (m l x : ℕ) → page_in t (pool t q m l) x ≡ (if (m == n) && (l == o) then has_page r new.extents x else page_in s (pool s q m l) x)
  pages_at m l x = elim (either (same_key m l n o)) [
    | inl e ↦ (let u : (m ≡ n) × (l ≡ o) = same_parts m l n o e in
        ap (λ (z : Option Pool). page_in t z x) (ap (λ (z : ℕ). pool t q z l) u.0 ∙ ap (pool t q n) u.1 ∙ this)
        ∙ (extents_kept r t new.extents stand.extents (λ i z. new_same i (in_left i (Extents.owned r new.extents) (FreeQueue.owned r new.free) z))).2 x
        ∙ sym (cond-true (same_key m l n o) (has_page r new.extents x) (page_in s (pool s q m l) x) e))
    | inr e ↦ ap (λ (z : Option Pool). page_in t z x) (another m l (sym (same_sym m l n o) ∙ e)) ∙ page_kept s t (pool s q m l) (was.stand m l) (λ y k. other_same m l y k (sym (same_sym m l n o) ∙ e)) x ∙ sym (cond-false (same_key m l n o) (has_page r new.extents x) (page_in s (pool s q m l) x) e)
  ]

  pub free_at : (m l x : ℕ) → free_in t (pool t q m l) x ≡ (if (m == n) && (l == o) then is_free r new.free x else free_in s (pool s q m l) x)
  free_at m l x = elim (either (same_key m l n o)) [
    | inl e ↦ (let u : (m ≡ n) × (l ≡ o) = same_parts m l n o e in
        ap (λ (z : Option Pool). free_in t z x) (ap (λ (z : ℕ). pool t q z l) u.0 ∙ ap (pool t q n) u.1 ∙ this)
        ∙ (queues_kept r t new.free stand.free (λ i z. new_same i (in_right i (Extents.owned r new.extents) (FreeQueue.owned r new.free) z))).2 x
        ∙ sym (cond-true (same_key m l n o) (is_free r new.free x) (free_in s (pool s q m l) x) e))
    | inr e ↦ ap (λ (z : Option Pool). free_in t z x) (another m l (sym (same_sym m l n o) ∙ e)) ∙ free_kept s t (pool s q m l) (was.stand m l) (λ y k. other_same m l y k (sym (same_sym m l n o) ∙ e)) x ∙ sym (cond-false (same_key m l n o) (is_free r new.free x) (free_in s (pool s q m l) x) e)
  ]
