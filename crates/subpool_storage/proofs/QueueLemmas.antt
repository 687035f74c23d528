-- A call on one of a subpool's two queues leaves the other.
use Rattle.std.proofs.Common.{◌≡◌, ℕ, Bool, true, false, not, ◌&&◌, ◌||◌, List, ◌++◌, refl, sym, subst}
use Rattle.std.specs.Prelude.{if◌then◌else◌}
use Rattle.vsm_elements.specs.Store.{Store}
use Rattle.vsm_elements.specs.Ownership.{Leaves, Apart}
use Rattle.vsm_elements.proofs.ChainFrame.{stays, Leaves-beside, Leaves-behind}
use Rattle.descriptor_queue.specs.declared.extents.Extents.{Extents}
use Rattle.descriptor_queue.specs.Extents.{has_page, IsExtents}
use Rattle.descriptor_queue.specs.Extents
use Rattle.descriptor_queue.proofs.PageLemmas.{extents_stand, extents_stay}
use Rattle.free_queue.specs.declared.queue.FreeQueue.{FreeQueue}
use Rattle.free_queue.specs.FreeQueue.{is_free, IsFreeQueue}
use Rattle.free_queue.specs.FreeQueue
use Rattle.free_queue.proofs.QueueLemmas.{queues_stand, queues_stay}
use Rattle.subpool_set.specs.declared.queues.Queues.{Queues}
use Rattle.subpool_set.specs.QueueElements.{ids_of, StandApart}
use Rattle.subpool_set.proofs.HeadLemmas.{Apart-swap}

-- the queues of a subpool were these, and are new
pub record Turned (s r : Store) (old new : Queues) (pages free : ℕ → Bool) : Type 0 where
  pub stand : StandApart r new
  pub leaves : Leaves s r (ids_of s old) (ids_of r new)
  pub pages_are : (x : ℕ) → has_page r new.extents x ≡ pages x
  pub free_is : (d : ℕ) → is_free r new.free d ≡ free d

pub free_turned : (s r : Store) (old : Queues) (new : FreeQueue) → StandApart s old → Leaves s r (FreeQueue.owned s old.free) (FreeQueue.owned r new) → IsFreeQueue r new
    → (free : ℕ → Bool) → ((d : ℕ) → is_free r new d ≡ free d) → Turned s r old (record { extents = old.extents; free = new }) (has_page s old.extents) free
free_turned s r old new h call is free e =
    let k = extents_stay s r (FreeQueue.owned s old.free) (FreeQueue.owned r new) old.extents call h.extents (Apart-swap (Extents.owned s old.extents) (FreeQueue.owned s old.free) h.apart) in
    let live = (extents_stand s old.extents h.extents).1.live in
    let P : List ℕ → Type 0 = λ z. Apart z (FreeQueue.owned r new) in
    let Q : List ℕ → Type 0 = λ z. Leaves s r (ids_of s old) (z ++ FreeQueue.owned r new) in
    record {
      stand = record { extents = k.0; free = is; apart = subst P (sym k.3) (λ i m. (stays s r (FreeQueue.owned s old.free) (FreeQueue.owned r new) call i (live i m) (h.apart i m)).0) };
      leaves = subst Q (sym k.3) (Leaves-behind s r (FreeQueue.owned s old.free) (FreeQueue.owned r new) (Extents.owned s old.extents) call live);
      pages_are = k.2;
      free_is = e;
    }

pub extents_turned : (s r : Store) (old : Queues) (new : Extents) → StandApart s old → Leaves s r (Extents.owned s old.extents) (Extents.owned r new) → IsExtents r new
    → (pages : ℕ → Bool) → ((x : ℕ) → has_page r new x ≡ pages x) → Turned s r old (record { extents = new; free = old.free }) pages (is_free s old.free)
extents_turned s r old new h call is pages e =
    let k = queues_stay s r (Extents.owned s old.extents) (Extents.owned r new) old.free call h.free h.apart in
    let live = (queues_stand s old.free h.free).1.live in
    let P : List ℕ → Type 0 = λ z. Apart (Extents.owned r new) z in
    let Q : List ℕ → Type 0 = λ z. Leaves s r (ids_of s old) (Extents.owned r new ++ z) in
    record {
      stand = record { extents = is; free = k.0; apart = subst P (sym k.3) (Apart-swap (FreeQueue.owned s old.free) (Extents.owned r new) (λ i m. (stays s r (Extents.owned s old.extents) (Extents.owned r new) call i (live i m) (Apart-swap (Extents.owned s old.extents) (FreeQueue.owned s old.free) h.apart i m)).0)) };
      leaves = subst Q (sym k.3) (Leaves-beside s r (Extents.owned s old.extents) (Extents.owned r new) (FreeQueue.owned s old.free) call live);
      pages_are = e;
      free_is = k.2;
    }

-- what the calls on queues say of a set, as a choice
pub joined_if : (b o : Bool) → (b || o) ≡ (if b then true else o)
joined_if true o = refl
joined_if false o = refl

pub left_if : (b o : Bool) → (not b && o) ≡ (if b then false else o)
left_if true o = refl
left_if false o = refl
