-- What a record of each kind leads to.
use Rattle.std.proofs.Common.{◌≡◌, ℕ, zero, suc, ◌+◌, ◌-◌, ◌<◌, ◌≤◌, min, Bool, true, false, not, ◌&&◌, if◌then◌else◌, [], ◌∷◌, Option, Some, None, refl, sym, arith}
use Rattle.std.specs.Prelude.{◌^◌, ◌/◌}
use Rattle.std.proofs.lemmas.Bool.{cond-true, cond-false, and_left, and_right}
use Rattle.run_set.specs.Runs.{Run, inside}
use Rattle.run_set.specs.Counts.{joins}
use Rattle.run_set.proofs.CountLemmas.{neighbours_stay}
use Rattle.vsm_model.specs.declared.Subpool.{Subpool}
use Rattle.vsm_model.specs.Subpools.{same_subpool}
use Rattle.subpool_storage.specs.Subpools.{Subpools, is_there, with_pages, with_free, with_own}
use Rattle.storage_changes.specs.declared.record.AreaRecord.{AreaRecord}
use Rattle.storage_changes.specs.declared.record.ExtentRecord.{ExtentRecord}
use Rattle.storage_changes.specs.declared.record.PagesRecord.{PagesRecord}
use Rattle.storage_changes.specs.declared.record.Record.TheVariants.{Area, Extent, Pages, Own}
use Rattle.storage_changes.specs.State.{StorageState}
use Rattle.storage_changes.specs.Walk.{spare_joined, spare_left}
use Rattle.storage_changes.specs.Steps.{area_spare, extent_spare, pages_spare}
use Rattle.storage_changes.specs.Fits.{FrameIs}
use Rattle.storage_changes.specs.StorageActions.{run_of, area_records, own_records, assigned_records, returned_records}
use Rattle.storage_changes.proofs.ActionCases.{at_self, not_inside}
use Rattle.storage_changes.proofs.Goes.{at, Goes, goes_step, goes_on, goes_nowhere, goes_to}

-- a run has two neighbours at most
pub two : (f : ℕ → Bool) (r : Run) → 0 < r.len → joins f r ≤ 2
two f r some = (neighbours_stay f f r some (λ n o. refl)).1

-- a run that joins or leaves a set costs one blank element at most
joined_less : (b : Bool) (left spare n : ℕ) → n ≤ 2 → left + 1 ≤ spare → left ≤ (if b then spare_joined spare n else spare_left spare n)
joined_less true left spare n few less = omega (arith, few, less)
joined_less false left spare n few less = omega (arith, few, less)

unassigned_less : (b : Bool) (left spare n : ℕ) → n ≤ 2 → left + 1 ≤ spare → left ≤ (if b then spare_left spare n else spare_joined spare n)
unassigned_less true left spare n few less = omega (arith, few, less)
unassigned_less false left spare n few less = omega (arith, few, less)

-- a state with other free storage
abbrev pub freed : StorageState → Subpool → ℕ → ℕ → Bool → StorageState
freed m p start count free = record m { subpools = with_free m.subpools p (run_of start count) free }

module _ (m : StorageState) (p : Subpool) (start count : ℕ) (free : Bool) where
  pub freed_in : (k : ℕ) → inside k (run_of start count) ≡ true → (freed m p start count free).subpools.free p k ≡ free
  freed_in k own = cond-true (same_subpool p p && inside k (run_of start count)) free (m.subpools.free p k) (at_self p (inside k (run_of start count)) own)

  pub freed_out : (q : Subpool) (k : ℕ) → inside k (run_of start count) ≡ false → (freed m p start count free).subpools.free q k ≡ m.subpools.free q k
  freed_out q k other =
      cond-false (same_subpool q p && inside k (run_of start count)) free (m.subpools.free q k) (and_right (same_subpool q p) (inside k (run_of start count)) other)

  pub freed_other : (q : Subpool) (k : ℕ) → same_subpool q p ≡ false → (freed m p start count free).subpools.free q k ≡ m.subpools.free q k
  freed_other q k other =
      cond-false (same_subpool q p && inside k (run_of start count)) free (m.subpools.free q k) (and_left (same_subpool q p) (inside k (run_of start count)) other)

-- an area without a doubleword is no change
nothing_freed : (m : StorageState) (p : Subpool) (start : ℕ) (free : Bool) → m ≡ freed m p start 0 free
nothing_freed m p start free = λ i. record m {
  subpools = record m.subpools {
    free = λ q d. sym (cond-false (same_subpool q p && inside d (run_of start 0)) free (m.subpools.free q d)
        (and_right (same_subpool q p) (inside d (run_of start 0)) (not_inside start 0 d (λ low high. omega (arith, low, high))))) i;
  };
}

-- an area costs one blank element at most, and none if it has no doubleword
pub area_goes :
    (m : StorageState) (b g : ℕ → Option ℕ) (s left : ℕ) (p : Subpool) (start count : ℕ) (free : Bool) → is_there m.subpools p ≡ true
    → start + count ≤ 2 ^ 29 → ((d : ℕ) → inside d (run_of start count) ≡ true → m.subpools.free p d ≡ not free) → 1 ≤ left → left + min 1 count ≤ s
    → Goes (at m b g s) (area_records p start count free) (freed m p start count free) b g left
area_goes m b g s left p start zero free there high other some less =
    goes_to (at m b g s) [] m (freed m p start 0 free) b g left (nothing_freed m p start free)
    (goes_nowhere m b g s left (omega (arith, less)))
area_goes m b g s left p start (suc n) free there high other some less =
    let r : AreaRecord = record { subpool = p; area = run_of start (suc n); free = free } in
    let one : left + 1 ≤ s = omega (arith, less) in
    let after : left ≤ area_spare (at m b g s) r = joined_less free left s (joins (m.subpools.free p) (run_of start (suc n))) (two (m.subpools.free p) (run_of start (suc n)) (omega arith)) one in
    goes_step m (freed m p start (suc n) free) b g b g s (area_spare (at m b g s) r) left (Area r)
    (record { there = there; some = omega arith; high = high; other = other; room = omega (arith, less); room_after = omega (arith, some, after) })
    refl after

-- a state with another subpool, if it is new
abbrev pub sight_with : Subpools → Subpool → Bool → ℕ → ℕ → Option ℕ
sight_with u p true = (with_own u p true).sight
sight_with u p false = u.sight

abbrev pub owned : StorageState → Subpool → Bool → StorageState
owned m p is_new = record m { subpools = record m.subpools { sight = sight_with m.subpools p is_new } }

-- a subpool is made, if it is new
pub own_goes :
    (m : StorageState) (b g : ℕ → Option ℕ) (s left : ℕ) (p : Subpool) → (1 ≤ p.owner) × (p.owner ≤ 64) → p.number ≤ 127 → m.subpools.sight p.owner p.number ≡ None
    → ((task : ℕ) → m.subpools.sight task p.number ≡ Some p.owner → task ≡ p.owner) → ((page : ℕ) → m.subpools.pages p page ≡ false)
    → ((d : ℕ) → m.subpools.free p d ≡ false) → 1 ≤ left → left + 1 ≤ s → Goes (at m b g s) (own_records p true) (owned m p true) b g left
own_goes m b g s left p owner number other alone no_pages none_free some less =
    goes_step m (owned m p true) b g b g s (s - 1) left (Own (record { subpool = p; present = true }))
    (record {
      owner = owner;
      number = number;
      other = other;
      alone = alone;
      no_pages = no_pages;
      none_free = none_free;
      room = omega (arith, less);
      room_after = omega (arith, some, less);
    })
    refl (omega (arith, less))

-- a state with other pages of a subpool
abbrev pub paged : StorageState → Subpool → ℕ → ℕ → Bool → StorageState
paged m p page count present = record m { subpools = with_pages m.subpools p (run_of page count) present }

extent_goes :
    (m : StorageState) (b g : ℕ → Option ℕ) (s left : ℕ) (p : Subpool) (page count : ℕ) (present : Bool) → is_there m.subpools p ≡ true → 0 < count
    → page + count ≤ 2 ^ 20 → ((k : ℕ) → inside k (run_of page count) ≡ true → m.subpools.pages p k ≡ not present) → 1 ≤ left → left + 1 ≤ s
    → Goes (at m b g s) (Extent (record { subpool = p; run = run_of page count; present = present }) ∷ []) (paged m p page count present) b g left
extent_goes m b g s left p page count present there more high other some less =
    let r : ExtentRecord = record { subpool = p; run = run_of page count; present = present } in
    let after : left ≤ extent_spare (at m b g s) r = joined_less present left s (joins (m.subpools.pages p) (run_of page count)) (two (m.subpools.pages p) (run_of page count) more) less in
    goes_step m (paged m p page count present) b g b g s (extent_spare (at m b g s) r) left (Extent r)
    (record { there = there; some = more; high = high; other = other; room = omega (arith, less); room_after = omega (arith, some, after) })
    refl after

-- a state with other unassigned pages, and the frames that are brought and given
abbrev pub assigned : StorageState → (ℕ → Option ℕ) → ℕ → ℕ → Bool → StorageState
assigned m brought page count are =
    record m {
      unassigned = λ k. if inside k (run_of page count) then not are else m.unassigned k;
      bytes = λ a. if inside (a / 4096) (run_of page count) then (if are then brought a else None) else m.bytes a;
    }

abbrev pub brought_then : (ℕ → Option ℕ) → ℕ → ℕ → ℕ → Option ℕ
brought_then brought page count a = if inside (a / 4096) (run_of page count) then None else brought a

abbrev pub given_then : StorageState → (ℕ → Option ℕ) → ℕ → ℕ → Bool → ℕ → Option ℕ
given_then m given page count are a = if inside (a / 4096) (run_of page count) then (if are then None else m.bytes a) else given a

pages_goes :
    (m : StorageState) (b g : ℕ → Option ℕ) (s left page count : ℕ) (are : Bool) → 0 < count → page + count ≤ 2 ^ 20
    → ((k : ℕ) → inside k (run_of page count) ≡ true → m.unassigned k ≡ are)
    → ((a : ℕ) → inside (a / 4096) (run_of page count) ≡ true → FrameIs are (b a) (m.bytes a) (g a)) → 1 ≤ left → left + 1 ≤ s
    → Goes (at m b g s) (Pages (record { run = run_of page count; assigned = are }) ∷ []) (assigned m b page count are) (brought_then b page count)
    (given_then m g page count are) left
pages_goes m b g s left page count are more high other frame some less =
    let r : PagesRecord = record { run = run_of page count; assigned = are } in
    let after : left ≤ pages_spare (at m b g s) r = unassigned_less are left s (joins m.unassigned (run_of page count)) (two m.unassigned (run_of page count) more) less in
    goes_step m (assigned m b page count are) b g (brought_then b page count) (given_then m g page count are) s (pages_spare (at m b g s) r) left (Pages r)
    (record { some = more; high = high; other = other; frame = frame; room = omega (arith, less); room_after = omega (arith, some, after) })
    refl after

-- pages are assigned, and become the subpool's
pub assigned_go :
    (m : StorageState) (b g : ℕ → Option ℕ) (s left : ℕ) (p : Subpool) (page count : ℕ) → is_there m.subpools p ≡ true → 0 < count → page + count ≤ 2 ^ 20
    → ((k : ℕ) → inside k (run_of page count) ≡ true → m.unassigned k ≡ true)
    → ((k : ℕ) → inside k (run_of page count) ≡ true → m.subpools.pages p k ≡ false)
    → ((a : ℕ) → inside (a / 4096) (run_of page count) ≡ true → FrameIs true (b a) (m.bytes a) (g a)) → 1 ≤ left → left + 2 ≤ s
    → Goes (at m b g s) (assigned_records p page count) (paged (assigned m b page count true) p page count true) (brought_then b page count)
    (given_then m g page count true) left
assigned_go m b g s left p page count there more high rest others frame some less =
    let n = assigned m b page count true in
    let c = brought_then b page count in
    let h = given_then m g page count true in
    goes_on (at m b g s) (Pages (record { run = run_of page count; assigned = true }) ∷ []) (Extent (record { subpool = p; run = run_of page count; present = true }) ∷ [])
    n (paged n p page count true) c h c h (left + 1) left
    (pages_goes m b g s (left + 1) page count true more high rest frame (omega arith) (omega (arith, less)))
    (λ t enough. extent_goes n c h t left p page count true there more high others some enough)

-- pages leave the subpool, and become unassigned
pub returned_go :
    (m : StorageState) (b g : ℕ → Option ℕ) (s left : ℕ) (p : Subpool) (page n : ℕ) → is_there m.subpools p ≡ true → page + suc n ≤ 2 ^ 20
    → ((k : ℕ) → inside k (run_of page (suc n)) ≡ true → m.unassigned k ≡ false)
    → ((k : ℕ) → inside k (run_of page (suc n)) ≡ true → m.subpools.pages p k ≡ true)
    → ((a : ℕ) → inside (a / 4096) (run_of page (suc n)) ≡ true → FrameIs false (b a) (m.bytes a) (g a)) → 1 ≤ left → left + 2 ≤ s
    → Goes (at m b g s) (returned_records p page (suc n)) (assigned (paged m p page (suc n) false) b page (suc n) false) (brought_then b page (suc n))
    (given_then m g page (suc n) false) left
returned_go m b g s left p page n there high kept own frame some less =
    let v = paged m p page (suc n) false in
    goes_on (at m b g s) (Extent (record { subpool = p; run = run_of page (suc n); present = false }) ∷ []) (Pages (record { run = run_of page (suc n); assigned = false }) ∷ [])
    v (assigned v b page (suc n) false) b g (brought_then b page (suc n)) (given_then m g page (suc n) false) (left + 1) left
    (extent_goes m b g s (left + 1) p page (suc n) false there (omega arith) high own (omega arith) (omega (arith, less)))
    (λ t enough. pages_goes v b g t left page (suc n) false (omega arith) high kept frame some enough)
