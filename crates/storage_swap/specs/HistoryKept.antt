-- What a call on something else leaves as it was: the storage, and the other changes.
use Rattle.std.specs.Prelude.{◌≡◌, ℕ, ◌+◌, ◌/◌, ◌<◌, ◌≤◌, nat_lt, Bool, if◌then◌else◌, List, [], ◌∷◌, ◌++◌, map}
use Rattle.std.specs.Prelude.{Option, None, IsSome, IsTrue, refl}
use Rattle.std.proofs.Common.{sym, ap, ◌∙◌, subst, arith, inl, inr}
use Rattle.vsm_elements.specs.Store.{Store, at}
use Rattle.vsm_elements.specs.Owners.{times, Moves}
use Rattle.vsm_elements.specs.Chain.{Link, links, owned, ids, IsChain}
use Rattle.vsm_elements.proofs.MoveLemmas.{none-or-some, rest-same, chain-live, chain-kept}
use Rattle.descriptor_queue.specs.Pages
use Rattle.raw_region.specs.Pages.{Pages as Tables, byte_at, has_table, SamePages, SameTables}
use Rattle.raw_region.proofs.ForCallers.{byte_at-same_pages}
use Rattle.task_tree.specs.TaskTree.{current}
use Rattle.task_tree.specs.TaskTree
use Rattle.subpool_storage.specs.SubpoolStorage
use Rattle.subpool_storage.proofs.LawLemmas.{storage_owns}
use Rattle.storage_changes.proofs.Cases.{state-same}
use Rattle.storage_swap.specs.declared.storage.Parts.{Parts}
use Rattle.storage_swap.specs.Storage.{hold, tasks_of, state_of, byte_held, Stand}
use Rattle.storage_swap.specs.StructureKept.{PagesStay, SubpoolsStay, TasksStay, pages-stay, subpools-stay}
use Rattle.storage_swap.specs.StructureKept.{tasks-stay, pages-live, tasks-live, two-live, three-live}
use Rattle.storage_swap.specs.declared.change.Change.{Change}
use Rattle.storage_swap.specs.Beside.{record_at}
use Rattle.storage_swap.specs.Swap.{means, change_holds}
use Rattle.storage_swap.specs.Apart.{all_hold, all_blanks, all_frames, ChangeStands, AllStand, AreApart}

-- what the storage holds is live
pub storage-live : (p : Parts) → Stand p → (i : ℕ) → 0 < hold p i → IsSome (at p.elements i)
storage-live p k =
    three-live p.elements (λ i. times i (Pages.owned p.elements p.unassigned))
    (λ i. SubpoolStorage.hold p.elements p.subpools i) (λ i. times i (TaskTree.owned p.elements p.tasks))
    (pages-live p.elements p.unassigned k.unassigned) (storage_owns p.elements p.subpools k.subpools).1
    (tasks-live p.elements p.tasks k.tasks)

-- what a change holds is live
change-live : (p : Parts) (c : Change) → ChangeStands p c → (i : ℕ) → 0 < change_holds p.elements c i
    → IsSome (at p.elements i)
change-live p c k =
    two-live p.elements (λ i. times i (owned p.elements c.records)) (λ i. SubpoolStorage.hold p.elements c.parked i)
    (chain-live p.elements c.records k.records) (storage_owns p.elements c.parked k.parked).1

pub all-live : (p : Parts) (cs : List Change) → AllStand p cs → (i : ℕ) → 0 < all_hold p.elements cs i
    → IsSome (at p.elements i)
all-live p [] k i h = absurd (omega (arith, h))
all-live p (c ∷ cs) k i h = elim (none-or-some (change_holds p.elements c i)) [
  | inl z ↦ all-live p cs k.1 i (omega (arith, h, z))
  | inr z ↦ change-live p c k.0 i z
]

-- what the storage and the changes hold is live
pub apart-live : (p : Parts) (cs : List Change) → AreApart p cs → (i : ℕ)
    → 0 < hold p i + all_hold p.elements cs i → IsSome (at p.elements i)
apart-live p cs h i n = elim (none-or-some (hold p i)) [
  | inl z ↦ all-live p cs h.changes i (omega (arith, n, z))
  | inr z ↦ storage-live p h.storage i z
]

-- a table that existed exists
pub tables-kept : (old new : Tables) → SameTables old new → (page : ℕ) → IsTrue (has_table old page)
    → IsTrue (has_table new page)
tables-kept old new same page h =
    let P : Bool → Type 0 = λ z. IsTrue z in
    subst P (sym (same.tables page)) h

-- the storage over other elements and another region, if its own elements are as they were
module _ (p : Parts) (e : Store) (region : Tables) (k : Stand p)
    (same : (i : ℕ) → 0 < hold p i → at e i ≡ at p.elements i)
  where
    abbrev pub moved : Parts
    moved = record p { elements = e; region = region }

    pages : PagesStay p.elements e p.unassigned
    pages = pages-stay p.elements e p.unassigned k.unassigned (λ i n. same i (omega (arith, n)))

    subpools : SubpoolsStay p.elements e p.subpools
    subpools = subpools-stay p.elements e p.subpools k.subpools (λ i n. same i (omega (arith, n)))

    tasks : TasksStay p.elements e p.tasks
    tasks = tasks-stay p.elements e p.tasks k.tasks (λ i n. same i (omega (arith, n)))

    pub moved-hold : (i : ℕ) → hold moved i ≡ hold p i
    moved-hold i = omega (arith, pages.held i, subpools.held i, tasks.held i)

    pub moved-stand : Stand moved
    moved-stand = record { unassigned = pages.stand; subpools = subpools.stand; tasks = tasks.stand }

    pub moved-unassigned : (page : ℕ) → (state_of moved).unassigned page ≡ (state_of p).unassigned page
    moved-unassigned page = pages.unassigned page

    same-tasks : tasks_of moved ≡ tasks_of p
    same-tasks = λ i. record {
      current = current p.tasks;
      parents = λ task. tasks.parents task i;
      words = λ task register. if nat_lt register 16 then tasks.words task register i else 0;
    }

    pub moved-state : SamePages p.region region → state_of moved ≡ state_of p
    moved-state bytes = state-same (state_of moved) (state_of p) same-tasks subpools.same pages.unassigned
        (λ a. ap (λ (b : Bool). if b then None else byte_at region a) (pages.unassigned (a / 4096))
        ∙ ap (λ (o : Option ℕ). if (state_of p).unassigned (a / 4096) then None else o)
        (byte_at-same_pages p.region region bytes a))

-- changes that held nothing of what a call had, if no table was lost
module _ (p t : Parts) (f g : ℕ → ℕ) (m : Moves p.elements t.elements f g)
    (tables : (page : ℕ) → IsTrue (has_table p.region page) → IsTrue (has_table t.region page))
  where
    pub record Left (c : Change) : Type 0 where
      pub stand : ChangeStands t c
      pub held : (i : ℕ) → change_holds t.elements c i ≡ change_holds p.elements c i
      pub meant : means t.elements c ≡ means p.elements c

    pub left : (c : Change) → ChangeStands p c → ((i : ℕ) → f i + change_holds p.elements c i ≤ 1) → Left c
    left c k once = record {
      stand = record {
        records = records.0;
        parked = parked.stand;
        places = λ page h. tables page (k.places page h);
      };
      held = λ i. omega (
        arith,
        ap (λ (ns : List Link). times i (ids ns)) records.1,
        parked.held i,
      );
      meant = λ i. record {
        records = map record_at (records.1 i);
        blanks = c.blanks;
        frames = byte_held c.frames;
        parked = parked.same i;
      };
    } where
      same : (i : ℕ) → 0 < change_holds p.elements c i → at t.elements i ≡ at p.elements i
      same = rest-same p.elements t.elements f g m (change_holds p.elements c) once (change-live p c k)

      records : IsChain t.elements c.records × (links t.elements c.records ≡ links p.elements c.records)
      records = chain-kept p.elements t.elements c.records k.records (λ i h. same i (omega (arith, h)))

      parked : SubpoolsStay p.elements t.elements c.parked
      parked = subpools-stay p.elements t.elements c.parked k.parked (λ i h. same i (omega (arith, h)))

    pub record AllLeft (cs : List Change) : Type 0 where
      pub stand : AllStand t cs
      pub held : (i : ℕ) → all_hold t.elements cs i ≡ all_hold p.elements cs i

    pub all-left : (cs : List Change) → AllStand p cs → ((i : ℕ) → f i + all_hold p.elements cs i ≤ 1) → AllLeft cs
    all-left [] k once = record { stand = tt; held = λ i. refl }
    all-left (c ∷ cs) k once =
        let a : Left c = left c k.0 (λ i. omega (arith, once i)) in
        let b : AllLeft cs = all-left cs k.1 (λ i. omega (arith, once i)) in
        record { stand = (a.stand, b.stand); held = λ i. omega (arith, a.held i, b.held i) }

-- lists in parts

pub hold-append : (s : Store) (xs ys : List Change) (i : ℕ)
    → all_hold s (xs ++ ys) i ≡ all_hold s xs i + all_hold s ys i
hold-append s [] ys i = omega arith
hold-append s (x ∷ xs) ys i = omega (arith, hold-append s xs ys i)

pub blanks-append : (xs ys : List Change) → all_blanks (xs ++ ys) ≡ all_blanks xs + all_blanks ys
blanks-append [] ys = omega arith
blanks-append (x ∷ xs) ys = omega (arith, blanks-append xs ys)

pub frames-append : (xs ys : List Change) → all_frames (xs ++ ys) ≡ all_frames xs + all_frames ys
frames-append [] ys = omega arith
frames-append (x ∷ xs) ys = omega (arith, frames-append xs ys)

stand-append : (p : Parts) (xs ys : List Change) → AllStand p xs → AllStand p ys → AllStand p (xs ++ ys)
stand-append p [] ys h k = k
stand-append p (x ∷ xs) ys h k = (h.0, stand-append p xs ys h.1 k)

stand-split : (p : Parts) (xs ys : List Change) → AllStand p (xs ++ ys) → AllStand p xs × AllStand p ys
stand-split p [] ys h = (tt, h)
stand-split p (x ∷ xs) ys h =
    let r : AllStand p xs × AllStand p ys = stand-split p xs ys h.1 in
    ((h.0, r.0), r.1)

pub apart-pick : (xs ys : List Change) (c : Change) (p : Parts) → AreApart p (xs ++ c ∷ ys)
    → AreApart p (c ∷ (xs ++ ys))
apart-pick xs ys c p h =
    let r : AllStand p xs × AllStand p (c ∷ ys) = stand-split p xs (c ∷ ys) h.changes in
    record {
      storage = h.storage;
      changes = (r.1.0, stand-append p xs ys r.0 r.1.1);
      once = λ i. omega (
        arith,
        h.once i,
        hold-append p.elements xs (c ∷ ys) i,
        hold-append p.elements xs ys i,
      );
      frameless = h.frameless;
      aside = omega (arith, h.aside, blanks-append xs (c ∷ ys), blanks-append xs ys);
      out = omega (arith, h.out, frames-append xs (c ∷ ys), frames-append xs ys);
    }

pub apart-put : (xs ys : List Change) (c : Change) (p : Parts) → AreApart p (c ∷ (xs ++ ys))
    → AreApart p (xs ++ c ∷ ys)
apart-put xs ys c p h =
    let r : AllStand p xs × AllStand p ys = stand-split p xs ys h.changes.1 in
    record {
      storage = h.storage;
      changes = stand-append p xs (c ∷ ys) r.0 (h.changes.0, r.1);
      once = λ i. omega (
        arith,
        h.once i,
        hold-append p.elements xs (c ∷ ys) i,
        hold-append p.elements xs ys i,
      );
      frameless = h.frameless;
      aside = omega (arith, h.aside, blanks-append xs (c ∷ ys), blanks-append xs ys);
      out = omega (arith, h.out, frames-append xs (c ∷ ys), frames-append xs ys);
    }

pub apart-rest : (xs : List Change) (c : Change) (p : Parts) → AreApart p (c ∷ xs) → AreApart p xs
apart-rest xs c p h = record {
  storage = h.storage;
  changes = h.changes.1;
  once = λ i. omega (arith, h.once i);
  frameless = h.frameless;
  aside = omega (arith, h.aside);
  out = omega (arith, h.out);
}
