-- A change is made of what is spare.
use Rattle.std.proofs.Common.{◌≡◌, ℕ, zero, suc, ◌+◌, ◌/◌, ◌%◌, ◌<◌, ◌≤◌, Bool, true, false, if◌then◌else◌, List, [], ◌++◌, length, map, get_or, replicate, Option, Some, None, IsSome, IfSome, IsTrue, ◌==◌, refl, sym, ap, ◌∙◌, arith, subst}
use Rattle.vsm_elements.specs.Store.{Store, at, SetsAside}
use Rattle.vsm_elements.specs.Chain.{Link, links, owned, ids, IsChain}
use Rattle.vsm_elements.specs.Ownership.{Leaves}
use Rattle.vsm_elements.specs.declared.chain.Chain.{Chain}
use Rattle.vsm_elements.specs.Owners.{times, Moves}
use Rattle.vsm_elements.proofs.MoveLemmas.{moves-of, moves-follow, moves-like, moves-none, rest-same, chain-live, chain-once, chain-kept}
use Rattle.run_set.specs.Runs.{Run, inside}
use Rattle.run_set.proofs.RunLemmas.{inside_true}
use Rattle.run_set.proofs.SetLemmas.{growth_keeps_sets}
use Rattle.descriptor_queue.specs.declared.extents.Extents.{Extents}
use Rattle.descriptor_queue.specs.Extents.{IsExtents, extents as runs_of}
use Rattle.raw_region.specs.Frames.{PageFrame, zeros}
use Rattle.raw_region.specs.Pages.{Pages as Tables, byte_of, byte_at, has_table, HaveTables, SamePages, SameTables}
use Rattle.raw_region.specs.Parked.{held_at}
use Rattle.raw_region.proofs.ForCallers.{byte_at-same_pages}
use Rattle.vsm_model.specs.declared.Subpool.{Subpool}
use Rattle.subpool_storage.specs.declared.storage.SubpoolStorage.{SubpoolStorage as TheParked}
use Rattle.vsm_model.specs.Search.{holds}
use Rattle.subpool_storage.specs.Extents.{extents}
use Rattle.subpool_storage.specs.Subpools.{Subpools, is_there}
use Rattle.subpool_storage.proofs.LawLemmas.{subpools_are_there}
use Rattle.subpool_storage.specs.SubpoolStorage.{subpools_of, Stands}
use Rattle.subpool_storage.specs.SubpoolStorage
use Rattle.storage_changes.specs.declared.record.Record.{Record}
use Rattle.storage_changes.specs.State.{StorageState}
use Rattle.storage_changes.specs.Changes.{Change, change_from}
use Rattle.storage_changes.proofs.Cases.{state-same}
use Rattle.storage_swap.specs.declared.storage.Parts.{Parts}
use Rattle.storage_swap.specs.Storage.{hold, state_of, byte_held, Stand, IsFrameless}
use Rattle.storage_swap.specs.declared.change.Change.{Change as TheChange}
use Rattle.storage_swap.specs.Beside.{record_at, records_of}
use Rattle.storage_swap.specs.Swap.{change_holds}
use Rattle.storage_swap.specs.Reserve.{Grown, Reserves, elements_for, emptying, emptied_extents, parked_under}
use Rattle.storage_swap.proofs.AppendLemmas.{unassigned-length}
use Rattle.storage_swap.proofs.FrameLemmas.{none-some}
use Rattle.storage_swap.proofs.Below.{storage-owns, storage-stays}
use Rattle.storage_swap.proofs.TwoLemmas.{no_ids, two}
use Rattle.storage_swap.proofs.AsideLemmas.{aside-same}
use Rattle.storage_swap.proofs.KeptLemmas.{over, holds-live, same-hold, same-stands, same-state, region-stands}

get_or-zeros : (n k : ℕ) → get_or {A = ℕ} (replicate n 0) k 0 ≡ 0
get_or-zeros zero k = refl
get_or-zeros (suc n) zero = refl
get_or-zeros (suc n) (suc k) = get_or-zeros n k

byte-zeros : (k : ℕ) → byte_of (Some zeros) k ≡ Some 0
unfolding zeros
byte-zeros k = ap Some (get_or-zeros 4096 k)

-- each address of the run's pages has a zero
byte-fresh : (frames : List PageFrame) (fresh : Run) → ((page : ℕ) → held_at frames page ≡ (if inside page fresh then Some zeros else None))
    → (a : ℕ) → byte_held frames a ≡ (if inside (a / 4096) fresh then Some 0 else None)
byte-fresh frames fresh held a = ap (λ (b : Option (List ℕ)). byte_of b (a % 4096)) (held (a / 4096)) ∙ go (inside (a / 4096) fresh) where
  go : (b : Bool) → byte_of (if b then Some zeros else None) (a % 4096) ≡ (if b then Some 0 else None)
  go true = byte-zeros (a % 4096)
  go false = refl

-- over other elements, if a call on something else leaves the storage, and over another region with the same pages
module _ (p : Parts) (e : Store) (region : Tables) (k : Stand p) (one : (i : ℕ) → hold p i ≤ 1) (g : ℕ → ℕ) (m : Moves p.elements e no_ids g) (pages : SamePages p.region region) where
  abbrev u : Parts
  u = record p { elements = e; region = region }

  own : (i : ℕ) → 0 < hold p i → at e i ≡ at p.elements i
  own = rest-same p.elements e no_ids g m (hold p) (λ i. omega (arith, one i)) (holds-live p k)

  pub moved-state : state_of u ≡ state_of p
  moved-state =
      let s : state_of (over p e) ≡ state_of p = same-state p e k own in
      state-same (state_of u) (state_of p) (ap (λ (z : StorageState). z.tasks) s) (ap (λ (z : StorageState). z.subpools) s) (λ page. ap (λ (z : StorageState). z.unassigned page) s)
      (λ a. ap (λ (b : Bool). if b then None else byte_at region a) (ap (λ (z : StorageState). z.unassigned (a / 4096)) s)
      ∙ ap (λ (o : Option ℕ). if (state_of p).unassigned (a / 4096) then None else o) (byte_at-same_pages p.region region pages a))

  pub moved-stands : Stand u
  moved-stands = region-stands (over p e) region (same-stands p e k own)

  pub moved-hold : (i : ℕ) → hold u i ≡ hold p i
  moved-hold = same-hold p e k own

  pub moved-frameless : IsFrameless p → IsFrameless u
  moved-frameless b page h = pages page ∙ b page (sym (ap (λ (z : StorageState). z.unassigned page) moved-state) ∙ h)

-- The change is put together of what it has taken, in elements in which all of it is well formed.
module _ (p : Parts) (m : Change) (fresh : Run) (k : Stand p) (one : (i : ℕ) → hold p i ≤ 1) (frameless : IsFrameless p) (tables : HaveTables p.region fresh.start fresh.len)
    (bring : (a : ℕ) → m.frames a ≡ (if inside (a / 4096) fresh then Some 0 else None))
    (end : Store) (region : Tables) (c : TheChange) (moved : Moves p.elements end no_ids (change_holds end c)) (apart : (i : ℕ) → change_holds end c i + hold p i ≤ 1)
    (records : IsChain end c.records) (is : records_of end c.records ≡ m.records) (aside : end.aside ≡ p.elements.aside + c.blanks) (count : c.blanks ≡ m.blanks)
    (parked-stands : Stands end c.parked) (parked-is : subpools_of end c.parked ≡ m.parked)
    (held : (page : ℕ) → held_at c.frames page ≡ (if inside page fresh then Some zeros else None)) (pages : SamePages p.region region) (same : SameTables p.region region)
    (long : length c.frames ≡ fresh.len) (out : region.out ≡ p.region.out + fresh.len) where
  abbrev t : Parts
  t = record p { elements = end; region = region }

  hold-end : (i : ℕ) → hold t i ≡ hold p i
  hold-end = moved-hold p end region k one (change_holds end c) moved pages

  have-places : (page : ℕ) → IsSome (held_at c.frames page) → IsTrue (has_table region page)
  have-places page n = go (inside page fresh) refl where
    go : (b : Bool) → inside page fresh ≡ b → IsTrue (has_table region page)
    go true i = let b : (fresh.start ≤ page) × (page < fresh.start + fresh.len) = inside_true page fresh i in let P : Bool → Type 0 = λ z. IsTrue z in subst P (sym (same.tables page)) (tables page b.0 b.1)
    go false o = absurd (none-some (held_at c.frames page) (held page ∙ ap (λ (b : Bool). if b then Some zeros else None) o) n)

  assembled : Reserves p m c t
  assembled = record {
    ready = record {
      stands = record {
        storage = moved-stands p end region k one (change_holds end c) moved pages;
        parked = parked-stands;
        once = λ i. omega (arith, hold-end i, apart i);
      };
      records = records;
      aside = omega (arith, aside);
      once = λ i. omega (arith, hold-end i, apart i);
      frameless = moved-frameless p end region k one (change_holds end c) moved pages frameless;
      out = omega (arith, out, long);
      places = have-places;
    };
    shows = moved-state p end region k one (change_holds end c) moved pages;
    meaning = λ i. record { records = is i; blanks = count i; frames = λ a. (byte-fresh c.frames fresh held a ∙ sym (bring a)) i; parked = parked-is i };
    held = hold-end;
    moves = moved;
    aside = aside;
    tables = record { tables = λ page n. (let P : Bool → Type 0 = λ z. IsTrue z in subst P (sym (same.tables page)) n); segments = same.segments };
    out = omega (arith, out, long);
  }

module _ (p : Parts) (m : Change) (fresh : Run) (k : Stand p) (one : (i : ℕ) → hold p i ≤ 1) (frameless : IsFrameless p) (tables : HaveTables p.region fresh.start fresh.len)
    (bring : (a : ℕ) → m.frames a ≡ (if inside (a / 4096) fresh then Some 0 else None))
    (region : Tables) (frames : List PageFrame) (held : (page : ℕ) → held_at frames page ≡ (if inside page fresh then Some zeros else None)) (pages : SamePages p.region region) (same : SameTables p.region region)
    (long : length frames ≡ fresh.len) (out : region.out ≡ p.region.out + fresh.len) where
  abbrev with-chain : Chain → ℕ → TheParked → TheChange
  with-chain chain blanks parked = record { records = chain; blanks = blanks; frames = frames; parked = parked }

  -- the records first, then the blank elements are set aside, and what is parked comes at last,
  module _ (e : Store) (chain : Chain) (stand : IsChain e chain) (is : records_of e chain ≡ m.records) (f : Leaves p.elements e [] (owned e chain))
      (e' : Store) (blanks : ℕ) (count : blanks ≡ m.blanks) (set : SetsAside e e' blanks)
      (end : Store) (parked : TheParked) (parked-stands : Stands end parked) (parked-is : subpools_of end parked ≡ m.parked) (h : Moves e' end no_ids (SubpoolStorage.hold end parked)) (kept : end.aside ≡ e'.aside) where
    chain-then : IsChain e' chain × (links e' chain ≡ links e chain)
    chain-then = chain-kept e e' chain stand (λ i n. set.same i)

    ids-then : (i : ℕ) → times i (owned e' chain) ≡ times i (owned e chain)
    ids-then i = ap (λ (ns : List Link). times i (ids ns)) chain-then.1

    first : Moves p.elements e' no_ids (λ i. times i (owned e' chain))
    first = moves-follow p.elements e e' no_ids (λ i. times i (owned e chain)) (λ i. times i (owned e' chain)) (moves-of p.elements e [] (owned e chain) f)
        (moves-like e e' (λ i. times i (owned e chain)) (λ i. times i (owned e chain)) (λ i. times i (owned e chain)) (λ i. times i (owned e' chain)) (moves-none e e' (λ i. times i (owned e chain)) set.same) (λ i. refl) ids-then)

    abbrev two-last : ((i : ℕ) → 0 < times i (owned e' chain) + hold p i → at end i ≡ at e' i)
        × ((i : ℕ) → SubpoolStorage.hold end parked i + (times i (owned e' chain) + hold p i) ≤ 1)
        × Moves p.elements end no_ids (λ i. times i (owned e' chain) + SubpoolStorage.hold end parked i)
    two-last = two p k one e' end (λ i. times i (owned e' chain)) (SubpoolStorage.hold end parked)
        first (chain-once e' chain chain-then.0) (chain-live e' chain chain-then.0)
        h (storage-owns end parked parked-stands).0

    chain-stays : IsChain end chain × (links end chain ≡ links e' chain)
    chain-stays = chain-kept e' end chain chain-then.0 (λ i n. two-last.0 i (omega (arith, n)))

    chain-ids-stay : (i : ℕ) → times i (owned end chain) ≡ times i (owned e' chain)
    chain-ids-stay i = ap (λ (ns : List Link). times i (ids ns)) chain-stays.1

    pub reserves : Reserves p m (with-chain chain blanks parked) (record p { elements = end; region = region })
    reserves = assembled p m fresh k one frameless tables bring end region (with-chain chain blanks parked)
        (moves-like p.elements end no_ids (λ i. times i (owned e' chain) + SubpoolStorage.hold end parked i) no_ids (change_holds end (with-chain chain blanks parked)) two-last.2 (λ i. refl) (λ i. omega (arith, chain-ids-stay i)))
        (λ i. omega (arith, two-last.1 i, chain-ids-stay i))
        chain-stays.0 (ap (map record_at) (chain-stays.1 ∙ chain-then.1) ∙ is) (omega (arith, kept, set.aside, aside-same p.elements e f.as_many)) count parked-stands parked-is held pages same long out

  -- or what is parked first, then the records, and the blank elements at last
  module _ (e : Store) (parked : TheParked) (parked-stands : Stands e parked) (parked-is : subpools_of e parked ≡ m.parked) (f : Moves p.elements e no_ids (SubpoolStorage.hold e parked)) (kept : e.aside ≡ p.elements.aside)
      (e' : Store) (chain : Chain) (stand : IsChain e' chain) (is : records_of e' chain ≡ m.records) (g : Leaves e e' [] (owned e' chain))
      (end : Store) (blanks : ℕ) (count : blanks ≡ m.blanks) (set : SetsAside e' end blanks) where
    abbrev parked-first : ((i : ℕ) → 0 < SubpoolStorage.hold e parked i + hold p i → at e' i ≡ at e i)
        × ((i : ℕ) → times i (owned e' chain) + (SubpoolStorage.hold e parked i + hold p i) ≤ 1)
        × Moves p.elements e' no_ids (λ i. SubpoolStorage.hold e parked i + times i (owned e' chain))
    parked-first = two p k one e e' (SubpoolStorage.hold e parked) (λ i. times i (owned e' chain))
        f (storage-owns e parked parked-stands).0 (storage-owns e parked parked-stands).1
        (moves-of e e' [] (owned e' chain) g) (chain-once e' chain stand)

    parked-stays : Stands end parked × (subpools_of end parked ≡ subpools_of e parked) × ((i : ℕ) → SubpoolStorage.hold end parked i ≡ SubpoolStorage.hold e parked i)
    parked-stays = storage-stays e end parked parked-stands (λ i n. set.same i ∙ parked-first.0 i (omega (arith, n)))

    chain-after : IsChain end chain × (links end chain ≡ links e' chain)
    chain-after = chain-kept e' end chain stand (λ i n. set.same i)

    ids-after : (i : ℕ) → times i (owned end chain) ≡ times i (owned e' chain)
    ids-after i = ap (λ (ns : List Link). times i (ids ns)) chain-after.1

    pub reserves-parked : Reserves p m (with-chain chain blanks parked) (record p { elements = end; region = region })
    reserves-parked = assembled p m fresh k one frameless tables bring end region (with-chain chain blanks parked)
        (moves-like p.elements end no_ids (λ i. SubpoolStorage.hold e parked i + times i (owned e' chain)) no_ids (change_holds end (with-chain chain blanks parked))
        (moves-follow p.elements e' end no_ids (λ i. SubpoolStorage.hold e parked i + times i (owned e' chain)) (λ i. SubpoolStorage.hold e parked i + times i (owned e' chain)) parked-first.2 (moves-none e' end (λ i. SubpoolStorage.hold e parked i + times i (owned e' chain)) set.same))
        (λ i. refl) (λ i. omega (arith, ids-after i, parked-stays.2 i)))
        (λ i. omega (arith, parked-first.1 i, ids-after i, parked-stays.2 i))
        chain-after.0 (ap (map record_at) chain-after.1 ∙ is) (omega (arith, kept, set.aside, aside-same e e' g.as_many)) count parked-stays.0 (parked-stays.1 ∙ parked-is) held pages same long out

-- what the change means, by its parts
module _ (m : Subpools) (records : List Record) (blanks : ℕ) (fresh : Run) where
  pub meant-records : (emptied : Option Subpool) → (change_from m emptied records blanks fresh).records ≡ emptying emptied (emptied_extents m emptied) ++ records
  meant-records None = refl
  meant-records (Some p) = refl

  pub meant-blanks : (emptied : Option Subpool) → (change_from m emptied records blanks fresh).blanks ≡ length (emptied_extents m emptied) + blanks
  meant-blanks None = omega arith
  meant-blanks (Some p) = refl

  pub meant-parked : (emptied : Option Subpool) → (change_from m emptied records blanks fresh).parked ≡ parked_under emptied
  meant-parked None = refl
  meant-parked (Some p) = refl

  pub meant-frames : (emptied : Option Subpool) (a : ℕ) → (change_from m emptied records blanks fresh).frames a ≡ (if inside (a / 4096) fresh then Some 0 else None)
  meant-frames None a = refl
  meant-frames (Some p) a = refl

-- how many elements its parts take
pub parts-take : (m : Subpools) (emptied : Option Subpool) (n blanks : ℕ)
    → elements_for m emptied n blanks ≡ (length (emptying emptied (emptied_extents m emptied)) + n) + (length (emptied_extents m emptied) + blanks) + length (emptying emptied [])
parts-take m None n blanks = omega arith
parts-take m (Some p) n blanks = (let k = unassigned-length (extents m p) in omega (arith, k))

pub room-parked : (emptied : Option Subpool) (spare : ℕ) → length (emptying emptied []) ≤ spare → IfSome emptied (λ _. 0 < spare)
room-parked None spare h = tt
room-parked (Some p) spare h = omega (arith, h)

-- a subpool that exists has a possible name
there-some : (m : Subpools) (p : Subpool) → is_there m p ≡ true → IsSome (m.sight p.owner p.number)
there-some m p h = go (m.sight p.owner p.number) h where
  go : (o : Option ℕ) → holds (λ owner. owner == p.owner) o ≡ true → IsSome o
  go None e = cc
  go (Some x) e = refl

pub parked-range : (s : Store) (q : TheParked) → Stands s q → (emptied : Option Subpool) → IfSome emptied (λ p. is_there (subpools_of s q) p ≡ true)
    → IfSome emptied (λ p. (1 ≤ p.owner) × (p.owner ≤ 64) × (p.number ≤ 127))
parked-range s q k None h = tt
parked-range s q k (Some p) h = (subpools_are_there s q k).0 p.owner p.number (there-some (subpools_of s q) p h)

-- the growth before it
module _ (p m : Parts) (k : Stand p) (one : (i : ℕ) → hold p i ≤ 1) (g : Grown p m) where
  still : Moves p.elements m.elements no_ids no_ids
  still = moves-none p.elements m.elements no_ids g.elements

  pub grown-stands : Stand m
  grown-stands = let P : Parts → Type 0 = λ z. Stand z in subst P (sym g.same) (moved-stands p m.elements m.region k one no_ids still g.pages)

  pub grown-state : state_of m ≡ state_of p
  grown-state = ap state_of g.same ∙ moved-state p m.elements m.region k one no_ids still g.pages

  pub grown-subpools : subpools_of m.elements m.subpools ≡ subpools_of p.elements p.subpools
  grown-subpools = ap (λ (z : StorageState). z.subpools) grown-state

  pub grown-extents : (q : Extents) → IsExtents p.elements q → IsExtents m.elements q × (runs_of m.elements q ≡ runs_of p.elements q)
  grown-extents q h = let kept = growth_keeps_sets p.elements m.elements q.set g.elements h in (kept.0, kept.1)

  grown-hold : (i : ℕ) → hold m i ≡ hold p i
  grown-hold i = ap (λ (z : Parts). hold z i) g.same ∙ moved-hold p m.elements m.region k one no_ids still g.pages i

  pub grown-once : (i : ℕ) → hold m i ≤ 1
  grown-once i = omega (arith, grown-hold i, one i)

  pub grown-frameless : IsFrameless p → IsFrameless m
  grown-frameless b = let P : Parts → Type 0 = λ z. IsFrameless z in subst P (sym g.same) (moved-frameless p m.elements m.region k one no_ids still g.pages b)

  pub grown-unassigned : (fresh : Run) → ((page : ℕ) → inside page fresh ≡ true → (state_of p).unassigned page ≡ true) → (page : ℕ) → inside page fresh ≡ true → (state_of m).unassigned page ≡ true
  grown-unassigned fresh h page i = ap (λ (z : StorageState). z.unassigned page) grown-state ∙ h page i

  pub grown-reserves : (d : Change) (c : TheChange) (t : Parts) → Reserves m d c t → Reserves p d c t
  grown-reserves d c t r = record {
    ready = r.ready;
    shows = r.shows ∙ grown-state;
    meaning = r.meaning;
    held = λ i. r.held i ∙ grown-hold i;
    moves = moves-follow p.elements m.elements t.elements no_ids no_ids (change_holds t.elements c) still r.moves;
    aside = omega (arith, r.aside, g.aside);
    tables = record { tables = λ page h. r.tables.tables page (g.tables.tables page h); segments = λ page. r.tables.segments page ∙ g.tables.segments page };
    out = omega (arith, r.out, g.out);
  }
