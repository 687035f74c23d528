-- A record of what one subpool has, of a cell pool, of its extent or of a cell, changed sides with the storage.
use Rattle.std.proofs.Common.{◌≡◌, ℕ, ◌+◌, ◌-◌, ◌*◌, ◌/◌, ◌^◌, ◌≤◌, ◌⊎◌, inl, inr, Bool, true, false, Some, None, Option, IfSome, if◌then◌else◌, List, refl, ap, sym, subst, ◌∙◌, arith}
use Rattle.std.specs.Prelude.{◌<◌, nat_lt, slice_get, IsSome}
use Rattle.vsm_elements.specs.Store.{Store, made_and_aside}
use Rattle.vsm_elements.specs.Owners.{Moves}
use Rattle.raw_region.specs.Frames.{PageFrame}
use Rattle.raw_region.specs.Pages.{byte_at}
use Rattle.cell_pool.specs.Pools.{Pool, uses, meets, without_first, with_first, extended, retracted}
use Rattle.subpool_storage.specs.declared.storage.SubpoolStorage.{SubpoolStorage as Head}
use Rattle.subpool_storage.specs.Subpools.{Subpools, with_storage_of, with_pool_of, with_changed, HasPool, IsSingle}
use Rattle.subpool_storage.specs.SubpoolStorage.{subpools_of, Becomes}
use Rattle.subpool_storage.specs.SubpoolStorage
use Rattle.storage_changes.specs.declared.record.QueuesRecord.{QueuesRecord}
use Rattle.storage_changes.specs.declared.record.CellPoolRecord.{CellPoolRecord}
use Rattle.storage_changes.specs.declared.record.CellExtentRecord.{CellExtentRecord}
use Rattle.storage_changes.specs.declared.record.CellRecord.{CellRecord}
use Rattle.storage_changes.specs.declared.record.Record.{Record}
use Rattle.storage_changes.specs.declared.record.Record.TheVariants.{Queues, CellPool, CellExtent, Cell}
use Rattle.storage_changes.specs.Walk.{Walk}
use Rattle.storage_changes.specs.Steps.{step, extent_elements}
use Rattle.storage_changes.specs.Fits.{IsExtent, CellPoolFits, CellExtentFits, CellFits}
use Rattle.storage_changes.proofs.Cases.{cond-in, cond-out}
use Rattle.storage_swap.specs.declared.storage.Parts.{Parts}
use Rattle.storage_swap.specs.Storage.{walk_of, StandsWith}
use Rattle.storage_swap.specs.Exchange.{Exchanges}
use Rattle.storage_swap.proofs.WalkLemmas.{walk-by-places}
use Rattle.storage_swap.proofs.CallLemmas.{with-exchanged, exchanged-pages, exchanged-tasks, exchanged-stand, exchanged-move}
use Rattle.storage_swap.proofs.SubpoolLemmas.{tables-same, walk_with, exchanges}

-- a walk whose subpools and parked ones are others
abbrev walk_between : Walk → Subpools → Subpools → Walk
walk_between w subpools parked = record w { state = record w.state { subpools = subpools }; parked = parked }

-- what changes places with what is parked
module _ (p : Parts) (parked : Head) (k : StandsWith p parked) (e : Store) (q others : Head) (now parked-now : Subpools)
    (new : SubpoolStorage.Stands e q) (new-parked : SubpoolStorage.Stands e others) (is : subpools_of e q ≡ now) (parked-is : subpools_of e others ≡ parked-now)
    (moved : Moves p.elements e (λ i. SubpoolStorage.hold p.elements p.subpools i + SubpoolStorage.hold p.elements parked i) (λ i. SubpoolStorage.hold e q i + SubpoolStorage.hold e others i))
    (apart : (i : ℕ) → SubpoolStorage.hold e q i + SubpoolStorage.hold e others i ≤ 1)
    (spares : e.spare ≡ p.elements.spare) (as-many : made_and_aside e ≡ made_and_aside p.elements) where
  abbrev t : Parts
  t = with-exchanged p parked k e q others moved new new-parked apart

  between : (given : List PageFrame) (kept : ℕ) → walk_of t given others kept ≡ walk_between (walk_of p given parked kept) now parked-now
  between given kept =
      let u = exchanged-pages p parked k e q others moved new new-parked apart in
      let w = exchanged-tasks p parked k e q others moved new new-parked apart in
      walk-by-places (walk_of t given others kept) (walk_between (walk_of p given parked kept) now parked-now)
      refl w.parents (λ task n. ap (λ (z : ℕ). if nat_lt n 16 then z else 0) (w.words task n)) is u.unassigned
      (λ a. ap (λ (z : Bool). if z then None else byte_at p.region a) (u.unassigned (a / 4096)))
      (λ a. ap (λ (z : Bool). if z then byte_at p.region a else None) (u.unassigned (a / 4096)))
      (λ a. refl) parked-is (ap (λ (z : ℕ). z - kept) spares)

  changed-places : (given : List PageFrame) (r : Record) → ((kept : ℕ) → walk_between (walk_of p given parked kept) now parked-now ≡ step (walk_of p given parked kept) r) → Exchanges p t given given parked others r
  changed-places given r h = record {
    stands = exchanged-stand p parked k e q others moved new new-parked apart;
    moves = exchanged-move p parked k e q others moved new new-parked apart;
    as_many = as-many;
    steps = λ kept le fits. (omega (arith, le, spares), between given kept ∙ h kept);
    out = refl;
    tables = tables-same p.region;
    frames = record { spare = refl; made = refl };
    places = λ places. places;
  }

-- the pages, the free storage and the cell pools of a subpool, and a cell pool
module _ (p : Parts) (parked : Head) (k : StandsWith p parked) (e : Store) (q others : Head)
    (new : SubpoolStorage.Stands e q) (new-parked : SubpoolStorage.Stands e others)
    (moved : Moves p.elements e (λ i. SubpoolStorage.hold p.elements p.subpools i + SubpoolStorage.hold p.elements parked i) (λ i. SubpoolStorage.hold e q i + SubpoolStorage.hold e others i))
    (apart : (i : ℕ) → SubpoolStorage.hold e q i + SubpoolStorage.hold e others i ≤ 1)
    (spares : e.spare ≡ p.elements.spare) (as-many : made_and_aside e ≡ made_and_aside p.elements) where
  abbrev had : Subpools
  had = subpools_of p.elements p.subpools

  abbrev had-parked : Subpools
  had-parked = subpools_of p.elements parked

  pub queues-exchanged : (r : QueuesRecord) → subpools_of e q ≡ with_storage_of had had-parked r.subpool → subpools_of e others ≡ with_storage_of had-parked had r.subpool
      → (given : List PageFrame) → Exchanges p (record p { elements = e; subpools = q }) given given parked others (Queues r)
  queues-exchanged r is parked-is given = changed-places p parked k e q others (with_storage_of had had-parked r.subpool) (with_storage_of had-parked had r.subpool) new new-parked is parked-is moved apart spares as-many given (Queues r) (λ kept. refl)

  pub pool-exchanged : (r : CellPoolRecord) → subpools_of e q ≡ with_pool_of had had-parked r.pool → subpools_of e others ≡ with_pool_of had-parked had r.pool
      → (given : List PageFrame) → Exchanges p (record p { elements = e; subpools = q }) given given parked others (CellPool r)
  pool-exchanged r is parked-is given = changed-places p parked k e q others (with_pool_of had had-parked r.pool) (with_pool_of had-parked had r.pool) new new-parked is parked-is moved apart spares as-many given (CellPool r) (λ kept. refl)

-- the last extent of a cell pool
module _ (p : Parts) (e : Store) (q : Head) (pool start count : ℕ) where
  abbrev cell_extent_record : Bool → CellExtentRecord
  cell_extent_record present = record { pool = pool; start = start; count = count; present = present }

  abbrev with-extent : Subpools
  with-extent = with_changed (subpools_of p.elements p.subpools) pool (extended start count)

  abbrev without-extent : Subpools
  without-extent = with_changed (subpools_of p.elements p.subpools) pool (retracted count)

  pub extent-came : Becomes p.elements e p.subpools q with-extent → e.spare + extent_elements (cell_extent_record true) ≡ p.elements.spare
      → (given : List PageFrame) (parked : Head) → StandsWith p parked → Exchanges p (record p { elements = e; subpools = q }) given given parked parked (CellExtent (cell_extent_record true))
  extent-came b spares given parked k =
      exchanges p e q parked k with-extent b given (CellExtent (cell_extent_record true))
      (λ kept le h. (omega (arith, spares, le, h.room), ap (walk_with (walk_of p given parked kept) with-extent) (omega (arith, spares, le, h.room))))

  pub extent-went : Becomes p.elements e p.subpools q without-extent → e.spare ≡ p.elements.spare + extent_elements (cell_extent_record false)
      → (given : List PageFrame) (parked : Head) → StandsWith p parked → Exchanges p (record p { elements = e; subpools = q }) given given parked parked (CellExtent (cell_extent_record false))
  extent-went b spares given parked k =
      exchanges p e q parked k without-extent b given (CellExtent (cell_extent_record false))
      (λ kept le h. (omega (arith, spares, le), ap (walk_with (walk_of p given parked kept) without-extent) (omega (arith, spares, le))))

-- the first free cell of a cell pool
module _ (p : Parts) (e : Store) (q : Head) (pool cell : ℕ) where
  abbrev cell_record : Bool → CellRecord
  cell_record free = record { pool = pool; cell = cell; free = free }

  abbrev with-cell : Subpools
  with-cell = with_changed (subpools_of p.elements p.subpools) pool (with_first cell)

  abbrev without-cell : Subpools
  without-cell = with_changed (subpools_of p.elements p.subpools) pool without_first

  pub cell-came : Becomes p.elements e p.subpools q with-cell → e.spare ≡ p.elements.spare
      → (given : List PageFrame) (parked : Head) → StandsWith p parked → Exchanges p (record p { elements = e; subpools = q }) given given parked parked (Cell (cell_record true))
  cell-came b spares given parked k =
      exchanges p e q parked k with-cell b given (Cell (cell_record true))
      (λ kept le h. (omega (arith, spares, le), ap (walk_with (walk_of p given parked kept) with-cell) (omega (arith, spares, le))))

  pub cell-went : Becomes p.elements e p.subpools q without-cell → e.spare ≡ p.elements.spare
      → (given : List PageFrame) (parked : Head) → StandsWith p parked → Exchanges p (record p { elements = e; subpools = q }) given given parked parked (Cell (cell_record false))
  cell-went b spares given parked k =
      exchanges p e q parked k without-cell b given (Cell (cell_record false))
      (λ kept le h. (omega (arith, spares, le), ap (walk_with (walk_of p given parked kept) without-cell) (omega (arith, spares, le))))

-- a record whose test has a value
pub cell-extent-as : (r : CellExtentRecord) (v : Bool) → r.present ≡ v → CellExtent (record { pool = r.pool; start = r.start; count = r.count; present = v }) ≡ CellExtent r
cell-extent-as r v e = λ i. CellExtent (record { pool = r.pool; start = r.start; count = r.count; present = sym e i })

pub cell-as : (r : CellRecord) (v : Bool) → r.free ≡ v → Cell (record { pool = r.pool; cell = r.cell; free = v }) ≡ Cell r
cell-as r v e = λ i. Cell (record { pool = r.pool; cell = r.cell; free = sym e i })

-- What the calls require.

if-found : (o : Option Pool) (P : Pool → Type 0) → ((p : Pool) → o ≡ Some p → P p) → IfSome o P
if-found None P h = tt
if-found (Some p) P h = h p refl

-- what follows from whichever exists, if one does
of-found : (o : Option Pool) (P : Type 0) → IsSome o → ((p : Pool) → o ≡ Some p → P) → P
of-found None P there h = cc
of-found (Some p) P there h = h p refl

room-for : (b : Bool) (n m : ℕ) → n ≤ m + (if b then 0 else n) → b ≡ true → n ≤ m
room-for true n m h e = omega (arith, h)
room-for false n m h e = cc

-- one of two exists, and not the other one: what holds of it holds of what either is
of-either : (b : Bool) (x y : Option Pool) (P : Pool → Type 0) → (if b then y else x) ≡ None → ((p : Pool) → (if b then x else y) ≡ Some p → P p) → (p : Pool) → (y ≡ Some p) ⊎ (x ≡ Some p) → P p
of-either true x y P none h p (inl e) = cc
of-either true x y P none h p (inr e) = h p e
of-either false x y P none h p (inl e) = h p e
of-either false x y P none h p (inr e) = cc

pub pool-single : (w : Walk) (r : CellPoolRecord) → CellPoolFits w r → (p : Pool) → HasPool w.state.subpools w.parked r.pool p → IsSingle w.state.subpools w.parked r.pool p.name
pool-single w r h = of-either r.present (w.parked.cells r.pool) (w.state.subpools.cells r.pool) (λ p. IsSingle w.state.subpools w.parked r.pool p.name) h.not_there h.single

module _ (w : Walk) (r : CellExtentRecord) (h : CellExtentFits w r) where
  -- an extent that is added
  module _ (come : r.present ≡ true) where
    comes : (p : Pool) → w.state.subpools.cells r.pool ≡ Some p → IsExtent r p p
    comes p e = let P : Pool → Type 0 = λ z. IsExtent r p z in subst P (cond-in r.present p (retracted r.count p) come) (h.extent p e)

    pub extent-range : IfSome (w.state.subpools.cells r.pool) (λ p. r.start + r.count * p.settings.size ≤ 2 ^ 32)
    extent-range = if-found (w.state.subpools.cells r.pool) (λ p. r.start + r.count * p.settings.size ≤ 2 ^ 32) (λ p e. (comes p e).range)

    pub extent-apart : IfSome (w.state.subpools.cells r.pool) (λ p. meets r.start (r.count * p.settings.size) p ≡ false)
    extent-apart = if-found (w.state.subpools.cells r.pool) (λ p. meets r.start (r.count * p.settings.size) p ≡ false) (λ p e. (comes p e).apart)

    pub extent-some : 0 < r.count
    extent-some = of-found (w.state.subpools.cells r.pool) (0 < r.count) h.there (λ p e. (comes p e).some)

    pub extent-room : extent_elements r ≤ w.spare
    extent-room = room-for r.present (extent_elements r) w.spare h.room come

  pub extent-last : r.present ≡ false → IfSome (w.state.subpools.cells r.pool) (λ p. p ≡ extended r.start r.count (retracted r.count p))
  extent-last goes = if-found (w.state.subpools.cells r.pool) (λ p. p ≡ extended r.start r.count (retracted r.count p))
      (λ p e. (h.extent p e).last goes ∙ ap (extended r.start r.count) (cond-out r.present p (retracted r.count p) goes))

module _ (w : Walk) (r : CellRecord) (h : CellFits w r) where
  pub cell-used : r.free ≡ true → IfSome (w.state.subpools.cells r.pool) (λ p. uses p r.cell ≡ true)
  cell-used come = if-found (w.state.subpools.cells r.pool) (λ p. uses p r.cell ≡ true)
      (λ p e. sym (ap (λ (z : Pool). uses z r.cell) (cond-in r.free p (without_first p) come)) ∙ (h.cell p e).used)

  pub cell-first : r.free ≡ false → IfSome (w.state.subpools.cells r.pool) (λ p. slice_get p.cells 0 ≡ Some r.cell)
  cell-first goes = if-found (w.state.subpools.cells r.pool) (λ p. slice_get p.cells 0 ≡ Some r.cell)
      (λ p e. ap (λ (z : Pool). slice_get z.cells 0) ((h.cell p e).first goes))
