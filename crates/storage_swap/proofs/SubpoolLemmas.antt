-- A record of an area, of an extent, or of whose a subpool is and who sees it, changed sides with the storage.
use Rattle.std.proofs.Common.{◌≡◌, ℕ, ◌+◌, ◌-◌, ◌/◌, ◌≤◌, Bool, true, false, None, if◌then◌else◌, List, refl, ap, sym, subst, ◌∙◌, arith}
use Rattle.std.specs.Prelude.{nat_lt}
use Rattle.vsm_elements.specs.Store.{Store}
use Rattle.run_set.specs.Runs.{Run}
use Rattle.run_set.specs.Counts.{joins}
use Rattle.vsm_model.specs.declared.Subpool.{Subpool}
use Rattle.raw_region.specs.Frames.{PageFrame}
use Rattle.raw_region.specs.Pages.{Pages as Tables, byte_at, SameTables}
use Rattle.subpool_storage.specs.declared.storage.SubpoolStorage.{SubpoolStorage as Head}
use Rattle.subpool_storage.specs.Subpools.{Subpools, with_pages, with_free, with_own, with_sharer, with_passed}
use Rattle.subpool_storage.specs.SubpoolStorage.{subpools_of, Becomes}
use Rattle.storage_changes.specs.declared.record.AreaRecord.{AreaRecord}
use Rattle.storage_changes.specs.declared.record.ExtentRecord.{ExtentRecord}
use Rattle.storage_changes.specs.declared.record.OwnRecord.{OwnRecord}
use Rattle.storage_changes.specs.declared.record.SharerRecord.{SharerRecord}
use Rattle.storage_changes.specs.declared.record.PassRecord.{PassRecord}
use Rattle.storage_changes.specs.declared.record.Record.{Record}
use Rattle.storage_changes.specs.declared.record.Record.TheVariants.{Area, Extent, Own, Sharer, Pass}
use Rattle.storage_changes.specs.Walk.{Walk}
use Rattle.storage_changes.specs.Steps.{step}
use Rattle.storage_changes.specs.Fits.{Fits}
use Rattle.storage_swap.specs.declared.storage.Parts.{Parts}
use Rattle.storage_swap.specs.Storage.{walk_of, StandsWith}
use Rattle.storage_swap.specs.Exchange.{Exchanges}
use Rattle.storage_swap.proofs.WalkLemmas.{walk-by-places}
use Rattle.storage_swap.proofs.CallLemmas.{with-subpools, subpools-pages, subpools-tasks, subpools-parked, subpools-stand, subpools-move}

pub tables-same : (s : Tables) → SameTables s s
tables-same s = record { tables = λ page. refl; segments = λ page. refl }

-- a walk whose subpools and blank elements are others
abbrev pub walk_with : Walk → Subpools → ℕ → Walk
walk_with w subpools spare = record w { state = record w.state { subpools = subpools }; spare = spare }

module _ (p : Parts) (e : Store) (q parked : Head) (k : StandsWith p parked) (now : Subpools) (b : Becomes p.elements e p.subpools q now) where
  abbrev t : Parts
  t = with-subpools p parked k e q b.moves b.stands

  walk-now : (given : List PageFrame) (kept : ℕ) → walk_of t given parked kept ≡ walk_with (walk_of p given parked kept) now (e.spare - kept)
  walk-now given kept =
      let u = subpools-pages p parked k e q b.moves b.stands in
      let w = subpools-tasks p parked k e q b.moves b.stands in
      walk-by-places (walk_of t given parked kept) (walk_with (walk_of p given parked kept) now (e.spare - kept))
      refl w.parents (λ task r. ap (λ (z : ℕ). if nat_lt r 16 then z else 0) (w.words task r)) b.subpools u.unassigned
      (λ a. ap (λ (z : Bool). if z then None else byte_at p.region a) (u.unassigned (a / 4096)))
      (λ a. ap (λ (z : Bool). if z then byte_at p.region a else None) (u.unassigned (a / 4096)))
      (λ a. refl) (subpools-parked p parked k e q b.moves b.stands).same refl

  pub exchanges : (given : List PageFrame) (r : Record)
      → ((kept : ℕ) → kept ≤ p.elements.spare → Fits (walk_of p given parked kept) r
      → (kept ≤ e.spare) × (walk_with (walk_of p given parked kept) now (e.spare - kept) ≡ step (walk_of p given parked kept) r))
      → Exchanges p t given given parked parked r
  exchanges given r h = record {
    stands = subpools-stand p parked k e q b.moves b.stands;
    moves = subpools-move p parked k e q b.moves b.stands;
    as_many = b.as_many;
    steps = λ kept le fits. (let s = h kept le fits in (s.0, walk-now given kept ∙ s.1));
    out = refl;
    tables = tables-same p.region;
    frames = record { spare = refl; made = refl };
    places = λ places. places;
  }

-- the doublewords of an area

module _ (p : Parts) (e : Store) (subpool : Subpool) (area : Run) where
  abbrev area_record : Bool → AreaRecord
  area_record free = record { subpool = subpool; area = area; free = free }

  pub freed : Becomes p.elements e p.subpools p.subpools (with_free (subpools_of p.elements p.subpools) subpool area true)
      → e.spare + 1 ≡ p.elements.spare + joins ((subpools_of p.elements p.subpools).free subpool) area
      → (given : List PageFrame) (parked : Head) → StandsWith p parked → Exchanges p (record p { elements = e }) given given parked parked (Area (area_record true))
  freed b spares given parked k =
      exchanges p e p.subpools parked k (with_free (subpools_of p.elements p.subpools) subpool area true) b given (Area (area_record true))
      (λ kept le h. (
        omega (arith, spares, le, h.room),
        ap (walk_with (walk_of p given parked kept) (with_free (subpools_of p.elements p.subpools) subpool area true)) (omega (arith, spares, le, h.room)),
      ))

  pub carved : Becomes p.elements e p.subpools p.subpools (with_free (subpools_of p.elements p.subpools) subpool area false)
      → e.spare + joins ((subpools_of p.elements p.subpools).free subpool) area ≡ p.elements.spare + 1
      → (given : List PageFrame) (parked : Head) → StandsWith p parked → Exchanges p (record p { elements = e }) given given parked parked (Area (area_record false))
  carved b spares given parked k =
      exchanges p e p.subpools parked k (with_free (subpools_of p.elements p.subpools) subpool area false) b given (Area (area_record false))
      (λ kept le h. (
        omega (arith, spares, le, h.room_after),
        ap (walk_with (walk_of p given parked kept) (with_free (subpools_of p.elements p.subpools) subpool area false)) (omega (arith, spares, le, h.room)),
      ))

-- the pages of a run

module _ (p : Parts) (e : Store) (subpool : Subpool) (run : Run) where
  abbrev extent_record : Bool → ExtentRecord
  extent_record present = record { subpool = subpool; run = run; present = present }

  pub inserted : Becomes p.elements e p.subpools p.subpools (with_pages (subpools_of p.elements p.subpools) subpool run true)
      → e.spare + 1 ≡ p.elements.spare + joins ((subpools_of p.elements p.subpools).pages subpool) run
      → (given : List PageFrame) (parked : Head) → StandsWith p parked → Exchanges p (record p { elements = e }) given given parked parked (Extent (extent_record true))
  inserted b spares given parked k =
      exchanges p e p.subpools parked k (with_pages (subpools_of p.elements p.subpools) subpool run true) b given (Extent (extent_record true))
      (λ kept le h. (
        omega (arith, spares, le, h.room),
        ap (walk_with (walk_of p given parked kept) (with_pages (subpools_of p.elements p.subpools) subpool run true)) (omega (arith, spares, le, h.room)),
      ))

  pub removed : Becomes p.elements e p.subpools p.subpools (with_pages (subpools_of p.elements p.subpools) subpool run false)
      → e.spare + joins ((subpools_of p.elements p.subpools).pages subpool) run ≡ p.elements.spare + 1
      → (given : List PageFrame) (parked : Head) → StandsWith p parked → Exchanges p (record p { elements = e }) given given parked parked (Extent (extent_record false))
  removed b spares given parked k =
      exchanges p e p.subpools parked k (with_pages (subpools_of p.elements p.subpools) subpool run false) b given (Extent (extent_record false))
      (λ kept le h. (
        omega (arith, spares, le, h.room_after),
        ap (walk_with (walk_of p given parked kept) (with_pages (subpools_of p.elements p.subpools) subpool run false)) (omega (arith, spares, le, h.room)),
      ))

-- an owner's subpool

module _ (p : Parts) (e : Store) (q : Head) (subpool : Subpool) where
  abbrev own_record : Bool → OwnRecord
  own_record present = record { subpool = subpool; present = present }

  pub created : Becomes p.elements e p.subpools q (with_own (subpools_of p.elements p.subpools) subpool true) → e.spare + 1 ≡ p.elements.spare
      → (given : List PageFrame) (parked : Head) → StandsWith p parked → Exchanges p (record p { elements = e; subpools = q }) given given parked parked (Own (own_record true))
  created b spares given parked k =
      exchanges p e q parked k (with_own (subpools_of p.elements p.subpools) subpool true) b given (Own (own_record true))
      (λ kept le h. (
        omega (arith, spares, le, h.room_after),
        ap (walk_with (walk_of p given parked kept) (with_own (subpools_of p.elements p.subpools) subpool true)) (omega (arith, spares, le, h.room)),
      ))

  pub gone : Becomes p.elements e p.subpools q (with_own (subpools_of p.elements p.subpools) subpool false) → e.spare ≡ p.elements.spare + 1
      → (given : List PageFrame) (parked : Head) → StandsWith p parked → Exchanges p (record p { elements = e; subpools = q }) given given parked parked (Own (own_record false))
  gone b spares given parked k =
      exchanges p e q parked k (with_own (subpools_of p.elements p.subpools) subpool false) b given (Own (own_record false))
      (λ kept le h. (
        omega (arith, spares, le),
        ap (walk_with (walk_of p given parked kept) (with_own (subpools_of p.elements p.subpools) subpool false)) (omega (arith, spares, le)),
      ))

-- a subpool that another task sees

module _ (p : Parts) (e : Store) (q : Head) (subpool : Subpool) (task : ℕ) where
  abbrev sharer_record : Bool → SharerRecord
  sharer_record present = record { subpool = subpool; task = task; present = present }

  pub shared : Becomes p.elements e p.subpools q (with_sharer (subpools_of p.elements p.subpools) subpool task true) → e.spare + 1 ≡ p.elements.spare
      → (given : List PageFrame) (parked : Head) → StandsWith p parked → Exchanges p (record p { elements = e; subpools = q }) given given parked parked (Sharer (sharer_record true))
  shared b spares given parked k =
      exchanges p e q parked k (with_sharer (subpools_of p.elements p.subpools) subpool task true) b given (Sharer (sharer_record true))
      (λ kept le h. (
        omega (arith, spares, le, h.room),
        ap (walk_with (walk_of p given parked kept) (with_sharer (subpools_of p.elements p.subpools) subpool task true)) (omega (arith, spares, le, h.room)),
      ))

  pub unshared : Becomes p.elements e p.subpools q (with_sharer (subpools_of p.elements p.subpools) subpool task false) → e.spare ≡ p.elements.spare + 1
      → (given : List PageFrame) (parked : Head) → StandsWith p parked → Exchanges p (record p { elements = e; subpools = q }) given given parked parked (Sharer (sharer_record false))
  unshared b spares given parked k =
      exchanges p e q parked k (with_sharer (subpools_of p.elements p.subpools) subpool task false) b given (Sharer (sharer_record false))
      (λ kept le h. (
        omega (arith, spares, le),
        ap (walk_with (walk_of p given parked kept) (with_sharer (subpools_of p.elements p.subpools) subpool task false)) (omega (arith, spares, le)),
      ))

-- a subpool that passes to another task

pub passed : (p : Parts) (e : Store) (q : Head) (r : PassRecord)
    → Becomes p.elements e p.subpools q (with_passed (subpools_of p.elements p.subpools) r.subpool r.to) → e.spare ≡ p.elements.spare
    → (given : List PageFrame) (parked : Head) → StandsWith p parked → Exchanges p (record p { elements = e; subpools = q }) given given parked parked (Pass r)
passed p e q r b spares given parked k =
    exchanges p e q parked k (with_passed (subpools_of p.elements p.subpools) r.subpool r.to) b given (Pass r)
    (λ kept le h. (
      omega (arith, spares, le),
      ap (walk_with (walk_of p given parked kept) (with_passed (subpools_of p.elements p.subpools) r.subpool r.to)) (omega (arith, spares, le)),
    ))

-- a record whose test has a value
pub area-as : (r : AreaRecord) (v : Bool) → r.free ≡ v → Area (record { subpool = r.subpool; area = r.area; free = v }) ≡ Area r
area-as r v e = λ i. Area (record { subpool = r.subpool; area = r.area; free = sym e i })

pub extent-as : (r : ExtentRecord) (v : Bool) → r.present ≡ v → Extent (record { subpool = r.subpool; run = r.run; present = v }) ≡ Extent r
extent-as r v e = λ i. Extent (record { subpool = r.subpool; run = r.run; present = sym e i })

pub own-as : (r : OwnRecord) (v : Bool) → r.present ≡ v → Own (record { subpool = r.subpool; present = v }) ≡ Own r
own-as r v e = λ i. Own (record { subpool = r.subpool; present = sym e i })

pub sharer-as : (r : SharerRecord) (v : Bool) → r.present ≡ v → Sharer (record { subpool = r.subpool; task = r.task; present = v }) ≡ Sharer r
sharer-as r v e = λ i. Sharer (record { subpool = r.subpool; task = r.task; present = sym e i })

pub exchanges-as : (p t : Parts) (given given' : List PageFrame) (parked parked' : Head) (r s : Record) → r ≡ s → Exchanges p t given given' parked parked' r → Exchanges p t given given' parked parked' s
exchanges-as p t given given' parked parked' r s e h = let P : Record → Type 0 = λ z. Exchanges p t given given' parked parked' z in subst P e h

-- a storage and a record that are equal to those
pub exchanges-by : (p t u : Parts) (given : List PageFrame) (parked : Head) (r s : Record) → u ≡ t → r ≡ s → Exchanges p t given given parked parked r → Exchanges p u given given parked parked s
exchanges-by p t u given parked r s e k h =
    let P : Parts → Type 0 = λ z. Exchanges p z given given parked parked s in
    subst P (sym e) (exchanges-as p t given given parked parked r s k h)
