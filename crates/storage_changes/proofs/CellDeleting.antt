-- A cell pool that is deleted, with its extents.
use Rattle.std.proofs.Common.{◌≡◌, inl, inr, ℕ, ◌/◌, ◌<◌, Bool, false, ◌==◌, if◌then◌else◌, List, ◌++◌, Option, Some, None, IsSome, is_some, refl, sym, ◌∙◌, ap, subst, arith}
use Rattle.std.specs.Prelude.{All, unwrap_or}
use Rattle.run_set.specs.Runs.{inside}
use Rattle.vsm_model.specs.declared.limits.Settings.{Settings}
use Rattle.vsm_model.specs.CellPools.{CellPool, cell_pool_in, without_cell_pool}
use Rattle.vsm_model.specs.Cells.{no_pool, without_extents, deleted}
use Rattle.vsm_model.specs.State.{State}
use Rattle.vsm_model.specs.WellFormed.{IsWellFormed, PagesAreSound, PoolIsSound, IsInSubpool, all_extents}
use Rattle.service_laws.proofs.CellLists.{cell_bounds}
use Rattle.service_laws.proofs.Emptied.{extents_given_back as extents_are_emptied}
use Rattle.service_laws.specs.Extents.{lies_in}
use Rattle.service_laws.proofs.Lists.{across_turned}
use Rattle.service_laws.proofs.Pools.{sight_stays, tasks_stay, sound_of, rest_of}
use Rattle.service_laws.proofs.Spans.{Apart, turned, spans, others, spans_all, parts_of, removed_sound, EachIsSound}
use Rattle.service_laws.proofs.CellTables.{row_of}
use Rattle.std.specs.List.{list_any}
use Rattle.cell_pool.specs.Pools.{Pool}
use Rattle.storage_changes.specs.TableLaws.{GonePoolsHaveNoRow, PoolsAreFound}
use Rattle.storage_changes.specs.NamedPools.{AreNamed}
use Rattle.storage_changes.specs.PoolTable.{cell_pool_of}
use Rattle.subpool_storage.specs.Subpools.{Subpools, no_subpools}
use Rattle.storage_changes.specs.declared.record.CellPoolRecord.{CellPoolRecord}
use Rattle.storage_changes.specs.declared.record.Record.{Record}
use Rattle.storage_changes.specs.declared.record.Record.TheVariants.{CellPool as CellPoolRow}
use Rattle.storage_changes.specs.Changes.{Change, change_of, outset}
use Rattle.storage_changes.specs.Fits.{Fits, FitInTurn}
use Rattle.storage_changes.specs.Meaning.{model_of, IsSound}
use Rattle.storage_changes.specs.State.{StorageState}
use Rattle.storage_changes.specs.Steps.{walk}
use Rattle.storage_changes.specs.Walk.{Walk}
use Rattle.storage_changes.specs.Leads.{AreRegisters}
use Rattle.storage_changes.specs.StorageActions.{run_of, register_records}
use Rattle.storage_changes.proofs.Goes.{walk_on, fits_on}
use Rattle.storage_changes.proofs.Rows.{with_rows, rows_fit, rows_walk, same_rows, stands_of, leads_to, fresh_of, none_fresh, none_brought, task_is_there}
use Rattle.storage_changes.specs.CellActions.{extents_given_back, deleting_records, deleting_blanks}
use Rattle.storage_changes.specs.CellLaws.{DeletingLeads}
use Rattle.storage_changes.proofs.Elsewhere.{with_cells}
use Rattle.storage_changes.proofs.CellsGivenBack.{walk_at, all_given_back}
use Rattle.storage_changes.proofs.Ready.{AreReady, ready}

-- A table without a row leaves a well-formed state well-formed, and the extents of the row's cell pool are ready.
module _ (settings : Settings) (s : State) (w : IsWellFormed settings s) (p : Pool) (found : cell_pool_in s.cell_pools p.name ≡ Some (cell_pool_of p)) where
  abbrev name : List ℕ
  name = p.name

  abbrev pool : CellPool
  pool = cell_pool_of p

  abbrev pub without : State
  without = record s { cell_pools = without_cell_pool s.cell_pools name }

  extent_kept : (q : CellPool) → All (IsInSubpool s q) q.extents → All (IsInSubpool without q) q.extents
  extent_kept q h k d below =
      let its = h k d below in
      record { has_cells = its.has_cells; on_doubleword = its.on_doubleword; is_taken = its.is_taken; in_pages = its.in_pages }

  pool_kept : (q : CellPool) → PoolIsSound s q → PoolIsSound without q
  pool_kept q h = record {
    has_subpool = h.has_subpool;
    in_subpool = extent_kept q h.in_subpool;
    are_cells_of_it = h.are_cells_of_it;
    distinct = h.distinct;
    bounds = h.bounds;
  }

  pub its : PoolIsSound s pool
  its = sound_of s name pool w.cell_pools found

  each_kept : EachIsSound without (others s.cell_pools name)
  each_kept k d below = pool_kept _ (rest_of (λ row. PoolIsSound s row.1) s.cell_pools name w.cell_pools.each k d below)

  pages_kept : PagesAreSound settings without
  pages_kept = record {
    in_region = w.pages.in_region;
    has_subpool = w.pages.has_subpool;
    has_taken = w.pages.has_taken;
    in_page = w.pages.in_page;
    has_bytes = w.pages.has_bytes;
    are_bytes = w.pages.are_bytes;
  }

  pub row_gone : IsWellFormed settings without
  row_gone = record {
    pages = pages_kept;
    sight = sight_stays s without refl w.sight;
    tasks = tasks_stay s without refl w.tasks;
    cell_pools = removed_sound s without name w.cell_pools pool found refl each_kept;
  }

  pub extents_ready : AreReady without (others s.cell_pools name) pool p.extents
  extents_ready =
      let row = row_of s.cell_pools name pool w.cell_pools.ascending found in
      let parts = parts_of s.cell_pools name pool row w.cell_pools.apart in
      let rest = all_extents (others s.cell_pools name) in
      let far = spans_all (λ y. All (Apart y) (spans pool)) (others s.cell_pools name) (across_turned Apart turned (spans pool) rest parts.2) in
      ready without (others s.cell_pools name) pool p.extents (extent_kept pool its.in_subpool) each_kept far parts.0

  -- what is left once the extents are given back, whether the row is removed before or after them
  abbrev gone : ℕ → Bool
  gone k = list_any (lies_in pool k) pool.extents

  pub deleted_is : without_extents without pool pool.extents ≡ (deleted s name).0
  deleted_is =
      let all : CellPool → State = λ q. record (without_extents s q q.extents) { cell_pools = without_cell_pool s.cell_pools name } in
      extents_are_emptied settings without pages_kept pool pool.extents
      ∙ sym (ap (λ (t : State). record t { cell_pools = without_cell_pool s.cell_pools name }) (extents_are_emptied settings s w.pages pool pool.extents))
      ∙ ap all (sym (ap (λ o. unwrap_or o no_pool) found))

  pub current_stays : (without_extents without pool pool.extents).current ≡ s.current
  current_stays = ap (λ (t : State). t.current) (extents_are_emptied settings without pages_kept pool pool.extents)

  pub words_stay : (task r : ℕ) → (without_extents without pool pool.extents).words task r ≡ s.words task r
  words_stay task r = ap (λ (t : State). t.words task r) (extents_are_emptied settings without pages_kept pool pool.extents)

module _ (m : StorageState) (p : Pool) (named : AreNamed m.subpools.cells) (there : m.subpools.cells p.id ≡ Some p) where
  abbrev r : CellPoolRecord
  r = record { pool = p.id; present = false }

  -- those that are left, and the one that the change is given
  abbrev pub left : ℕ → Option Pool
  left id = if id == p.id then None else m.subpools.cells id

  abbrev pub parked : Subpools
  parked = record no_subpools { cells = λ id. if id == p.id then m.subpools.cells id else None }

  pub goes : (d : Change) → d.parked ≡ no_subpools → Fits (outset m d) (CellPoolRow r)
  goes d bare = record {
    here = ap is_some there;
    not_there = ap (λ (v : Subpools). v.cells p.id) bare;
    single = λ q e i x has same. elim has [
      | inl own ↦ named.once i p.id x q own e same
      | inr away ↦ (let none = ap (λ (v : Subpools). v.cells i) bare in cc)
    ];
  }

-- what the walk leads to once the registers are set too
module _ (begin : Walk) (n : StorageState) (given : ℕ → Option ℕ) (parked : Subpools) (rows : List (ℕ × ℕ)) (back registers : List Record) (fits : FitInTurn begin back)
    (there : walk begin back ≡ walk_at n given parked (walk begin back).spare) (task : IsSome (n.tasks.parents n.tasks.current)) (are : AreRegisters rows)
    (same : register_records n rows ≡ registers) where
  abbrev v : Walk
  v = walk_at n given parked (walk begin back).spare

  fit : FitInTurn v registers
  fit = subst (λ rs. FitInTurn v rs) same (rows_fit v rows task are)

  pub fit_all : FitInTurn begin (back ++ registers)
  fit_all = fits_on begin back registers fits (let P : Walk → Type 0 = λ x. FitInTurn x registers in subst P (sym there) fit)

  full : walk begin (back ++ registers) ≡ record v { state = with_rows n rows }
  full = walk_on begin back registers ∙ ap (λ (x : Walk). walk x registers) there ∙ ap (walk v) (sym same) ∙ rows_walk v rows

  pub leads_there : (walk begin (back ++ registers)).state ≡ with_rows n rows
  leads_there = ap (λ (x : Walk). x.state) full

  pub brings_none : (a : ℕ) → (walk begin (back ++ registers)).brought a ≡ None
  brings_none a = ap (λ (x : Walk). x.brought a) full ∙ none_brought a

pub deleting_leads : GonePoolsHaveNoRow → PoolsAreFound → DeletingLeads
deleting_leads gone_row are_found settings m p rows valid sound named there are formed =
    let pool = cell_pool_of p in
    let s = model_of m in
    let w = sound.well_formed in
    let found = (are_found m.subpools.cells named).0 p.id p there in
    let table = without_cell_pool s.cell_pools p.name in
    let m1 = with_cells m (left m p named there) in
    let listed : model_of m1 ≡ record s { cell_pools = table } = λ i. record s { cell_pools = gone_row m.subpools.cells p.id p named there i } in
    let size : 0 < p.settings.size = (let bounds = (cell_bounds p.settings.size p.settings.primary (its settings s w p found).bounds.0).0 in omega (arith, bounds)) in
    let sound1 : IsSound settings m1 = record {
      apart = sound.apart;
      named = sound.named;
      rest = sound.rest;
      free = sound.free;
      well_formed = subst (IsWellFormed settings) (sym listed) (row_gone settings s w p found);
    } in
    let all = all_given_back settings valid p size table p.extents m1 m.subpools sound1 (ap (λ (t : State). t.cell_pools) listed)
    (subst (λ t. AreReady t table pool p.extents) (sym listed) (extents_ready settings s w p found)) (λ k own. refl) in
    let n = all.now in
    let blanks = deleting_blanks p in
    let back = extents_given_back m.subpools p.settings.subpool p.settings.size p.extents in
    let registers = register_records m rows in
    let change = change_of (deleting_records m.subpools p ++ registers) blanks (run_of 0 0) in
    let away = parked m p named there in
    let begin = walk_at m1 (λ a. None) away blanks in
    let reached = all.go (λ a. None) away blanks (λ a e. cc) (omega arith) in
    let without : model_of n ≡ without_extents (record s { cell_pools = table }) pool pool.extents =
    all.leads ∙ ap (λ t. without_extents t pool pool.extents) listed in
    let current : n.tasks.current ≡ m.tasks.current = ap (λ (t : State). t.current) without ∙ current_stays settings s w p found in
    let same : register_records n rows ≡ registers = same_rows m n rows current
    (λ r. ap (λ (t : State). t.words m.tasks.current r) without ∙ words_stay settings s w p found m.tasks.current r) in
    let task = task_is_there settings n all.sound in
    leads_to settings m n change rows (deleted s p.name).0
    (goes m p named there change refl, fit_all begin n reached.given away rows back registers reached.fits reached.there task are same)
    (leads_there begin n reached.given away rows back registers reached.fits reached.there task are same) (brings_none begin n reached.given away rows back registers reached.fits reached.there task are same)
    (λ a. fresh_of m (run_of 0 0) a (inside (a / 4096) (run_of 0 0)) refl (none_fresh m (a / 4096)))
    (stands_of settings n all.sound) (without ∙ deleted_is settings s w p found) formed
